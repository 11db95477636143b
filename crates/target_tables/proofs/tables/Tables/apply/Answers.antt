use Rattle.std.proofs.Common.{Some, None}
use Rattle.target_tables.specs.Touches.{last_at, change_at}
use Rattle.target_tables.proofs.Applying.{last_at-untouched, last_at-last, as_touched, as_clear, left_at}
use Rattle.target_tables.proofs.tables.Tables.apply.Goals as goal

pub returns-clause-values : goal.returns-clause-values
returns-clause-values g c =
    as_touched g.K.Ord.cmp c.args.self.now.entries c.stage.new.self.entries c.args.stream c.in_ok-staged.staged.stream (last_at g.K.Ord.cmp c.args.touches.items) (change_at g.K.Ord.cmp c.in_ok-staged.staged.changes)
    c.in_ok-staged.ensures.stream c.in_ok-staged.ensures.last c.stage.ensures.entries c.commit-freed.new.self.entries c.commit-freed.ensures.values

pub returns-clause-clear : goal.returns-clause-clear
returns-clause-clear g c =
    as_clear g.K.Ord.cmp c.args.self.now.entries c.stage.new.self.entries c.args.stream c.in_ok-staged.staged.stream (last_at g.K.Ord.cmp c.args.touches.items) (change_at g.K.Ord.cmp c.in_ok-staged.staged.changes)
    c.in_ok-staged.ensures.stream c.in_ok-staged.ensures.last c.stage.ensures.entries c.in_ok-staged.ensures.ready.clear

pub returns-clause-put : goal.returns-clause-put
returns-clause-put g c = λ k row h.
    left_at g.K.Ord.cmp c.args.self.now.entries c.args.stream c.args.touches.items c.commit-freed.new.self.entries (returns-clause-values g c) k (Some (Some row)) (last_at-last g.K.Ord.cmp c.args.touches.items k (Some row) h)

pub returns-clause-taken : goal.returns-clause-taken
returns-clause-taken g c = λ k h.
    left_at g.K.Ord.cmp c.args.self.now.entries c.args.stream c.args.touches.items c.commit-freed.new.self.entries (returns-clause-values g c) k (Some None) (last_at-last g.K.Ord.cmp c.args.touches.items k None h)

pub returns-clause-kept : goal.returns-clause-kept
returns-clause-kept g c = λ k h.
    left_at g.K.Ord.cmp c.args.self.now.entries c.args.stream c.args.touches.items c.commit-freed.new.self.entries (returns-clause-values g c) k None (last_at-untouched g.K.Ord.cmp c.args.touches.items k h)
