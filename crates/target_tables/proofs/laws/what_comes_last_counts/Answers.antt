use Rattle.std.proofs.Common.{Option, Some, None, cond, ap}
use Rattle.std.proofs.lemmas.Cmp.{tied_itself}
use Rattle.std.specs.Option.{option_or}
use Rattle.std.specs.Ordering.{is_eq}
use Rattle.target_tables.specs.Touches.{touched}
use Rattle.target_tables.proofs.Keeping.{last_at-snoc}
use Rattle.target_tables.proofs.Applying.{last_at-untouched, last_at-last}
use Rattle.target_tables.proofs.laws.what_comes_last_counts.Goals as goal

pub returns-clause-last : goal.returns-clause-last
returns-clause-last g c = λ touches k q row. last_at-snoc g.K.Ord.cmp touches k q row

pub returns-clause-comes_last : goal.returns-clause-comes_last
returns-clause-comes_last g c = λ touches k row h. last_at-last g.K.Ord.cmp touches k row h

pub returns-clause-untouched : goal.returns-clause-untouched
returns-clause-untouched g c = λ touches k h. last_at-untouched g.K.Ord.cmp touches k h

pub returns-clause-removed_and_put : goal.returns-clause-removed_and_put
returns-clause-removed_and_put g c = λ k row stream there.
    let nothing : Option g.row.R.Denot = None in
    ap (λ b. touched stream (option_or (cond b (Some (Some row)) None) (cond b (Some nothing) None)) there) (ap is_eq (tied_itself g.met.K.Ord.total k))

pub returns-clause-put_and_removed : goal.returns-clause-put_and_removed
returns-clause-put_and_removed g c = λ k row stream there.
    let nothing : Option g.row.R.Denot = None in
    ap (λ b. touched stream (option_or (cond b (Some nothing) None) (cond b (Some (Some row)) None)) there) (ap is_eq (tied_itself g.met.K.Ord.total k))
