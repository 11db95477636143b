use Rattle.std.proofs.Common.{◌≡◌, ◌+◌, ◌<◌, ◌++◌, ◌∙◌, List, ℕ, length, ap, sym, subst, Err}
use Rattle.std.proofs.lemmas.Result.{err_from_is_err_and}
use Rattle.filter_rule.specs.PlanValue.{table_name}
use Rattle.dump.specs.Dump.{table_line}
use Rattle.dump.specs.DumpReading.{Behind}
use Rattle.dump.specs.Private.Reading.{TakesLine}
use Rattle.dump.proofs.ReadingLaws.{err_is}
use Rattle.dump.proofs.StandLaws.{table_begins, none_stands}
use Rattle.dump.proofs.reading.LinesRead.take_line.Goals as goal

pub returns-in-Some-clause-taken : goal.returns-in-Some-clause-taken
returns-in-Some-clause-taken c =
    let old : Behind = record { begun = c.self.inside.begun; rows = c.self.inside.rows } in
    subst (λ (s : Behind). TakesLine c.args.plan.now s (record { begun = c.self.inside.begun + 1; rows = c.self.inside.rows }) c.args.text.now c.in-Some.rest.now) c.self.view_is
    (table_begins _ old _ _ c.in-Some.ensures.line.0 c.in-Some.ensures.line.1)

pub returns-in_err-rest-clause-bad : goal.returns-in_err-rest-clause-bad
returns-in_err-rest-clause-bad c =
    let p = err_from_is_err_and c.from_residual.result c.from_residual.ensures.1 in
    λ e. none_stands _ _ _ (subst (λ (s : Behind). s.begun < length c.args.plan.now.tables → (rest : List ℕ) → c.args.text.now ≡ table_line (table_name c.args.plan.now s.begun) ++ rest → ⊥) c.self.view_is c.in_default.ensures.line) (c.in_err-rest.ensures.bad (ap Err (sym p.2 ∙ err_is _ _ _ p.1 e)))
