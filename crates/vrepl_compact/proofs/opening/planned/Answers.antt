use Rattle.std.proofs.Common.{map, Err, sym, ap, ◌∙◌}
use Rattle.std.proofs.lemmas.Result.{err_from_is_err_and}
use Rattle.std.specs.Arc.{arc_value}
use Rattle.list_laws.specs.Outcome.{◌>>=◌}
use Rattle.filter_rule.specs.Reading.{plans_of}
use Rattle.vrepl_main.specs.Opening.{said_plans}
use Rattle.vrepl_compact.specs.Asked.{asked_in, asked_under}
use Rattle.vrepl_compact.proofs.AskedLaws.{given_memory, one_error, refused_at}
use Rattle.vrepl_compact.proofs.WantingLaws.{text_read}
use Rattle.vrepl_compact.proofs.opening.planned.Goals as goal

pub returns-clause-planned : goal.returns-clause-planned
returns-clause-planned c =
    let inputs = c.args.inputs.now in
    ap (λ r. r >>= asked_under inputs) (rw c.deref.ensures.value at c.in_ok-plans.ensures.given)
    ∙ ap (asked_in inputs (map arc_value c.in_ok-plans.plans.items)) (sym (rw c.deref-2.ensures.value at c.in_ok-given.ensures.given))

pub returns-in_err-plans-clause-refused : goal.returns-in_err-plans-clause-refused
returns-in_err-plans-clause-refused c =
    let inputs = c.args.inputs.now in
    let p = err_from_is_err_and c.from_residual.result c.from_residual.ensures.1 in
    rw (p.1, p.2) (refused_at c.in_err-plans.field-0.0 (said_plans (plans_of inputs.workflow.items)) (asked_under inputs) (rw c.deref.ensures.value at c.in_err-plans.ensures.given))

pub returns-in_err-given-clause-refused : goal.returns-in_err-given-clause-refused
returns-in_err-given-clause-refused c =
    let p = err_from_is_err_and c.from_residual-in_err-given.result c.from_residual-in_err-given.ensures.1 in
    rw (p.1, p.2) tt

pub returns-in_err-plans-clause-memory : goal.returns-in_err-plans-clause-memory
returns-in_err-plans-clause-memory c e =
    let p = err_from_is_err_and c.from_residual.result c.from_residual.ensures.1 in
    let is = c.in_err-plans.ensures.memory (ap Err (given_memory c.in_err-plans.field-0.0 (sym p.2 ∙ one_error c.from_residual.result _ _ p.1 e))) in
    rw c.deref.ensures.value at is

pub returns-in_err-given-clause-memory : goal.returns-in_err-given-clause-memory
returns-in_err-given-clause-memory c e = text_read c.args.inputs.now.workflow.items (map arc_value c.in_ok-plans.plans.items) (rw c.deref.ensures.value at c.in_ok-plans.ensures.given)
