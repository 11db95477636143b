use Rattle.std.proofs.lemmas.Result.{err_from_is_err_and}
use Rattle.log_groups.specs.Step.{steps_of}
use Rattle.log_groups.proofs.TransactionLaws.{none_there}
use Rattle.log_groups.proofs.transaction.next_of.Goals as goal

pub returns-in_err-first : goal.returns-in_err-first
returns-in_err-first c =
    let p = err_from_is_err_and c.from_residual.result c.from_residual.ensures.1 in
    rw (p.1, p.2) (none_there (steps_of c.args.events.now.reading) c.in_err-first.ensures.0 c.in_err-first.field-0.0 c.in_err-first.ensures.1)
