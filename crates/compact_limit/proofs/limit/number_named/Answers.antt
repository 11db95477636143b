use Rattle.std.proofs.Common.{◌∙◌, Err, sym, ap}
use Rattle.std.proofs.lemmas.Result.{err_from_is_err_and}
use Rattle.compact_limit.proofs.LimitLaws.{of_memory, one_error}
use Rattle.compact_limit.proofs.limit.number_named.Goals as goal

pub returns-in_err-position-in-Some-clause-memory : goal.returns-in_err-position-in-Some-clause-memory
returns-in_err-position-in-Some-clause-memory c e =
    let p = err_from_is_err_and c.from_residual.result c.from_residual.ensures.1 in
    rw c.in-Some.is (c.in_err-position-in-Some.ensures.memory (ap Err (of_memory c.in_err-position-in-Some.field-0.0 (sym p.2 ∙ one_error c.from_residual.result _ _ p.1 e))))
