use Rattle.std.proofs.Common.{refl}
use Rattle.std.proofs.lemmas.Result.{err_from_is_err_and}
use Rattle.vrepl_main.specs.InputList.{bytes_of}
use Rattle.vrepl_main.proofs.JoinedLaws.{refuses_join, breaks_off}
use Rattle.vrepl_main.proofs.joining.print_joined.Goals as goal

pub returns-in_err-bytes-clause-refused : goal.returns-in_err-bytes-clause-refused
returns-in_err-bytes-clause-refused g c =
    let p = err_from_is_err_and c.from_residual.result c.from_residual.ensures.1 in
    rw (p.1, p.2) (refuses_join c.in_err-bytes.field-0.0 c.args.inputs.now _ c.in_err-bytes.ensures.refused)

pub returns-in-Ok-clause-printed : goal.returns-in-Ok-clause-printed
returns-in-Ok-clause-printed g c = (c.in_ok-bytes.bytes.items, c.in_ok-bytes.ensures.saved, rw c.deref.ensures.value at c.in-Ok.ensures)

pub returns-clause-refused : goal.returns-clause-refused
returns-clause-refused g c =
    let inputs = c.args.inputs.now in
    (refl, breaks_off _ inputs.one.items (bytes_of inputs.others.items) c.in_ok-bytes.bytes.items _ _ c.in_ok-bytes.ensures.saved (rw c.deref.ensures.value at c.in-Err.ensures))
