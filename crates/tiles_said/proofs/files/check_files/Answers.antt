use Rattle.std.proofs.lemmas.Result.{err_from_is_err_and}
use Rattle.tiles_said.proofs.RefusalLaws.{refused_at}
use Rattle.tiles_said.proofs.files.check_files.Goals as goal

pub returns-in_err-check_file-clause-refused : goal.returns-in_err-check_file-clause-refused
returns-in_err-check_file-clause-refused c =
    let p = err_from_is_err_and c.from_residual.result c.from_residual.ensures.1 in
    rw (p.1, p.2) (refused_at (λ text. text.items) c.args.texts.now c.loop-i.i c.index-texts-i.result c.in_err-check_file.field-0.0 c.loop-i-test.true c.index-texts-i.is c.loop-i.invariant (rw c.deref.ensures.value at c.in_err-check_file.ensures.refused))
