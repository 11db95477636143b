use Rattle.std.specs.Prelude.{codes}
use Rattle.std.proofs.lemmas.Result.{err_from_is_err_and}
use Rattle.hex.specs.Hex.{encode_lower}
use Rattle.printing.proofs.PrintLaws.{adding_breaks, then_adds}
use Rattle.dump.proofs.cells.add_cell.Goals as goal

pub returns-in_err-put-in-Bytes : goal.returns-in_err-put-in-Bytes
returns-in_err-put-in-Bytes g c =
    let p = err_from_is_err_and c.from_residual.result c.from_residual.ensures.1 in
    rw (p.1, c.in-Bytes.is) (adding_breaks _ _ c.args.text.now (codes "x") (encode_lower c.in-Bytes.value.now) c.in_err-put-in-Bytes.ensures)

pub returns-in_ok-put-in-Bytes : goal.returns-in_ok-put-in-Bytes
returns-in_ok-put-in-Bytes g c = rw c.in-Bytes.is (then_adds c.put_hex.result _ _ _ _ _ _ (codes "x") (encode_lower c.in-Bytes.value.now) c.in_ok-put-in-Bytes.ensures c.put_hex.ensures)
