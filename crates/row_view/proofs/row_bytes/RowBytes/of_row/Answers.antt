use Rattle.row_view.proofs.KeptLaws.{good-from_IsOk}
use Rattle.row_view.proofs.row_bytes.RowBytes.of_row.Goals as goal

pub invariant_of-result : goal.invariant_of-result
invariant_of-result c = good-from_IsOk c.args.bytes.now c.requires

pub returns : goal.returns
returns c = good-from_IsOk c.args.bytes.now c.requires
