use Rattle.std.proofs.Common.{◌≡◌, ◌^◌, ◌≤◌, length, ap, arith}
use Rattle.row_view.specs.Picked.{picked}
use Rattle.row_view.specs.WrittenRow.{written_row}
use Rattle.row_view.proofs.PickLaws.{length-picked}
use Rattle.row_view.proofs.WrittenLaws.{written_is_row}
use Rattle.row_view.proofs.row_buf.RowBuf.pick.Goals as goal

pub invariant_of-result : goal.invariant_of-result
invariant_of-result c =
    let columns = picked c.args.places.now c.args.row.now in
    let bytes = c.put_picked.new.out.items in
    let is : bytes ≡ written_row columns = rw c.new-message.ensures.items at c.in_ok-put_picked.ensures in
    let few : length columns ≤ 256 = omega (arith, length-picked c.args.places.now c.args.row.now) in
    let short : length bytes ≤ 2 ^ 24 = omega (arith, ap length c.as_slice.ensures.value) in
    (written_is_row c.rows_are_read_again.ensures bytes columns is few short).0

pub returns : goal.returns
returns c =
    let columns = picked c.args.places.now c.args.row.now in
    let bytes = c.put_picked.new.out.items in
    let is : bytes ≡ written_row columns = rw c.new-message.ensures.items at c.in_ok-put_picked.ensures in
    let few : length columns ≤ 256 = omega (arith, length-picked c.args.places.now c.args.row.now) in
    let short : length bytes ≤ 2 ^ 24 = omega (arith, ap length c.as_slice.ensures.value) in
    (written_is_row c.rows_are_read_again.ensures bytes columns is few short).1
