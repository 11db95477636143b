use Rattle.std.proofs.Common.{◌≡◌, ℕ, ◌^◌, ◌≤◌, List, map, length, refl, ap, subst, arith}
use Rattle.std.proofs.lemmas.List.{length-map}
use Rattle.row_view.specs.ColumnValue.{column_value}
use Rattle.row_view.specs.WrittenRow.{written_row}
use Rattle.row_view.proofs.WrittenLaws.{written_is_row}
use Rattle.row_view.proofs.row_buf.RowBuf.of_columns.Goals as goal

pub invariant_of-result : goal.invariant_of-result
invariant_of-result c =
    let columns = map column_value c.args.columns.now in
    let bytes = c.write_columns.new.out.items in
    let is : bytes ≡ written_row columns = rw c.new-message.ensures.items at c.in_ok-write_columns.ensures.written in
    let few : length columns ≤ 256 = omega (arith, length-map c.args.columns.now column_value) in
    let short : length bytes ≤ 2 ^ 24 = omega (arith, ap length c.as_slice.ensures.value) in
    (written_is_row c.rows_are_read_again.ensures bytes columns is few short).0

pub returns-clause-row : goal.returns-clause-row
returns-clause-row c =
    let columns = map column_value c.args.columns.now in
    let bytes = c.write_columns.new.out.items in
    let is : bytes ≡ written_row columns = rw c.new-message.ensures.items at c.in_ok-write_columns.ensures.written in
    let few : length columns ≤ 256 = omega (arith, length-map c.args.columns.now column_value) in
    let short : length bytes ≤ 2 ^ 24 = omega (arith, ap length c.as_slice.ensures.value) in
    (written_is_row c.rows_are_read_again.ensures bytes columns is few short).1

pub returns-clause-limits : goal.returns-clause-limits
returns-clause-limits c =
    let columns = map column_value c.args.columns.now in
    let bytes = c.write_columns.new.out.items in
    let is : bytes ≡ written_row columns = rw c.new-message.ensures.items at c.in_ok-write_columns.ensures.written in
    let few : length columns ≤ 256 = omega (arith, length-map c.args.columns.now column_value) in
    let short : length bytes ≤ 2 ^ 24 = omega (arith, ap length c.as_slice.ensures.value) in
    (λ _. record { few = few; short = subst (λ (b : List ℕ). length b ≤ 2 ^ 24) is short }, λ _. refl)
