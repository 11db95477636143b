use Rattle.std.proofs.Common.{◌≡◌, ◌∙◌, true, false, length, ap, sym, arith}
use Rattle.std.proofs.lemmas.List.{length-append}
use Rattle.proto_wire.specs.Varint.{shortest}
use Rattle.row_view.specs.WrittenRow.{written_lengths, is_plain}
use Rattle.row_view.proofs.WrittenLaws.{head_plain, head_packed, one_byte, if_ok}
use Rattle.row_view.proofs.written_row.RowSize.lengths_size.Goals as goal

pub returns-then-branch : goal.returns-then-branch
returns-then-branch c = if_ok c.size_of_both.result (λ size is columns sizes.
    let told = c.in_ok-is_plain.ensures columns sizes in
    let here = c.if-branch.true in
    let plain : is_plain columns ≡ true = cc in
    omega (arith, is, sizes.lengths, one_byte, ap length (head_plain columns plain), length-append (shortest 8) (written_lengths columns))) c.size_of_both.ensures

pub returns-else-branch : goal.returns-else-branch
returns-else-branch c = if_ok c.text_field_size.result (λ size is columns sizes.
    let told = c.in_ok-is_plain.ensures columns sizes in
    let here = c.if-branch.false in
    let packed : is_plain columns ≡ false = cc in
    is (written_lengths columns) sizes.lengths ∙ ap length (sym (head_packed columns packed))) c.text_field_size.ensures
