use Rattle.std.proofs.Common.{◌≡◌, ◌∙◌, ◌++◌, List, ℕ, true, false, ap, sym, append_assoc}
use Rattle.proto_wire.specs.Varint.{shortest}
use Rattle.row_view.specs.WrittenRow.{written_lengths, is_plain}
use Rattle.row_view.proofs.WrittenLaws.{head_plain, head_packed, on_ok}
use Rattle.row_view.proofs.written_row.RowSize.put_head.Goals as goal

pub returns-then-branch-clause-written : goal.returns-then-branch-clause-written
returns-then-branch-clause-written c = on_ok c.put_varint.result (λ is columns sizes.
    let told = c.in_ok-is_plain.ensures columns sizes in
    let here = c.if-branch.true in
    let plain : is_plain columns ≡ true = cc in
    ap (λ (w : List ℕ). w ++ written_lengths columns) is ∙ append_assoc c.args.out.now.items (shortest 8) (written_lengths columns) ∙ ap (λ (w : List ℕ). c.args.out.now.items ++ w) (sym (head_plain columns plain))) c.put_varint.ensures.written

pub returns-else-branch-clause-written : goal.returns-else-branch-clause-written
returns-else-branch-clause-written c = on_ok c.put_text_head.result (λ is columns sizes.
    let told = c.in_ok-is_plain.ensures columns sizes in
    let here = c.if-branch.false in
    let packed : is_plain columns ≡ false = cc in
    is (written_lengths columns) sizes.lengths ∙ ap (λ (w : List ℕ). c.args.out.now.items ++ w) (sym (head_packed columns packed))) c.put_text_head.ensures.written
