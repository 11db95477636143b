use Rattle.std.proofs.Common.{◌++◌, ◌+◌, List, ℕ, sym, ap, refl, ◌∙◌}
use Rattle.proto_wire.specs.Varint.{shortest}
use Rattle.compaction.proofs.SizedLaws.{head_is}
use Rattle.compaction.proofs.portion.head_before.Goals as goal

pub returns : goal.returns
returns c = λ rows long.
    head_is c.args.name.now rows c.put_varint.new.out.items c.put_bytes_head.new.out.items c.put_number.new.out.items c.put_bytes_head-2.new.out.items c.put_text.new.out.items
    c.in_ok-text_field_size.field-0 c.in_ok-row_event.row_event c.number_field_size.result c.in_ok-body.body c.in_ok-event.event c.in_ok-response.response
    (c.in_ok-text_field_size.ensures c.args.name.now refl) (c.in_ok-row_event.ensures ∙ ap (λ (n : ℕ). c.in_ok-text_field_size.field-0 + n) (sym long)) c.in_ok-body.ensures c.number_field_size.ensures.size
    c.in_ok-event.ensures c.in_ok-response.ensures (c.in_ok-put_varint.ensures.written ∙ ap (λ (w : List ℕ). w ++ shortest c.in_ok-response.response) c.new-head.ensures.items)
    c.in_ok-put_bytes_head.ensures.written c.in_ok-put_number.ensures.written c.in_ok-put_bytes_head-2.ensures.written (rw c.as_bytes.ensures.value at c.in_ok-put_text.ensures.written)
