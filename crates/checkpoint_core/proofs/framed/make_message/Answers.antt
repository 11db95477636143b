use Rattle.std.proofs.Common.{◌∙◌, ◌++◌, List, ℕ, length, ap, arith}
use Rattle.std.proofs.lemmas.List.{length-append}
use Rattle.proto_wire.specs.Writing.{written_field, message_field}
use Rattle.checkpoint_core.proofs.framed.make_message.Goals as goal

pub overflow_sub-size : goal.overflow_sub-size
overflow_sub-size c = omega (arith, c.requires, c.len.ensures, c.args.out.now.ok.0)

pub returns : goal.returns
returns c before message long is =
    let head = c.in_ok-put_bytes_head.ensures.written message (omega (arith, ap length is, length-append before message, long, c.len.ensures, c.args.out.now.ok.0)) in
    c.in_ok-put_before.ensures before message long is
    ∙ ap (λ (bytes : List ℕ). before ++ bytes) (head ∙ ap (λ (bytes : List ℕ). bytes ++ written_field (message_field c.args.number message)) c.new-head.ensures.items)
