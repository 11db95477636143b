use Rattle.std.proofs.Common.{◌≡◌, ◌∙◌, ◌++◌, ◌-◌, List, ℕ, length, ap, arith}
use Rattle.std.proofs.lemmas.List.{length-append}
use Rattle.proto_wire.specs.Varint.{shortest}
use Rattle.checkpoint_core.proofs.framed.make_frame.Goals as goal

pub overflow_sub-size : goal.overflow_sub-size
overflow_sub-size c = omega (arith, c.requires, c.len.ensures, c.args.out.now.ok.0)

pub returns : goal.returns
returns c before message long is =
    let size : c.len.result - c.args.start ≡ length message = omega (arith, ap length is, length-append before message, long, c.len.ensures, c.args.out.now.ok.0) in
    c.in_ok-put_before.ensures before message long is
    ∙ ap (λ (head : List ℕ). before ++ (head ++ message))
    (c.in_ok-put_varint.ensures.written ∙ ap (λ (head : List ℕ). head ++ shortest (c.len.result - c.args.start)) c.new-head.ensures.items ∙ ap shortest size)
