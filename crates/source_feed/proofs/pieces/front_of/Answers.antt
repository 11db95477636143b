use Rattle.std.proofs.Common.{◌≡◌, suc, length, sym, ap, ◌∙◌, arith}
use Rattle.source_feed.proofs.FrameLaws.{few_messages}
use Rattle.source_feed.proofs.PiecesLaws.{front_place}
use Rattle.source_feed.proofs.pieces.front_of.Goals as goal

pub overflow_add-messages : goal.overflow_add-messages
overflow_add-messages c =
    let some : length c.loop-messages.frames.items ≡ suc (length c.next_frame.new.self.items) = (let next = rw (c.in-Ok-Some.is, c.in-Ok-Some.field-0-is) at c.next_frame.ensures in ap length next.0) in
    omega (arith, some, c.loop-messages.invariant.0, few_messages c.args.bytes.now, c.requires)

pub returns-in-Err-2-clause-front : goal.returns-in-Err-2-clause-front
returns-in-Err-2-clause-front c = front_place c.args.bytes.now c.in-Err.fault (sym c.loop-messages.invariant.1 ∙ c.in-Err.ensures.1)
