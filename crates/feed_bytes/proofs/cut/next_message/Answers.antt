use Rattle.std.proofs.Common.{arith}
use Rattle.feed_bytes.proofs.NextLaws.{no_size, too_short, next_found}
use Rattle.feed_bytes.proofs.cut.next_message.Goals as goal

pub returns-in_default-clause-none : goal.returns-in_default-clause-none
returns-in_default-clause-none c = no_size c.args.bytes.now c.in_default.field-0 c.in_default.ensures

pub returns-then-size-rest-clause-none : goal.returns-then-size-rest-clause-none
returns-then-size-rest-clause-none c = too_short c.args.bytes.now c.in-Ok.rest.now c.in-Ok.size c.in-Ok.ensures (omega (arith, c.if-size-rest.true))

pub returns-clause-some : goal.returns-clause-some
returns-clause-some c =
    next_found c.args.bytes.now c.in-Ok.rest.now c.split_at.result.0.now c.split_at.result.1.now c.in-Ok.size c.in-Ok.ensures (omega (arith, c.if-size-rest.false)) c.split_at.ensures.front c.split_at.ensures.back
