use Rattle.std.proofs.Common.{◌≡◌, ◌∙◌, ◌+◌, ◌≤◌, true, false, sym, arith}
use Rattle.std.specs.Result.{is_err}
use Rattle.checkpoint_core.specs.Private.Reading.{IsPartOf}
use Rattle.checkpoint_core.proofs.ReadLaws.{nothing_read, something_read, none_with_broken, reads_more}
use Rattle.checkpoint_core.proofs.parts.wanted.Goals as goal

pub returns-then-is_err-clause-refused : goal.returns-then-is_err-clause-refused
returns-then-is_err-clause-refused c =
    let next = rw c.in-Ok-Some.field-0-is at c.in-Ok-Some.ensures in
    let failed : is_err c.part_of.result ≡ true = sym c.is_err.ensures.value ∙ c.if-is_err.true in
    none_with_broken c.args.rest.now c.args.count c.loop-message.frames c.loop-message.read c.in-Ok-Some.message.now c.next_frame.new.self.items c.loop-message.invariant.0 next.0
    (nothing_read (IsPartOf c.in-Ok-Some.message.now) c.part_of.result failed c.part_of.ensures.err c.part_of.ensures.broken)

pub loop-message-preserved : goal.loop-message-preserved
loop-message-preserved c =
    let next = rw c.in-Ok-Some.field-0-is at c.in-Ok-Some.ensures in
    let read : is_err c.part_of.result ≡ false = sym c.is_err.ensures.value ∙ c.if-is_err.false in
    let part = something_read c.part_of.result read c.part_of.ensures.ok in
    let fewer : c.loop-message.read + 1 ≤ c.args.count = omega (arith, c.loop-message.invariant.1, c.if-read-count-2.false) in
    (reads_more c.args.rest.now c.in-Ok-Some.message.now c.loop-message.frames c.next_frame.new.self c.loop-message.read part.0 c.loop-message.invariant.0 next.0 next.1 part.1, fewer)
