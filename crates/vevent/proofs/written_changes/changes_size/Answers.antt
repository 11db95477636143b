use Rattle.std.proofs.Common.{◌+◌, map, length, sym, ap, ◌∙◌, arith}
use Rattle.proto_wire.specs.Writing.{written_fields, message_field}
use Rattle.vevent.specs.WrittenEvent.{message_fields, written_change}
use Rattle.vevent.proofs.WritingSteps.{counted_then}
use Rattle.vevent.proofs.written_changes.changes_size.Goals as goal

pub loop-change-preserved : goal.loop-change-preserved
loop-change-preserved c =
    let message = written_change c.in-Some.change in
    let is = ap (λ xs. c.loop-change.size + length (written_fields (message_fields 2 (map written_change xs)))) (sym c.in-Some.ensures.steps) ∙ c.loop-change.invariant in
    counted_then _ c.loop-change.size c.in_ok-one.one c.in_ok-size.size (message_field 2 message) (message_fields 2 (map written_change c.next.new.self)) is (c.in_ok-one.ensures message (sym c.in_ok-change_size.ensures)) c.in_ok-size.ensures

pub returns : goal.returns
returns c =
    let is = ap (λ xs. c.loop-change.size + length (written_fields (message_fields 2 (map written_change xs)))) (sym c.in-None.ensures.steps.0) ∙ c.loop-change.invariant in
    omega (arith, is)
