use Rattle.std.proofs.Common.{◌/◌, ◌%◌, arith, ◌∙◌, slice_index}
use Rattle.std.proofs.lemmas.List.{length-set}
use Rattle.hex.specs.Hex.{lower_digits}
use Rattle.hex.proofs.Pairs.{encode_step, encode_done}
use Rattle.printing.proofs.DigitLanes.{lane_of}
use Rattle.printing.proofs.gathered.digits_of.Goals as goal

pub loop-i-preserved : goal.loop-i-preserved
loop-i-preserved c =
    let room = c.loop-i.invariant.1 in
    let block = c.args.block.now in
    let high = lane_of (λ byte. slice_index lower_digits (byte / 16)) block _ c.loop-i.i c.requires (omega arith) c.high_digits.ensures in
    let low = lane_of (λ byte. slice_index lower_digits (byte % 16)) block _ c.loop-i.i c.requires (omega arith) c.low_digits.ensures in (
      encode_step lower_digits block c.loop-i.digits c.loop-i.i _ _ (omega arith) (omega (arith, room)) high low c.loop-i.invariant.0,
      length-set _ _ _ ∙ length-set _ _ _ ∙ room,
    )

pub returns : goal.returns
returns c = encode_done _ _ _ c.loop-i.i (omega arith) (omega (arith, c.loop-i.invariant.1)) c.loop-i.invariant.0
