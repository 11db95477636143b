use Rattle.std.proofs.Common.{ℕ, ◌/◌, ◌%◌, ◌<◌, ◌∙◌, ap, arith, slice_index}
use Rattle.hex.specs.Hex.{lower_digits}
use Rattle.hex.proofs.Pairs.{encode_step, encode_done}
use Rattle.printing.proofs.DigitPairs.{PAIRS-digits}
use Rattle.printing.proofs.gathered.spell_few.Goals as goal

pub loop-i-preserved : goal.loop-i-preserved
loop-i-preserved c =
    let byte : ℕ = slice_index c.args.piece.now c.loop-i.i in
    let fits : byte < 256 = omega arith in
    let digits = PAIRS-digits c.from-from.result (omega (arith, fits, c.from-from.ensures)) in
    let high = digits.0 ∙ ap (λ (b : ℕ). slice_index lower_digits (b / 16)) c.from-from.ensures in
    let low = digits.1 ∙ ap (λ (b : ℕ). slice_index lower_digits (b % 16)) c.from-from.ensures in
    encode_step lower_digits c.args.piece.now c.loop-i.room c.loop-i.i _ _ (omega arith) (omega arith) high low c.loop-i.invariant

pub returns : goal.returns
returns c = encode_done _ _ _ c.loop-i.i (omega arith) (omega arith) c.loop-i.invariant
