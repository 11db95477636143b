use Rattle.std.proofs.lemmas.Grind.{common_steps}
use Rattle.std.proofs.Common.{◌<◌, ◌≤◌, ◌+◌, ◌-◌, ◌*◌, ℕ, arith, get_or}
use Rattle.gtid_set.specs.Position.{last_number}
use Rattle.gtid_set.proofs.DigitLaws.{over}
use Rattle.gtid_set.proofs.digits.number.Goals as goal

pub returns-then-number : goal.returns-then-number
returns-then-number c =
    let text = c.args.text.now in
    let k = c.loop-byte.byte-index in
    let digit = c.if-not-is_ascii_digit.ensures in
    let b : ℕ = get_or text k 0 in
    let range : (48 ≤ b) × (b ≤ 57) = digit.cases in
    let beyond : last_number < c.loop-byte.number * 10 + (b - 48) = omega (arith, c.if-number.true, range.0, range.1) in
    over c.args.low c.loop-byte.number text k c.loop-byte-test.true c.loop-byte.invariant.number range.0 range.1 beyond

pub loop-byte-preserved : goal.loop-byte-preserved
loop-byte-preserved c = grind (arith, common_steps)
