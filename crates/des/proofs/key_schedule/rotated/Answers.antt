use Rattle.std.proofs.Common.{ℕ, zero, suc, ◌+◌, ◌-◌, ◌*◌, ◌/◌, ◌%◌, ◌^◌, ◌<◌, ◌≤◌, arith}
use Rattle.des.proofs.key_schedule.rotated.Goals as goal

rotated_small : (bits places : ℕ) → bits < 2 ^ 28 → places ≤ 2 → bits * 2 ^ places % 2 ^ 32 % 2 ^ 28 + bits / 2 ^ (28 - places) < 2 ^ 28
rotated_small bits zero small few = omega arith
rotated_small bits (suc zero) small few = omega arith
rotated_small bits (suc (suc zero)) small few = omega arith
rotated_small bits (suc (suc (suc places))) small few = absurd (omega arith)

pub returns-clause-within : goal.returns-clause-within
returns-clause-within c = rotated_small c.args.bits c.args.places c.requires.bits c.requires.few
