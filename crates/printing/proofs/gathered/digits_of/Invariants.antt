use Rattle.std.proofs.Common.{◌≡◌, ◌*◌, ◌++◌, take, drop, length}
use Rattle.hex.specs.Hex.{encode_lower}
use Rattle.printing.proofs.gathered.digits_of.Given as goal

-- what is made and the digits of what is left are the whole
abbrev pub invariant-loop-i : goal.invariant-loop-i
invariant-loop-i l = (take (2 * l.i) l.digits ++ encode_lower (drop l.i l.block) ≡ encode_lower l.block) × (length l.digits ≡ 32)
