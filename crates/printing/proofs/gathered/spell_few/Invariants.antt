use Rattle.std.proofs.Common.{◌≡◌, ◌*◌, ◌++◌, take, drop}
use Rattle.hex.specs.Hex.{encode_lower}
use Rattle.printing.proofs.gathered.spell_few.Given as goal

-- what is written and the digits of what is left are the whole
abbrev pub invariant-loop-i : goal.invariant-loop-i
invariant-loop-i l = take (2 * l.i) l.room ++ encode_lower (drop l.i l.piece) ≡ encode_lower l.piece
