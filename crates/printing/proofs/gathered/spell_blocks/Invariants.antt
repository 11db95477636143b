use Rattle.std.proofs.Common.{◌≡◌, ◌-◌, ◌*◌, ◌≤◌, length}
use Rattle.printing.specs.Private.Spelling.{IsSpelled}
use Rattle.printing.proofs.gathered.spell_blocks.Given as goal

-- the digits of what is passed stand there
abbrev pub invariant-loop-at : goal.invariant-loop-at
invariant-loop-at l = record {
  spelled : IsSpelled l.piece l.room l.at;
  room : length l.room ≡ 2 * length l.piece;
  within : l.at ≤ length l.piece;
}

abbrev pub decreases-loop-at : goal.decreases-loop-at
decreases-loop-at l = l.last - l.at
