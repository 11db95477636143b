use Rattle.std.proofs.Common.{◌≡◌, ◌+◌, length, drop}
use Rattle.compaction.specs.Private.Sized.{joined}
use Rattle.compaction.proofs.portion.size_of_portions.Given as goal

-- what is counted, and what those have that are still to come, is what all have
abbrev pub invariant-loop-portion : goal.invariant-loop-portion
invariant-loop-portion l = l.size + length (joined (drop l.portion-index l.portions)) ≡ length (joined l.portions)
