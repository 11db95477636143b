use Rattle.std.proofs.Common.{length}
use Rattle.checkpoint_core.proofs.ReadLaws.{AreParted}
use Rattle.checkpoint_core.proofs.parts.framed_parts.Given as goal

-- the frames so far are these parts, and there aren't too many
abbrev pub invariant-loop-parts : goal.invariant-loop-parts
invariant-loop-parts l = AreParted l.rest l.frames l.parts.items

abbrev pub decreases-loop-parts : goal.decreases-loop-parts
decreases-loop-parts l = length l.frames.items
