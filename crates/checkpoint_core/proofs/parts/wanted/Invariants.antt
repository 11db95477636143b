use Rattle.std.proofs.Common.{◌≤◌, length}
use Rattle.checkpoint_core.proofs.ReadLaws.{ReadsParts}
use Rattle.checkpoint_core.proofs.parts.wanted.Given as goal

-- so many of the frames are parts, and there aren't too many
abbrev pub invariant-loop-message : goal.invariant-loop-message
invariant-loop-message l = ReadsParts l.rest l.frames l.read × (l.read ≤ l.count)

abbrev pub decreases-loop-message : goal.decreases-loop-message
decreases-loop-message l = length l.frames.items
