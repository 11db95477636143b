use Rattle.std.proofs.Common.{ℕ, ◌≡◌, ◌<◌, Some, slice_get}
use Rattle.vevent.specs.CheckpointPart.{TablePartValue}
use Rattle.checkpoint_core.specs.Private.Reading.{HasHead}
use Rattle.checkpoint_core.proofs.head.have_heads.Given as goal

-- the parts of the first tables do
abbrev pub invariant-loop-t : goal.invariant-loop-t
invariant-loop-t l = (i : ℕ) (part : TablePartValue) → i < l.t → slice_get l.tables i ≡ Some part → HasHead l.plan l.position i part
