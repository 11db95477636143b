use Rattle.std.proofs.Common.{◌≡◌, ◌<◌, ℕ, length, Some, slice_get}
use Rattle.vevent.specs.CheckpointPart.{StreamPartValue}
use Rattle.checkpoint_core.proofs.names.all_as_many.Given as goal

-- the parts so far have as many tables as the first one
abbrev pub invariant-loop-part : goal.invariant-loop-part
invariant-loop-part l = (i : ℕ) (part : StreamPartValue) → i < l.part-index → slice_get l.parts i ≡ Some part → length part.tables ≡ length l.first.tables
