use Rattle.std.proofs.Common.{ℕ, ◌≡◌, ◌<◌, Some, slice_get}
use Rattle.vevent.specs.CheckpointPart.{TablePartValue}
use Rattle.checkpoint_laws.specs.declared.version.Version.TheVariants.{Two}
use Rattle.checkpoint_laws.specs.Said.{IsNamed}
use Rattle.checkpoint_core.proofs.names.all_named.Given as goal

-- the parts of the first tables do
abbrev pub invariant-loop-t : goal.invariant-loop-t
invariant-loop-t l = (i : ℕ) (part : TablePartValue) → i < l.t → slice_get l.tables i ≡ Some part → IsNamed Two l.plan i part
