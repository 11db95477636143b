-- Why bytes aren't read as a checkpoint.
use Rattle.std.specs.Prelude.{◌≡◌, ℕ, List, length}
use Rattle.vevent.specs.CheckpointPart.{StreamPartValue}
use Rattle.checkpoint_laws.specs.declared.version.Version.{Version}
use Rattle.checkpoint_laws.specs.Said.{AreStreamParts}
use Rattle.checkpoint_core.specs.declared.fault.ReadFault.{ReadFault}
use Rattle.checkpoint_core.specs.declared.fault.ReadFault.TheVariants.{Broken, Memory}

-- nothing is read: no value has the fact; or for want of memory
abbrev pub IsNothing : {A : Type 0} → (A → Type 0) → ReadFault → Type 0
IsNothing {A} P Broken = (x : A) → ¬ P x
IsNothing {A} P Memory = Unit {0}

-- the bytes are those of a checkpoint of so many streams, whatever their parts say
pub record HasParts (bytes : List ℕ) (count : ℕ) : Type 0 where
  pub version : Version
  pub parts : List StreamPartValue
  pub are : AreStreamParts version bytes parts
  pub long : length parts ≡ count
