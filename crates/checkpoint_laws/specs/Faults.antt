-- The numbers by which a checkpoint is refused (this profile).
use Rattle.std.specs.Prelude.{ℕ}
use Rattle.source_feed.specs.FaultNumber as feed
use Rattle.checkpoint_laws.specs.declared.fault.ResumeFault.{ResumeFault}
use Rattle.checkpoint_laws.specs.declared.fault.ResumeFault.TheVariants.{FeedCount, WrongPlan, CheckpointBad, PositionUnknown, Unsound, CheckpointDiffers, OwnedByOther, Memory}

abbrev pub number_of : ResumeFault → ℕ
number_of FeedCount = 119
number_of WrongPlan = 111
number_of CheckpointBad = 116
number_of (PositionUnknown s) = 118
number_of (Unsound fault) = feed.number_of fault
number_of (CheckpointDiffers s key) = 117
number_of (OwnedByOther key owner) = 71
number_of Memory = 72
