-- The numbers by which a step is refused (this profile).
use Rattle.std.specs.Prelude.{ℕ}
use Rattle.stream_core.specs.declared.refusal.CoreRefusal.{CoreRefusal}
use Rattle.stream_core.specs.declared.refusal.CoreRefusal.TheVariants.{Gap, NothingRead, SnapshotReached, NotCopying, SnapshotOpen, SnapshotBehind, SnapshotNotRead, NoSnapshot, NotReached}

abbrev pub number_of : CoreRefusal → ℕ
number_of (Gap expected) = 101
number_of NothingRead = 102
number_of SnapshotReached = 103
number_of NotCopying = 104
number_of SnapshotOpen = 105
number_of SnapshotBehind = 106
number_of SnapshotNotRead = 107
number_of NoSnapshot = 108
number_of NotReached = 109
