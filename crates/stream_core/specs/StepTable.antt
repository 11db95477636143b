-- The step table (this profile): for each step the refusals in order, else its answer and the new standing.
use Rattle.std.specs.Prelude.{ℕ, ◌+◌, Bool, List, [], ◌∷◌, Option, Some, None, Result, nat_lt, nat_le, ◌==◌, not, is_some, if◌then◌else◌}
use Rattle.stream_core.specs.declared.step.Step.{Step}
use Rattle.stream_core.specs.declared.step.Step.TheVariants.{Offer, Advance, OpenAt, CopyRows, Close, Restart}
use Rattle.stream_core.specs.declared.step.Move.{Move}
use Rattle.stream_core.specs.declared.step.CoreAnswer.{CoreAnswer}
use Rattle.stream_core.specs.declared.step.CoreAnswer.TheVariants.{Read, Repeat, Applied, Opened, MayCopy, Closed, Restarted}
use Rattle.stream_core.specs.declared.refusal.CoreRefusal.{CoreRefusal}
use Rattle.stream_core.specs.declared.refusal.CoreRefusal.TheVariants.{Gap, NothingRead, SnapshotReached, NotCopying, SnapshotOpen, SnapshotBehind, SnapshotNotRead, NoSnapshot, NotReached}
use Rattle.stream_core.specs.Standing.{Standing, is_open_at}
use Rattle.stream_core.specs.Rows.{Row, decides}

-- an answer, and where the stream then stands
abbrev pub made : CoreAnswer → Standing → Move
made a s = record { answer = a; cursor = s }

-- the row of each step
abbrev pub row_of : Standing → Step → Row Move CoreRefusal
row_of s (Offer n) = record {
  refusals = (nat_lt (s.read + 1) n, Gap (s.read + 1)) ∷ [];
  otherwise = if nat_le n s.read then made (Repeat n) s else made (Read n) (record s { read = n });
}
row_of s Advance = record {
  refusals = (is_open_at s.applied s.snapshot, SnapshotReached) ∷ (s.applied == s.read, NothingRead) ∷ [];
  otherwise = made (Applied (s.applied + 1)) (record s { applied = s.applied + 1 });
}
row_of s (OpenAt m) = record {
  refusals = (s.done == s.tables, NotCopying) ∷ (is_some s.snapshot, SnapshotOpen) ∷ (nat_lt m s.applied, SnapshotBehind) ∷ (nat_lt s.read m, SnapshotNotRead) ∷ [];
  otherwise = made (Opened m) (record s { snapshot = Some m });
}
row_of s (CopyRows c) = record {
  refusals = (not (is_some s.snapshot), NoSnapshot) ∷ (not (is_open_at s.applied s.snapshot), NotReached) ∷ [];
  otherwise = made (MayCopy c) s;
}
row_of s Close = record {
  refusals = (not (is_some s.snapshot), NoSnapshot) ∷ [];
  otherwise = made Closed (record s { snapshot = None });
}
row_of s Restart = record {
  refusals = [];
  otherwise = made (Restarted s.applied) (record s { read = s.applied; snapshot = None });
}

-- what the table decides of a step
abbrev pub decided : Standing → Step → Result Move CoreRefusal
decided s step = decides (row_of s step)
