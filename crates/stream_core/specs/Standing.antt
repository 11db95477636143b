-- Where a stream stands, and the phase that it is in (this profile, after Vitess 'Life of a Stream').
use Rattle.std.specs.Prelude.{ℕ, ◌≤◌, ◌<◌, Bool, false, Option, Some, None, ◌==◌, not, is_some, if◌then◌else◌}
use Rattle.std.specs.Option.{IfSome}
use Rattle.stream_core.specs.declared.phase.Phase.{Phase}
use Rattle.stream_core.specs.declared.phase.Phase.TheVariants.{Running, Copy, FastForward, CatchUp}

-- how many groups are read and applied, how many tables there are and are all copied, and the group of the open snapshot
pub record Standing : Type 0 where
  pub read : ℕ
  pub applied : ℕ
  pub tables : ℕ
  pub done : ℕ
  pub snapshot : Option ℕ

-- a snapshot is open only from the applied group to the last one read, while a table is left to copy
pub record IsOpenAt (s : Standing) (group : ℕ) : Type 0 where
  pub not_behind : s.applied ≤ group
  pub is_read : group ≤ s.read
  pub copying : s.done < s.tables

-- what every stream keeps
pub record IsSound (s : Standing) : Type 0 where
  pub applied : s.applied ≤ s.read
  pub done : s.done ≤ s.tables
  pub snapshot : IfSome s.snapshot (IsOpenAt s)

-- the open snapshot, if any, is at this group
abbrev pub is_open_at : ℕ → Option ℕ → Bool
is_open_at group None = false
is_open_at group (Some snapshot) = snapshot == group

-- all tables copied: Running. A snapshot open: Copy where it is reached, else FastForward. Otherwise CatchUp
abbrev pub phase_of : Standing → Phase
phase_of s =
    if s.done == s.tables then Running else
    if not (is_some s.snapshot) then CatchUp else
    if is_open_at s.applied s.snapshot then Copy else FastForward
