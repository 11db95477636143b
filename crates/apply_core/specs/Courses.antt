-- A stream's next step on its course, and how much of the course is left. That it ends is proved by it.
use Rattle.std.specs.Prelude.{◌≡◌, ◌≢◌, ℕ, ◌+◌, ◌-◌, ◌*◌, ◌<◌, ◌≤◌, ◌==◌, false, List, length, not, Option, Some, None, slice_get, if◌then◌else◌}
use Rattle.std.specs.List.{filter}
use Rattle.stream_core.specs.declared.step.Step.{Step}
use Rattle.stream_core.specs.declared.step.Step.TheVariants.{Offer, Advance, OpenAt, CopyRows, Close, Restart}
use Rattle.stream_core.specs.declared.phase.Phase.TheVariants.{Running}
use Rattle.stream_core.specs.Standing.{Standing, is_open_at, phase_of}
use Rattle.pk_copy.specs.Marks.{Marks, is_inside}
use Rattle.source_feed.specs.History.{touches_in}
use Rattle.source_feed.specs.Planned.{FeedValue}
use Rattle.source_feed.specs.SoundGroups.{sound_groups}
use Rattle.board_laws.specs.Meaning.{State, Meaning}
use Rattle.board_laws.specs.Lawful.{standing_of}

-- ---- the next step

-- A step on a stream that stands so, before so many groups: the next group is offered, where there is one; one that
-- is read is applied; a snapshot is opened at the last one read, with chunks to copy; rows are copied out of it; it
-- is closed when no chunk is left to copy. The number of chunks is what it was, and what it is then.
abbrev pub LeadsOn : Standing → ℕ → ℕ → ℕ → Step → Type 0
LeadsOn at groups was is (Offer n) = (n ≡ at.read + 1) × (at.read < groups) × (at.snapshot ≡ None) × (is ≡ was)
LeadsOn at groups was is Advance = (at.applied < at.read) × (is_open_at at.applied at.snapshot ≡ false)
LeadsOn at groups was is (OpenAt m) = (m ≡ at.read) × (at.snapshot ≡ None) × (at.done ≢ at.tables) × (1 ≤ is)
LeadsOn at groups was is (CopyRows c) = (1 ≤ c) × (at.snapshot ≡ Some at.applied)
LeadsOn at groups was is Close = (at.snapshot ≡ Some at.applied) × (was ≡ 0)
LeadsOn at groups was is Restart = ⊥

-- no step is left: all tables are copied, and all groups are read and applied
pub record IsAtEnd (at : Standing) (groups : ℕ) : Type 0 where
  pub running : phase_of at ≡ Running
  pub read : at.read ≡ groups
  pub applied : at.applied ≡ groups

-- ---- how much is left

-- the touches of a feed whose keys aren't copied
abbrev pub uncopied : Marks → FeedValue → ℕ
uncopied marks feed = length (filter (λ touch. not (is_inside marks touch.0)) (touches_in (sound_groups feed)))

-- tables, keys and groups that are still to be copied and applied
abbrev pub undone : FeedValue → State → ℕ
undone feed state = (state.marks.tables - state.marks.done) + uncopied state.marks feed + (length feed.groups - state.applied)

-- turns until rows are copied or a group is applied: the snapshot is closed, another is opened
abbrev pub turns : ℕ → Option ℕ → ℕ
turns chunks None = 1
turns chunks (Some m) = if chunks == 0 then 2 else 0

-- the same with the groups that are read until then
abbrev pub until_done : ℕ → Standing → ℕ → ℕ
until_done chunks at groups = turns chunks at.snapshot * (groups + 1) + (groups - at.read)

-- what is left of a stream's course; each step makes it less
abbrev pub left_of : FeedValue → State → ℕ → ℕ
left_of feed state chunks = undone feed state * (3 * (length feed.groups + 1)) + until_done chunks (standing_of state) (length feed.groups)

-- the same of stream s of a board
abbrev pub left_by : Option FeedValue → Option State → ℕ → ℕ
left_by None state chunks = 0
left_by (Some feed) None chunks = 0
left_by (Some feed) (Some state) chunks = left_of feed state chunks

abbrev pub left_on : List FeedValue → Meaning → ℕ → ℕ → ℕ
left_on feeds board s chunks = left_by (slice_get feeds s) (slice_get board.streams s) chunks
