-- What a seat has of its stream in memory of its own (this profile).
use Rattle.std.specs.Prelude.{◌≡◌, ℕ, List, Some, slice_get}
use Rattle.std.specs.Arc.{arc_value}
use Rattle.std.specs.Option.{option_map, option_and_then}
use Rattle.pk_copy.specs.KeyOrder.{key_cmp}
use Rattle.pk_copy.specs.KeyValue.{KeyValue}
use Rattle.pk_copy.specs.Marks.{Marks}
use Rattle.target_tables.specs.Touches.{last_at}
use Rattle.source_feed.specs.Touches.{PreparedValue}
use Rattle.board_laws.specs.Meaning.{State}
use Rattle.board_laws.specs.Touching.{left_by}
use Rattle.stream_worker.specs.declared.outline.Next.{Next}
use Rattle.stream_worker.specs.Knowing.{Knows, state_seen}

-- the groups that a stream has read, and how far its tables are copied
pub record Outlined : Type 0 where
  pub list : List PreparedValue
  pub marks : Marks

abbrev pub outline_of : State → Outlined
outline_of state = record { list = state.list; marks = state.marks }

-- the group behind so many applied ones, and what it leaves at the copied keys
pub record IsNextIn (outline : Outlined) (applied : ℕ) (next : Next) : Type 0 where
  pub group : option_map arc_value next.group ≡ slice_get outline.list applied
  pub puts : (key : KeyValue) → last_at key_cmp next.puts.changes.items key ≡ option_and_then (λ group. left_by outline.marks group key) (slice_get outline.list applied)

-- the group that a stream in this state applies next, and what that puts
abbrev pub IsNextOf : State → Next → Type 0
IsNextOf state next = IsNextIn (outline_of state) state.applied next

-- the outlines, in order, of the streams that a pass saw
abbrev pub AreOutlinesSeen : List Outlined → Knows → Type 0
AreOutlinesSeen outlines v = (k : ℕ) (outline : Outlined) → slice_get outlines k ≡ Some outline → option_map outline_of (state_seen v k) ≡ Some outline
