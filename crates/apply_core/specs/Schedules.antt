-- What a list of steps leaves, said of each stream by itself (this profile).
use Rattle.std.specs.Prelude.{◌≡◌, ◌↔◌, ℕ, List, Some, slice_get}
use Rattle.pk_copy.specs.KeyOrder.{key_cmp}
use Rattle.pk_copy.specs.KeyValue.{KeyValue}
use Rattle.stream_core.specs.declared.step.Step.{Step}
use Rattle.target_tables.specs.Contents.{value_at}
use Rattle.source_feed.specs.History.{RowValue}
use Rattle.source_feed.specs.Planned.{FeedValue}
use Rattle.board_laws.specs.Meaning.{State, Meaning}
use Rattle.board_laws.specs.Lawful.{start_of}
use Rattle.board_laws.specs.Runs.{own, taken}
use Rattle.board_laws.specs.Reading.{IsReplayed}
use Rattle.board_laws.specs.Schedule.{Reply}

-- each stream's state is the one behind its own steps that weren't refused, from the start and by its feed alone
abbrev pub AllAreTaken : List FeedValue → List (ℕ × Step) → List Reply → Meaning → Type 0
AllAreTaken feeds steps replies board =
    (s : ℕ) (feed : FeedValue) → slice_get feeds s ≡ Some feed → slice_get board.streams s ≡ Some (taken feed (own s steps replies) (start_of feed.plan))

-- each stream's state is the one behind its own steps that weren't refused, from its state before and by its feed alone
abbrev pub AllFollow : List FeedValue → List (ℕ × Step) → List Reply → Meaning → Meaning → Type 0
AllFollow feeds steps replies old new =
    (s : ℕ) (feed : FeedValue) (state : State) → slice_get feeds s ≡ Some feed → slice_get old.streams s ≡ Some state
    → slice_get new.streams s ≡ Some (taken feed (own s steps replies) state)

-- a row of the target is a stream's exactly where replaying the stream's applied groups from empty tables leaves it
-- there, it passes the stream's filter and its key is copied
abbrev pub RowsAreReplays : Meaning → Type 0
RowsAreReplays board = (s : ℕ) (key : KeyValue) (row : RowValue) → (value_at key_cmp board.rows key ≡ Some (s, row)) ↔ IsReplayed board s key row
