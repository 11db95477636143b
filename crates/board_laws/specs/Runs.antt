-- Steps one after another: those of one stream, and the state that they leave by themselves (this profile).
use Rattle.std.specs.Prelude.{◌≡◌, ◌≢◌, ℕ, ◌==◌, ◌&&◌, List, [], ◌∷◌, Option, Some, None, Result, is_ok, slice_get, if◌then◌else◌}
use Rattle.std.specs.List.{filter_map}
use Rattle.std.specs.Option.{option_map}
use Rattle.std.specs.Result.{result_ok}
use Rattle.pk_copy.specs.KeyOrder.{key_cmp}
use Rattle.pk_copy.specs.KeyValue.{KeyValue}
use Rattle.stream_core.specs.declared.step.Step.{Step}
use Rattle.stream_core.specs.declared.step.Step.TheVariants.{Offer, Advance, OpenAt, CopyRows, Close, Restart}
use Rattle.target_tables.specs.Touches.{last_at}
use Rattle.source_feed.specs.History.{touches_in}
use Rattle.source_feed.specs.Planned.{FeedValue}
use Rattle.source_feed.specs.SoundGroups.{sound_groups}
use Rattle.source_feed.specs.Touches.{PreparedValue, prepared_at}
use Rattle.board_laws.specs.Meaning.{State}
use Rattle.board_laws.specs.Event.{Event, offer, advance, open_at, copy_rows, close, restart}
use Rattle.board_laws.specs.StateAfter.{state_after}

-- ---- one stream

-- the event of a step, where an offer is of the feed's group of that number; none where there is no such group or it
-- isn't sound
abbrev pub event_of_step : FeedValue → Step → Option Event
event_of_step feed (Offer n) = option_map offer (result_ok (prepared_at feed n))
event_of_step feed Advance = Some advance
event_of_step feed (OpenAt m) = Some (open_at m)
event_of_step feed (CopyRows c) = Some (copy_rows c)
event_of_step feed Close = Some close
event_of_step feed Restart = Some restart

-- the state behind some events, one after another
abbrev pub state_behind : List Event → State → State
state_behind [] state = state
state_behind (event ∷ later) state = state_behind later (state_after state event)

-- the state of a stream behind these steps, by its feed and the state before them alone
abbrev pub taken : FeedValue → List Step → State → State
taken feed steps state = state_behind (filter_map (event_of_step feed) steps) state

-- ---- steps of several streams

-- the steps of stream s that weren't refused, in order; each step stands with its stream, and has an answer
abbrev pub own : {A E : Type 0} → ℕ → List (ℕ × Step) → List (Result A E) → List Step
own s [] answers = []
own s (step ∷ steps) [] = []
own s (step ∷ steps) (answer ∷ answers) =
    if step.0 == s && is_ok answer then step.1 ∷ own s steps answers else own s steps answers

-- ---- histories that share no key

-- a key is touched by groups
abbrev pub IsTouchedIn : List PreparedValue → KeyValue → Type 0
IsTouchedIn groups key = last_at key_cmp (touches_in groups) key ≢ None

-- no key is touched in two of the feeds before their first unsound group
abbrev pub AreDisjoint : List FeedValue → Type 0
AreDisjoint feeds =
    (s t : ℕ) (one other : FeedValue) (key : KeyValue) → slice_get feeds s ≡ Some one → slice_get feeds t ≡ Some other
    → IsTouchedIn (sound_groups one) key → IsTouchedIn (sound_groups other) key → s ≡ t
