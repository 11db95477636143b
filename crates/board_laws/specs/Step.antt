-- A step on one stream of a board: what it answers and leaves, or why it is refused (this profile).
use Rattle.std.specs.Prelude.{◌≡◌, ℕ, ◌+◌, ◌==◌, Bool, true, false, IsTrue, length, Option, Some, MatchOption, Result, Ok, Err, slice_get, slice_set}
use Rattle.std.specs.Option.{option_map}
use Rattle.pk_copy.specs.KeyOrder.{key_cmp}
use Rattle.pk_copy.specs.KeyValue.{KeyValue}
use Rattle.target_tables.specs.Touches.{NoneInTheWay, IsLeastClash}
use Rattle.source_feed.specs.History.{RowValue}
use Rattle.board_laws.specs.declared.answer.Answer.{Answer}
use Rattle.board_laws.specs.declared.refusal.Refusal.{Refusal}
use Rattle.board_laws.specs.declared.refusal.Refusal.TheVariants.{NoStream, WrongPlan, Diverged, Core, OwnedByOther, FeedCount, Memory}
use Rattle.board_laws.specs.Meaning.{State, TargetRows, Meaning}
use Rattle.board_laws.specs.Cut.{cut_of}
use Rattle.board_laws.specs.Lawful.{IsLawful}
use Rattle.board_laws.specs.Event.{Event, offer, advance, open_at, copy_rows, close, restart}
use Rattle.board_laws.specs.StateAfter.{answer_to, state_after}
use Rattle.board_laws.specs.Allowed.{IsOwnPlan, IsDiverged, IsAllowed, IsRefusedByTable}

-- the row that is due at a key by a stream's cut, as what a touch leaves there
abbrev pub due_at : State → KeyValue → Option (Option RowValue)
due_at state key = option_map Some (cut_of state key)

-- the steps that take memory; of the offers those of the next group, since one that was read before is only compared
abbrev pub takes_memory : State → Event → Bool
takes_memory state (offer group) = group.number == length state.list + 1
takes_memory state advance = true
takes_memory state (open_at m) = true
takes_memory state (copy_rows c) = true
takes_memory state close = false
takes_memory state restart = false

-- ---- a step that is made

-- Nothing is against the step on stream s, neither in its own state nor a row of another stream at a key of its new
-- cut. Its state is then the one behind the step, all other streams are as they were, and the board is lawful: so
-- the stream's rows are its new cut, and those of the others theirs.
pub record IsMade (old : Meaning) (s : ℕ) (event : Event) (answer : Answer) (new : Meaning) : Type 0 where
  pub state : State
  pub stream : slice_get old.streams s ≡ Some state
  pub allowed : IsAllowed state event
  pub clear : NoneInTheWay key_cmp old.rows s (due_at (state_after state event))
  pub answered : answer ≡ answer_to state event
  pub streams : new.streams ≡ slice_set old.streams s (state_after state event)
  pub lawful : IsLawful new

-- ---- a step that is refused

-- another stream's row stands at a key of the new cut: this is the least such key, and that row's owner
pub record IsClash (rows : TargetRows) (s : ℕ) (state : State) (event : Event) (key : KeyValue) (owner : ℕ) : Type 0 where
  pub allowed : IsAllowed state event
  pub least : IsLeastClash key_cmp rows s (due_at (state_after state event)) key owner

-- what stands where a step on a stream is refused; memory is wanted only where nothing of the stream's own is against
-- the step
abbrev pub IsRefusedFor : Meaning → ℕ → State → Event → Refusal → Type 0
IsRefusedFor old s state event NoStream = ⊥
IsRefusedFor old s state event WrongPlan = ¬ IsOwnPlan state event
IsRefusedFor old s state event Diverged = IsOwnPlan state event × IsDiverged state event
IsRefusedFor old s state event (Core refusal) = IsRefusedByTable state event refusal
IsRefusedFor old s state event (OwnedByOther key owner) = IsClash old.rows s state event key owner
IsRefusedFor old s state event FeedCount = ⊥
IsRefusedFor old s state event Memory = IsAllowed state event × IsTrue (takes_memory state event)

-- the same where there is such a stream, and else 115
abbrev pub IsRefusedOn : Meaning → ℕ → Event → Refusal → Type 0
IsRefusedOn old s event refusal = MatchOption (slice_get old.streams s) (refusal ≡ NoStream) (λ state. IsRefusedFor old s state event refusal)

-- ---- a step

-- what a call answered, as an answer of a step
abbrev pub answered : {X : Type 0} → (X → Answer) → Result X Refusal → Result Answer Refusal
answered answer (Ok x) = Ok (answer x)
answered answer (Err refusal) = Err refusal

-- the step of an event on stream s; a refused step leaves the board as it was
abbrev pub IsStep : Meaning → ℕ → Event → Result Answer Refusal → Meaning → Type 0
IsStep old s event (Ok answer) new = IsMade old s event answer new
IsStep old s event (Err refusal) new = IsRefusedOn old s event refusal × (new ≡ old)
