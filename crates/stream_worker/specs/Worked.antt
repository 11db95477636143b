-- What a seat's worker leaves of its stream, beside a feed (this profile).
use Rattle.std.specs.Prelude.{◌≡◌, ◌≢◌, ℕ, ◌+◌, List, length, Some, Err, IsSomeAnd, slice_get}
use Rattle.std.specs.Arc.{arc_value}
use Rattle.pk_copy.specs.KeyValue.{KeyValue}
use Rattle.stream_core.specs.declared.step.Step.{Step}
use Rattle.source_feed.specs.History.{RowValue}
use Rattle.source_feed.specs.Planned.{FeedValue}
use Rattle.source_feed.specs.SoundGroups.{sound_groups}
use Rattle.board_laws.specs.declared.refusal.Refusal.TheVariants as refusals
use Rattle.board_laws.specs.Meaning.{State}
use Rattle.board_laws.specs.Cut.{cut_of}
use Rattle.board_laws.specs.Event.{Event}
use Rattle.board_laws.specs.Lawful.{standing_of}
use Rattle.board_laws.specs.Reading.{ReadsFeed}
use Rattle.board_laws.specs.Runs.{IsTouchedIn, event_of_step}
use Rattle.stream_worker.specs.declared.receipt.Receipt.{Receipt}
use Rattle.stream_worker.specs.declared.seat.Seat.{Seat}
use Rattle.apply_core.specs.declared.run_refusal.RunRefusal.{RunRefusal}
use Rattle.apply_core.specs.declared.run_refusal.RunRefusal.TheVariants.{FeedCount, WrongPlan, Unsound, OwnedByOther, Memory}
use Rattle.apply_core.specs.Courses.{LeadsOn}
use Rattle.apply_core.specs.Ended.{HasEnded}
use Rattle.stream_worker.specs.Knowing.{Laid, Knows}
use Rattle.apply_core.specs.RunRefused.{IsFirstUnsoundGroup}
use Rattle.stream_worker.specs.SeatOf.{known, seat_state, SawNoOther}
use Rattle.stream_worker.specs.Seats.{IsBoardStep, IsReceiptOf}
use Rattle.stream_worker.specs.Steps.{HasStepped}

-- ---- a seat's stream and its feed

-- the stream of a seat reads this feed: its plan is the feed's, and its groups are a beginning of the feed's
abbrev pub Follows : FeedValue → Seat → Type 0
Follows feed seat = IsSomeAnd (seat_state seat) (ReadsFeed feed)

-- it is of the feed's plan
abbrev pub IsOfPlan : FeedValue → Seat → Type 0
IsOfPlan feed seat = IsSomeAnd (seat_state seat) (λ state. state.plan ≡ feed.plan)

-- it has come to the feed's end
abbrev pub HasCome : FeedValue → Seat → Type 0
HasCome feed seat = IsSomeAnd (seat_state seat) (HasEnded feed)

-- ---- why it ended before

-- On the board that the pass saw last a step of stream s is refused for a row of another stream: it is the owner's, at
-- the least key that is due in the step at which one stands. The feed touches the key, and the owner's cut has the row.
pub record MeetsRow (feed : FeedValue) (after : Knows) (s : ℕ) (key : KeyValue) (owner : ℕ) : Type 0 where
  pub laid : Laid
  pub seen : after.seen ≡ Some laid
  pub step : Step
  pub event : Event
  pub of_step : event_of_step feed step ≡ Some event
  pub refused : IsBoardStep laid s event (Err (refusals.OwnedByOther key owner)) laid
  pub touched : IsTouchedIn (sound_groups feed) key
  pub other : owner ≢ s
  pub state : State
  pub there : slice_get laid.board owner ≡ Some state
  pub row : RowValue
  pub cut : cut_of state key ≡ Some row

-- memory is wanted for a step on the stream's course: there is one that leads on to the feed's end, and where it offers a
-- group, that group is sound
pub record WantsNextStep (feed : FeedValue) (state : State) : Type 0 where
  pub step : Step
  pub was : ℕ
  pub is : ℕ
  pub leads : LeadsOn (standing_of state) (length feed.groups) was is step
  pub event : Event
  pub of_step : event_of_step feed step ≡ Some event

-- why a seat's stream ended before its feed's end: a group of the feed isn't sound; a row of another stream stood at a
-- key that was due in the stream's own step; memory is wanted for such a step
abbrev pub EndsSeat : FeedValue → Seat → RunRefusal → Type 0
EndsSeat feed seat FeedCount = ⊥
EndsSeat feed seat WrongPlan = ⊥
EndsSeat feed seat (Unsound stream fault) = (stream ≡ seat.stream) × IsFirstUnsoundGroup feed fault
EndsSeat feed seat (OwnedByOther stream key owner) = (stream ≡ seat.stream) × MeetsRow feed (known seat) seat.stream key owner
EndsSeat feed seat Memory = IsSomeAnd (seat_state seat) (WantsNextStep feed)

-- ---- its receipts

-- a receipt of the group that the seat's stream applied last
abbrev pub IsLastReceipt : Seat → Receipt → Type 0
IsLastReceipt seat receipt = IsSomeAnd (seat_state seat) (λ state. IsReceiptOf seat.stream state receipt.stream receipt.number (arc_value receipt.group))

-- a receipt of stream s for the group behind so many: it names the stream and that group's number, and has the group
-- that stands there
pub record IsReceiptBehind (s before : ℕ) (state : State) (receipt : Receipt) : Type 0 where
  pub stream : receipt.stream ≡ s
  pub number : receipt.number ≡ before + 1
  pub group : slice_get state.list before ≡ Some (arc_value receipt.group)

-- receipts of the groups that a stream applied since so many were applied: one of each, in order, up to the last
pub record AreReceiptsSince (first s : ℕ) (state : State) (receipts : List Receipt) : Type 0 where
  pub count : first + length receipts ≡ state.applied
  pub each : (i : ℕ) (receipt : Receipt) → slice_get receipts i ≡ Some receipt → IsReceiptBehind s (first + i) state receipt

-- the same of a seat's stream
abbrev pub AreReceipts : ℕ → Seat → List Receipt → Type 0
AreReceipts first seat receipts = IsSomeAnd (seat_state seat) (λ state. AreReceiptsSince first seat.stream state receipts)

-- ---- what a worker keeps

-- A seat goes on along a feed, by steps that are made: it saw boards of as many streams; with a receipt for each group
-- that it had applied since some number, it has one for each; and where its stream was of the feed's plan, or read the
-- feed, it still is and does. Its receipts are told before and after.
pub record GoesOn (feed : FeedValue) (before : Seat) (had : List Receipt) (after : Seat) (has : List Receipt) : Type 0 where
  pub stepped : HasStepped feed before after
  pub many : SawNoOther before after
  pub receipts : (first : ℕ) → AreReceipts first before had → AreReceipts first after has
  pub plan : IsOfPlan feed before → IsOfPlan feed after
  pub follows : Follows feed before → Follows feed after
