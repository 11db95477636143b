-- What a seat knows, and the shared board that it is of (this profile).
use Rattle.std.specs.Prelude.{◌≡◌, ℕ, ◌≤◌, true, false, List, length, Option, Some, IsSome, Result, slice_get}
use Rattle.crossbeam_channel.specs.Claims.{view, IsSeatAt}
use Rattle.crossbeam_channel.specs.Ends.{sends_on}
use Rattle.board_laws.specs.declared.answer.Answer.{Answer}
use Rattle.board_laws.specs.declared.refusal.Refusal.{Refusal}
use Rattle.board_laws.specs.Event.{Event}
use Rattle.board_laws.specs.Meaning.{State}
use Rattle.stream_worker.specs.declared.seat.Seat.{Seat}
use Rattle.stream_worker.specs.declared.shared.Shared.{Shared}
use Rattle.stream_worker.specs.Knowing.{Laid, Knows, SawStreams, IsAmong, names, boards_of, state_seen}
use Rattle.stream_worker.specs.Rule.{AllGoOn}
use Rattle.stream_worker.specs.Seats.{IsSeatStep}

-- what a seat knows of the board
abbrev pub known : Seat → Knows
known seat = view seat.pass

-- the state of a seat's stream
abbrev pub seat_state : Seat → Option State
seat_state seat = state_seen (known seat) seat.stream

-- the seat is one of this shared board's
abbrev pub IsSeatOf : Shared → Seat → Type 0
IsSeatOf shared seat = IsSeatAt (sends_on shared.lock.sender) seat.pass

-- it is one of this shared board's, and its stream is s
abbrev pub IsSeatFor : Shared → ℕ → Seat → Type 0
IsSeatFor shared s seat = IsSeatOf shared seat × (seat.stream ≡ s)

-- a call of a seat is one step on its stream, on the state that it knew
abbrev pub MakesStep : Seat → Event → Result Answer Refusal → Seat → Type 0
MakesStep before event result after = IsSeatStep (known before) before.stream event result (known after)

-- what a seat saw later has as many streams as what it saw before
abbrev pub SawNoOther : Seat → Seat → Type 0
SawNoOther before after = (n : ℕ) → SawStreams (known before) n → SawStreams (known after) n

-- seats of a shared board, one a stream, in the order of the streams
abbrev pub AreSeatsOf : Shared → List Seat → Type 0
AreSeatsOf shared seats = (k : ℕ) (seat : Seat) → slice_get seats k ≡ Some seat → IsSeatFor shared k seat

-- seats of a shared board in any order, no two of one stream
pub record AreApartSeats (shared : Shared) (seats : List Seat) : Type 0 where
  pub each : (k : ℕ) (seat : Seat) → slice_get seats k ≡ Some seat → IsSeatOf shared seat
  pub apart : (j k : ℕ) (one other : Seat) → slice_get seats j ≡ Some one → slice_get seats k ≡ Some other → one.stream ≡ other.stream → j ≡ k

-- each stream has the state that its seat knows
abbrev pub AreStatesOf : List Seat → List State → Type 0
AreStatesOf seats board = (k : ℕ) (seat : Seat) → slice_get seats k ≡ Some seat → slice_get board seat.stream ≡ seat_state seat

-- every stream goes on from what any of the seats saw of it
abbrev pub AllGoOnFromSeen : List Seat → List State → Type 0
AllGoOnFromSeen seats board = (k : ℕ) (seat : Seat) (laid : Laid) → slice_get seats k ≡ Some seat → (known seat).seen ≡ Some laid → AllGoOn laid.board board

-- each seat saw a board of so many streams
abbrev pub SawAsMany : List Seat → ℕ → Type 0
SawAsMany seats n = (k : ℕ) (seat : Seat) (laid : Laid) → slice_get seats k ≡ Some seat → (known seat).seen ≡ Some laid → length laid.board ≡ n

-- a board is opened: there is a seat for each stream, and it knows the stream's state, and how many
-- streams there are
pub record IsOpened (board : List State) (shared : Shared) (seats : List Seat) : Type 0 where
  pub count : length seats ≡ length board
  pub each : AreSeatsOf shared seats
  pub states : AreStatesOf seats board
  pub many : SawAsMany seats (length board)

-- each seat knows the state of its stream that a pass saw
abbrev pub AreStatesSeen : List Seat → Knows → Type 0
AreStatesSeen seats v = (k : ℕ) (seat : Seat) → slice_get seats k ≡ Some seat → seat_state seat ≡ state_seen v seat.stream

-- a pass that holds nothing has the streams of the seats from place n on, saw the states that these know, and saw or was
-- told of each board that these saw
pub record AreAllKnown (seats : List Seat) (n : ℕ) (v : Knows) : Type 0 where
  pub holds : v.holds ≡ false
  pub seen : IsSome v.seen
  pub own : (k : ℕ) (seat : Seat) → n ≤ k → slice_get seats k ≡ Some seat → names v.streams seat.stream ≡ true
  pub states : (k : ℕ) (seat : Seat) → n ≤ k → slice_get seats k ≡ Some seat → state_seen v seat.stream ≡ seat_state seat
  pub told : (k : ℕ) (seat : Seat) (laid : Laid) → n ≤ k → slice_get seats k ≡ Some seat → (known seat).seen ≡ Some laid → IsAmong laid.board (boards_of v)
