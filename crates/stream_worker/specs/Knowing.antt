-- What lies in the lock of a shared board, and what a pass knows of it (this profile).
use Rattle.std.specs.Prelude.{◌≡◌, ◌⊎◌, ℕ, suc, Bool, true, false, List, [], ◌∷◌, ◌++◌, length, ◌==◌, ◌||◌, Option, Some, None, if◌then◌else◌, slice_get}
use Rattle.std.specs.Option.{option_map, option_map_or, option_and_then}
use Rattle.board_laws.specs.Meaning.{State}

-- the board as it lies in the lock: its streams, and how many seats are given out. Its rows aren't told: those of a
-- lawful board are the cuts of its streams
pub record Laid : Type 0 where
  pub board : List State
  pub given : ℕ

-- what a pass knows: the numbers of its streams, whether it holds the board, and the board as the last step of this
-- pass left it; and since then, of passes whose streams it took, the boards that they saw
pub record Knows : Type 0 where
  pub streams : List ℕ
  pub holds : Bool
  pub seen : Option Laid
  pub told : List (List State)

-- the opener's pass at first: it holds the board and hasn't told of it
abbrev pub first_view : Knows
first_view = record { streams = []; holds = true; seen = None; told = [] }

-- a stream is among these
abbrev pub names : List ℕ → ℕ → Bool
names [] s = false
names (t ∷ later) s = t == s || names later s

-- a pass of these streams that has just taken the board, or just put it back
abbrev pub with_board : List ℕ → Laid → Knows
with_board streams laid = record { streams = streams; holds = true; seen = Some laid; told = [] }

abbrev pub without_board : List ℕ → Laid → Knows
without_board streams laid = record { streams = streams; holds = false; seen = Some laid; told = [] }

-- ---- passes made and joined

-- a new pass has no stream and doesn't hold the board
abbrev pub copy_of : Knows → Knows
copy_of v = record { streams = []; holds = false; seen = v.seen; told = [] }

-- from the n-th stream on: of the named streams their states, of the others ours; there are as many of both
abbrev pub states_joined : List ℕ → ℕ → List State → List State → List State
states_joined named n [] ours = ours
states_joined named n (their ∷ theirs) [] = their ∷ theirs
states_joined named n (their ∷ theirs) (our ∷ ours) = (if names named n then their else our) ∷ states_joined named (suc n) theirs ours

abbrev pub states_seen : Option Laid → List State
states_seen seen = option_map_or (λ laid. laid.board) seen []

-- a board with the states of the named streams as another view has them
abbrev pub with_states : List ℕ → Option Laid → Laid → Laid
with_states named theirs laid = record laid { board = states_joined named 0 (states_seen theirs) laid.board }

-- the boards that a pass saw, or was told of
abbrev pub boards_of : Knows → List (List State)
boards_of v = option_map_or (λ laid. laid.board ∷ v.told) v.seen v.told

-- a board is among these
abbrev pub IsAmong : List State → List (List State) → Type 0
IsAmong board [] = ⊥
IsAmong board (one ∷ others) = (one ≡ board) ⊎ IsAmong board others

-- a pass takes the streams of another, with their states; it is told of what both saw
abbrev pub joined_knowing : Knows → Knows → Knows
joined_knowing v w = record {
  streams = v.streams ++ w.streams;
  holds = v.holds;
  seen = option_map {T = Laid} (with_states w.streams w.seen) v.seen;
  told = boards_of v ++ boards_of w;
}

-- a pass whose streams another took
abbrev pub spent_view : Knows
spent_view = record { streams = []; holds = false; seen = None; told = [] }

-- ---- one stream

-- the board that a pass saw, if it saw one, has so many streams
abbrev pub SawStreams : Knows → ℕ → Type 0
SawStreams v n = (laid : Laid) → v.seen ≡ Some laid → length laid.board ≡ n

-- the state of a stream as a pass knows it
abbrev pub state_seen : Knows → ℕ → Option State
state_seen v s = option_and_then (λ laid. slice_get laid.board s) v.seen
