-- The rule of the lock: where the board is, and what each pass knows of it (this profile).
use Rattle.std.specs.Prelude.{◌≡◌, ◌⊎◌, ℕ, ◌+◌, ◌<◌, ◌≤◌, true, false, List, [], ◌∷◌, length, take, Option, Some, None, MatchOption, IsSomeAnd, slice_get}
use mathlib.Core.Option.{some}
use lib.ListN.{get_elem?}
use Rattle.board_laws.specs.Meaning.{State}
use Rattle.stream_worker.specs.Knowing.{Laid, Knows, IsAmong, names, with_board}

-- ---- one stream

-- a stream goes on from an earlier state: its plan is the same, no fewer groups are applied, and those that were
-- applied then still stand first
pub record StateGoesOn (earlier later : State) : Type 0 where
  pub plan : later.plan ≡ earlier.plan
  pub applied : earlier.applied ≤ later.applied
  pub groups : take earlier.applied later.list ≡ take earlier.applied earlier.list

-- every stream of a board goes on from the earlier board
abbrev pub AllGoOn : List State → List State → Type 0
AllGoOn earlier later = (s : ℕ) (state : State) → slice_get earlier s ≡ Some state → IsSomeAnd (slice_get later s) (StateGoesOn state)

-- a board goes on from an earlier one: it has as many streams, and each goes on
pub record BoardGoesOn (earlier later : List State) : Type 0 where
  pub every : AllGoOn earlier later
  pub long : length later ≡ length earlier

-- a board goes on from each of these
abbrev pub GoesOnFromAll : List (List State) → List State → Type 0
GoesOnFromAll told later = (earlier : List State) → IsAmong earlier told → BoardGoesOn earlier later

-- ---- what a pass says of the board

-- A pass of these streams saw a board, and this is the board now: each of its streams is as it was seen, every
-- stream goes on from there, and where the pass has no stream, those without a seat are as they were seen.
pub record IsSaid (streams : List ℕ) (seen now : Laid) : Type 0 where
  pub own : (s : ℕ) → names streams s ≡ true → slice_get now.board s ≡ slice_get seen.board s
  pub given : (s : ℕ) → names streams s ≡ true → s < now.given
  pub every : AllGoOn seen.board now.board
  pub long : length now.board ≡ length seen.board
  pub without_seat : streams ≡ [] → (s : ℕ) → now.given ≤ s → slice_get now.board s ≡ slice_get seen.board s

-- a pass that saw no board has no stream and says nothing
abbrev pub SaysOfBoard : Knows → Laid → Type 0
SaysOfBoard v now = MatchOption v.seen (v.streams ≡ []) (λ seen. IsSaid v.streams seen now)

-- before the opener's first step there is no board to tell of, and no pass knows anything
abbrev pub SaysOf : Knows → Option Laid → Type 0
SaysOf v None = (v.streams ≡ []) × (v.seen ≡ None)
SaysOf v (Some now) = SaysOfBoard v now

-- what a pass was told of, the board now goes on from; before the opener's first step no pass was told of any
abbrev pub ToldOf : Knows → Option Laid → Type 0
ToldOf v now = MatchOption now (v.told ≡ []) (λ laid. GoesOnFromAll v.told laid.board)

-- each of a pass's streams is its own, and what it says, and was told, is so
pub record IsPassOf (owner : ℕ → ℕ) (now : Option Laid) (pass : ℕ) (v : Knows) : Type 0 where
  pub own : (s : ℕ) → names v.streams s ≡ true → owner s ≡ pass
  pub says : SaysOf v now
  pub told : ToldOf v now

-- ---- where the board is

-- a fact of each pass, by its number and its view
abbrev pub EachPass : (ℕ → Knows → Type 0) → List Knows → Type 0
EachPass P views = (pass : ℕ) (v : Knows) → get_elem? views pass ≡ some v → P pass v

-- the board lies in the channel, and no pass holds it
pub record IsBoardFree (items : List Laid) (views : List Knows) (now : Option Laid) : Type 0 where
  pub board : Laid
  pub is : now ≡ Some board
  pub item : items ≡ board ∷ []
  pub none : EachPass (λ pass v. v.holds ≡ false) views

-- the channel is empty, and just one pass holds the board, which is as that pass says
pub record IsHeld (items : List Laid) (views : List Knows) (now : Option Laid) : Type 0 where
  pub empty : items ≡ []
  pub holder : ℕ
  pub view : Knows
  pub there : get_elem? views holder ≡ some view
  pub holds : view.holds ≡ true
  pub seen : view.seen ≡ now
  pub alone : EachPass (λ pass v. v.holds ≡ true → pass ≡ holder) views

-- ---- the rule

-- There is one board, or none before the opener's first step. It lies in the channel or one pass holds it; each pass's
-- streams are its own, so no two passes name one stream; and what each pass says of the board is so.
pub record OneBoard (items : List Laid) (views : List Knows) : Type 0 where
  pub now : Option Laid
  pub owner : ℕ → ℕ
  pub place : IsBoardFree items views now ⊎ IsHeld items views now
  pub each : EachPass (IsPassOf owner now) views

-- ---- the two steps

-- take: the pass holds the board, which is as it said, and goes on from what it was told
pub record IsBoardTaken (before : Knows) (board : Laid) (after : Knows) : Type 0 where
  pub view : after ≡ with_board before.streams board
  pub says : SaysOfBoard before board
  pub told : GoesOnFromAll before.told board.board

-- what a pass of these streams may change of the board that it took: its own streams, each of which goes on
pub record IsOwnChange (streams : List ℕ) (taken board : Laid) : Type 0 where
  pub others : (s : ℕ) → names streams s ≡ false → slice_get board.board s ≡ slice_get taken.board s
  pub every : AllGoOn taken.board board.board
  pub long : length board.board ≡ length taken.board

-- the seats stay as many, or a pass without a stream counts one more
abbrev pub CountsSeats : List ℕ → Laid → Laid → Type 0
CountsSeats streams taken board = (board.given ≡ taken.given) ⊎ ((board.given ≡ taken.given + 1) × (streams ≡ []))

-- what may be put back: by the opener, first of all, any board; later the board that was taken, with its own streams
-- changed or with one seat more
abbrev pub MayPut : Knows → Laid → Type 0
MayPut before board = MatchOption before.seen (Unit {0}) (λ taken. IsOwnChange before.streams taken board × CountsSeats before.streams taken board)

-- put back: the pass doesn't hold the board any more, and a seat that it counted is its own
pub record IsBoardPut (before : Knows) (board : Laid) (after : Knows) : Type 0 where
  pub holds : after.holds ≡ false
  pub seen : after.seen ≡ Some board
  pub same : (taken : Laid) → before.seen ≡ Some taken → board.given ≡ taken.given → after.streams ≡ before.streams
  pub counted : (taken : Laid) → before.seen ≡ Some taken → board.given ≡ taken.given + 1 → after.streams ≡ taken.given ∷ []
  pub first : before.seen ≡ None → after.streams ≡ []
