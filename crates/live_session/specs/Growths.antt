-- Feeds that grow by what has come (this profile).
use Rattle.std.specs.Prelude.{◌≡◌, ℕ, ◌+◌, ◌++◌, List, [], ◌∷◌, Bool, true, false, Option, None, length, Some, slice_get}
use Rattle.std.specs.Option.{option_map_or}
use Rattle.source_feed.specs.Planned.{FeedValue, PlannedGroupValue}
use Rattle.source_feed.specs.declared.fault.FeedFault.{FeedFault}
use Rattle.live_core.specs.Live.{IsPieceAtFault, LiveValue, TakesPiece}
use Rattle.live_session.specs.Stops.{lasts}
use Rattle.live_session.specs.declared.seat.Seat.{Seat}
use Rattle.live_session.specs.declared.seat.Stopped.{Stopped}
use Rattle.live_session.specs.declared.seat.Stopped.TheVariants.{File, Bytes}

-- how many bytes there are in all
abbrev pub total : List (List ℕ) → ℕ
total [] = 0
total (bytes ∷ others) = length bytes + total others

-- these bytes have others behind them
pub record AreFollowed (bytes : List ℕ) (all : List (List ℕ)) (s : ℕ) : Type 0 where
  pub more : List ℕ
  pub known : slice_get all s ≡ Some (bytes ++ more)

-- the feed is there, of the same plan, and its groups have others behind them
pub record IsThereLonger (feed : FeedValue) (feeds : List FeedValue) (s : ℕ) : Type 0 where
  pub after : FeedValue
  pub there : slice_get feeds s ≡ Some after
  pub plan : after.plan ≡ feed.plan
  pub more : List PlannedGroupValue
  pub groups : after.groups ≡ feed.groups ++ more

-- So many bytes have come: each feed has those that it had, and others behind them. No stream has read or applied a group.
pub record HaveCome (count : ℕ) (old new : LiveValue) : Type 0 where
  pub board : new.fed.board ≡ old.fed.board
  pub told : new.told ≡ old.told
  pub number : length new.fed.feeds ≡ length old.fed.feeds
  pub many : total new.bytes ≡ total old.bytes + count
  pub bytes : (s : ℕ) (bytes : List ℕ) → slice_get old.bytes s ≡ Some bytes → AreFollowed bytes new.bytes s
  pub feeds : (s : ℕ) (feed : FeedValue) → slice_get old.fed.feeds s ≡ Some feed → IsThereLonger feed new.fed.feeds s

-- ---- what is noted in a seat

-- of a piece of the feed of stream s: nothing where so many of its bytes were taken; else the fault that stands in it, and none was
abbrev pub IsNoted : ℕ → List ℕ → ℕ → Option Stopped → LiveValue → LiveValue → Type 0
IsNoted s piece taken None old new = TakesPiece s piece taken old.fed.feeds new.fed.feeds old.bytes new.bytes
IsNoted s piece taken (Some (Bytes fault)) old new = (new ≡ old) × IsPieceAtFault s piece old.fed.feeds old.bytes fault
IsNoted s piece taken (Some (File fault)) old new = ⊥

-- the feed of stream s has the bytes and the groups that it had
pub record IsStill (s : ℕ) (old new : LiveValue) : Type 0 where
  pub bytes : slice_get new.bytes s ≡ slice_get old.bytes s
  pub feed : slice_get new.fed.feeds s ≡ slice_get old.fed.feeds s

-- it has, and the fault stands in some piece behind its bytes
pub record IsStillFor (s : ℕ) (fault : FeedFault) (old new : LiveValue) : Type 0 where
  pub still : IsStill s old new
  pub piece : List ℕ
  pub why : IsPieceAtFault s piece old.fed.feeds old.bytes fault

-- a feed that was asked for more hasn't grown where it is noted why
abbrev pub IsAsked : ℕ → Option Stopped → LiveValue → LiveValue → Type 0
IsAsked s None old new = Unit {0}
IsAsked s (Some (Bytes fault)) old new = IsStillFor s fault old new
IsAsked s (Some (File fault)) old new = IsStill s old new

-- one that wasn't has its bytes, and its seat says the same of it
pub record IsLeftOut (s : ℕ) (before after : Seat) (old new : LiveValue) : Type 0 where
  pub still : IsStill s old new
  pub stopped : after.stopped ≡ before.stopped
  pub tail : after.tail ≡ before.tail

-- a feed doesn't grow any more
abbrev pub is_closed : Seat → Bool
is_closed seat = option_map_or lasts seat.stopped false

-- a feed that was closed is left out, and another is asked
abbrev pub HasGrown : Bool → ℕ → Seat → Seat → LiveValue → LiveValue → Type 0
HasGrown true s before after old new = IsLeftOut s before after old new
HasGrown false s before after old new = IsAsked s after.stopped old new

-- each feed, by its seat before and behind
abbrev pub HaveGrown : List Seat → List Seat → LiveValue → LiveValue → Type 0
HaveGrown befores afters old new = (s : ℕ) (before after : Seat) → slice_get befores s ≡ Some before → slice_get afters s ≡ Some after → HasGrown (is_closed before) s before after old new
