-- A feed that grows at its end (this profile).
use Rattle.std.specs.Prelude.{◌≡◌, ◌++◌, ℕ, List, length, take, drop, Some, None, IfSome, IsSomeAnd, slice_get, slice_set}
use Rattle.source_feed.specs.FaultNumber as feed
use Rattle.source_feed.specs.FaultNumber.{meant_of}
use Rattle.source_feed.specs.declared.fault.FeedFault.{FeedFault}
use Rattle.source_feed.specs.declared.feed_end.FeedEnd.{FeedEnd}
use Rattle.source_feed.specs.Growing.{IsEndOf, IsSettledFront, IsRefusedFor, fault_so_far}
use Rattle.source_feed.specs.Planned.{FeedValue, IsFeed}
use Rattle.board_laws.specs.FedBoards.{HasGrown}
use Rattle.apply_core.specs.declared.grow_refusal.GrowRefusal.{GrowRefusal}
use Rattle.apply_core.specs.declared.grow_refusal.GrowRefusal.TheVariants.{NoStream, Piece}

-- a feed is longer than it was, or as long: it is whole and of the same plan, and begins with the groups that it had
pub record IsLonger (old new : FeedValue) : Type 0 where
  pub plan : new.plan ≡ old.plan
  pub whole : IsFeed new
  pub begins : take (length old.groups) new.groups ≡ old.groups

-- ---- by a piece

-- A feed has grown by so many bytes of a piece: it is longer; and behind whatever bytes it was of, with its end, up to the
-- last message behind which no transaction is open, it is of the bytes with these behind them. Nothing of the whole piece
-- is at fault.
pub record IsGrownBy (piece : List ℕ) (taken : ℕ) (old new : FeedValue) (old_end new_end : FeedEnd) : Type 0 where
  pub longer : IsLonger old new
  pub settled : (bytes : List ℕ) → IsEndOf bytes old old_end → IsSettledFront (bytes ++ piece) (bytes ++ take taken piece) (drop taken piece)
  pub groups : (bytes : List ℕ) → IsEndOf bytes old old_end → IsEndOf (bytes ++ take taken piece) new new_end
  pub sound : (bytes : List ℕ) → IsEndOf bytes old old_end → fault_so_far old.plan (bytes ++ piece) ≡ None

-- the feed of stream s has, and all others are as they were
pub record GrowsAt (s : ℕ) (piece : List ℕ) (taken : ℕ) (old new : List FeedValue) (old_end new_end : FeedEnd) : Type 0 where
  pub before : FeedValue
  pub there : slice_get old s ≡ Some before
  pub after : FeedValue
  pub grown : IsGrownBy piece taken before after old_end new_end
  pub feeds : new ≡ slice_set old s after

-- what a piece is refused by stands in the bytes with the piece behind them, want of memory aside
abbrev pub IsPieceRefused : List ℕ → FeedEnd → FeedFault → FeedValue → Type 0
IsPieceRefused piece end fault feed = (bytes : List ℕ) → IsEndOf bytes feed end → IfSome (meant_of fault) (IsRefusedFor feed.plan (bytes ++ piece))

-- the feed of stream s doesn't grow: 115 exactly where there is no such stream, and else as its end refuses the piece
abbrev pub IsRefusedGrow : ℕ → List ℕ → List FeedValue → FeedEnd → GrowRefusal → Type 0
IsRefusedGrow s piece feeds end NoStream = slice_get feeds s ≡ None
IsRefusedGrow s piece feeds end (Piece fault) = IsSomeAnd (slice_get feeds s) (IsPieceRefused piece end fault)

abbrev pub number_of_grow : GrowRefusal → ℕ
number_of_grow NoStream = 115
number_of_grow (Piece fault) = feed.number_of fault

-- ---- laws

-- a feed that is longer has grown: its sound groups begin with those that were sound
abbrev pub LongerFeedsHaveGrown : Type 0
LongerFeedsHaveGrown = (old new : FeedValue) → IsLonger old new → HasGrown old new
