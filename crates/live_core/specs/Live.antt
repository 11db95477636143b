-- A board that goes on with its feeds, and what was told of it (this profile).
use Rattle.std.specs.Prelude.{◌≡◌, ◌↔◌, ◌≤◌, ◌++◌, ℕ, true, List, [], Option, None, Some, Ok, IfSome, length, map, take, drop, slice_get, slice_set}
use Rattle.std.specs.List.{list_any}
use Rattle.std.specs.Option.{option_map_or}
use Rattle.std.specs.Ordering.{eq_by_cmp}
use Rattle.pk_copy.specs.KeyOrder.{key_cmp}
use Rattle.pk_copy.specs.KeyValue.{KeyValue}
use Rattle.source_feed.specs.declared.fault.FeedFault.{FeedFault}
use Rattle.source_feed.specs.FaultNumber.{meant_of}
use Rattle.source_feed.specs.Growing.{IsSettledFront, IsRefusedFor, fault_so_far}
use Rattle.source_feed.specs.Planned.{FeedValue, groups_under}
use Rattle.board_laws.specs.FedBoards.{Fed, IsFedBoard}
use Rattle.board_laws.specs.Lawful.{IsLawful}
use Rattle.board_laws.specs.Meaning.{State, TargetRows, Meaning}
use Rattle.board_laws.specs.Sources.{ShowAll}
use Rattle.apply_core.specs.declared.grow_refusal.GrowRefusal.{GrowRefusal}
use Rattle.apply_core.specs.declared.grow_refusal.GrowRefusal.TheVariants.{NoStream, Piece}
use Rattle.apply_core.specs.Ended.{AllHaveEnded}
use Rattle.apply_core.specs.Growing.{IsLonger}
use Rattle.change_laws.specs.declared.changed_keys.ChangedKeys.{ChangedKeys}
use Rattle.change_laws.specs.declared.changed_keys.ChangedKeys.TheVariants.{All, Touched}
use Rattle.change_laws.specs.Changes.{LeadOn, changes_in}
use Rattle.change_laws.specs.Since.{HaveGoneOn, IsTouchedSince}
pub use Rattle.worker_rounds.specs.Rounds.{AreRunning, HasEndedAs, HaveEndedAs}
use Rattle.live_core.specs.Source.{IsOfSource}
use Rattle.live_core.specs.declared.source.Source.{Source}

-- a board with its feeds, the bytes of each feed so far, and the board that was told last, if one was
pub record LiveValue : Type 0 where
  pub fed : Fed
  pub bytes : List (List ℕ)
  pub told : Option Meaning

-- ---- what is true of every such board

-- each feed has the groups of its bytes
abbrev pub AreOfBytes : List FeedValue → List (List ℕ) → Type 0
AreOfBytes feeds all = (s : ℕ) (feed : FeedValue) (bytes : List ℕ) → slice_get feeds s ≡ Some feed → slice_get all s ≡ Some bytes → groups_under bytes feed.plan ≡ Ok feed.groups

-- the same by their sources
abbrev pub AreOfSources : List FeedValue → List Source → Type 0
AreOfSources feeds sources = (s : ℕ) (feed : FeedValue) (source : Source) → slice_get feeds s ≡ Some feed → slice_get sources s ≡ Some source → IsOfSource feed source

-- the streams have gone on since a board was told
pub record HasGoneOnFrom (now told : Meaning) : Type 0 where
  pub lawful : IsLawful told
  pub gone : HaveGoneOn told now

-- It shows its sources: as a board with its feeds does, and each feed has the groups of its bytes. All tables are copied.
pub record IsLive (live : LiveValue) : Type 0 where
  pub shows : ShowAll live.fed.feeds live.fed.board
  pub count : length live.bytes ≡ length live.fed.feeds
  pub bytes : AreOfBytes live.fed.feeds live.bytes
  pub running : AreRunning live.fed.board

-- ---- what a piece does

-- A piece comes behind the bytes of the feed of stream s, and so many of it are taken: up to the last message behind which
-- no transaction is open. The feed is longer by their groups, each other feed is as it was, and nothing of the whole piece
-- is at fault.
pub record TakesPiece (s : ℕ) (piece : List ℕ) (taken : ℕ) (old_feeds new_feeds : List FeedValue) (old_bytes new_bytes : List (List ℕ)) : Type 0 where
  pub bytes : List ℕ
  pub known : slice_get old_bytes s ≡ Some bytes
  pub before : FeedValue
  pub there : slice_get old_feeds s ≡ Some before
  pub within : taken ≤ length piece
  pub settled : IsSettledFront (bytes ++ piece) (bytes ++ take taken piece) (drop taken piece)
  pub sound : fault_so_far before.plan (bytes ++ piece) ≡ None
  pub grown : new_bytes ≡ slice_set old_bytes s (bytes ++ take taken piece)
  pub after : FeedValue
  pub longer : IsLonger before after
  pub groups : groups_under (bytes ++ take taken piece) after.plan ≡ Ok after.groups
  pub feeds : new_feeds ≡ slice_set old_feeds s after

-- the fault stands in the bytes of the feed of stream s with the piece behind them, want of memory aside
pub record IsPieceAtFault (s : ℕ) (piece : List ℕ) (feeds : List FeedValue) (all : List (List ℕ)) (fault : FeedFault) : Type 0 where
  pub bytes : List ℕ
  pub known : slice_get all s ≡ Some bytes
  pub feed : FeedValue
  pub there : slice_get feeds s ≡ Some feed
  pub why : IfSome (meant_of fault) (IsRefusedFor feed.plan (bytes ++ piece))

-- why a piece is refused: 115 exactly where there is no such stream
abbrev pub IsRefusedPiece : ℕ → List ℕ → List FeedValue → List (List ℕ) → GrowRefusal → Type 0
IsRefusedPiece s piece feeds all NoStream = slice_get all s ≡ None
IsRefusedPiece s piece feeds all (Piece fault) = IsPieceAtFault s piece feeds all fault

-- ---- what is told

-- the rows that were told: none where nothing was
abbrev pub told_rows : Option Meaning → TargetRows
told_rows told = option_map_or (λ (board : Meaning). board.rows) told []

-- they are just the keys that were touched since a board was told; and all rows where none was
abbrev pub IsToldExactly : Option Meaning → Meaning → ChangedKeys → Type 0
IsToldExactly None board All = Unit {0}
IsToldExactly None board (Touched keys) = ⊥
IsToldExactly (Some told) board All = ⊥
IsToldExactly (Some told) board (Touched keys) = (key : KeyValue) → (list_any (eq_by_cmp key_cmp key) keys.keys ≡ true) ↔ IsTouchedSince told board key

-- so many keys have changed since what was told: as many as there are such changes, no two of one key
pub record AreCounted (count : ℕ) (told : Option Meaning) (board : Meaning) : Type 0 where
  pub changed : ChangedKeys
  pub exact : IsToldExactly told board changed
  pub lead : LeadOn (told_rows told) (changes_in board.rows changed) board.rows
  pub many : count ≡ length (changes_in board.rows changed)

-- of each stream of a board the number of its applied groups
abbrev pub AreApplied : List ℕ → Meaning → Type 0
AreApplied applied board = applied ≡ map (λ (state : State). state.applied) board.streams

-- ---- laws

-- where each stream of a board has come to its feed's end, all tables are copied
abbrev pub EndedBoardsRun : Type 0
EndedBoardsRun = (feeds : List FeedValue) (board : Meaning) → IsFedBoard feeds board → AllHaveEnded feeds board → AreRunning board
