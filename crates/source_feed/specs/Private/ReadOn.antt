-- What reading a piece on behind some bytes gives.
use Rattle.std.specs.Prelude.{◌≡◌, ◌⊎◌, ℕ, ◌+◌, ◌≤◌, List, ◌++◌, true, false, None, Some, Ok, Err, length, take, drop, reverse}
use Rattle.std.specs.List.{list_any}
use Rattle.source_feed.specs.declared.fault.FeedFault.{FeedFault}
use Rattle.source_feed.specs.declared.fault.FeedFault.TheVariants.{FieldsDiffer}
use Rattle.source_feed.specs.declared.group_reader.GroupReader.{GroupReader}
use Rattle.source_feed.specs.EventList.{events_of_feed}
use Rattle.source_feed.specs.PastEvents.{PastEvents}
use Rattle.source_feed.specs.Groups.{groups_of}
use Rattle.source_feed.specs.Planned.{FeedValue, source_of, differs}
use Rattle.source_feed.specs.Growing.{IsSettledFront, events_so_far}
use Rattle.source_feed.specs.Private.EventByEvent.{past_behind}
use Rattle.source_feed.specs.Private.FeedTables.{AreNumbered}
use Rattle.source_feed.specs.Private.KnownBehind.{past_of}
use Rattle.source_feed.specs.Private.ReaderState.{IsBehind, count_of}

-- a piece behind some bytes is read to its end, and so many of its bytes are settled
pub record IsReadOn (bytes : List ℕ) (feed : FeedValue) (piece : List ℕ) (reader : GroupReader) (taken : ℕ) : Type 0 where
  pub history : PastEvents
  pub past : past_behind (source_of feed.plan) (past_of bytes) (events_so_far piece).items (events_so_far piece).fault ≡ Ok history
  pub behind : IsBehind (groups_of (source_of feed.plan) (past_of bytes)) (source_of feed.plan) history reader
  pub alike : list_any (differs feed.plan) (events_so_far piece).items ≡ false
  pub within : taken ≤ length piece
  pub front : IsSettledFront piece (take taken piece) (drop taken piece)
  pub numbers : AreNumbered (Some feed.plan) reader.tables
  pub room : count_of reader ≤ length bytes + length piece

-- an event of the piece is at fault, or none is and a FIELD differs
abbrev pub IsFoundIn : List ℕ → FeedValue → List ℕ → FeedFault → Type 0
IsFoundIn bytes feed piece fault =
    (past_behind (source_of feed.plan) (past_of bytes) (events_so_far piece).items (events_so_far piece).fault ≡ Err fault)
    ⊎ ((fault ≡ FieldsDiffer) × ((history : PastEvents) × (past_behind (source_of feed.plan) (past_of bytes) (events_so_far piece).items (events_so_far piece).fault ≡ Ok history))
    × (list_any (differs feed.plan) (events_so_far piece).items ≡ true))

-- nothing of a piece is at fault, and so many of its bytes are settled and read
pub record IsSettledRead (bytes : List ℕ) (feed : FeedValue) (piece : List ℕ) (reader : GroupReader) (taken : ℕ) : Type 0 where
  pub within : taken ≤ length piece
  pub front : IsSettledFront piece (take taken piece) (drop taken piece)
  pub behind : IsBehind (groups_of (source_of feed.plan) (past_of bytes)) (source_of feed.plan) (reverse (events_of_feed (take taken piece)).items ++ past_of bytes) reader
  pub past : past_behind (source_of feed.plan) (past_of bytes) (events_of_feed (take taken piece)).items None ≡ Ok (reverse (events_of_feed (take taken piece)).items ++ past_of bytes)
  pub alike : list_any (differs feed.plan) (events_of_feed (take taken piece)).items ≡ false
  pub sound : (history : PastEvents) × (past_behind (source_of feed.plan) (past_of bytes) (events_so_far piece).items (events_so_far piece).fault ≡ Ok history)
  pub same : list_any (differs feed.plan) (events_so_far piece).items ≡ false
  pub numbers : AreNumbered (Some feed.plan) reader.tables
  pub room : count_of reader ≤ length bytes + taken
