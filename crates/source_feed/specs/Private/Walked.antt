-- Where a walk over a piece stands.
use Rattle.std.specs.Prelude.{◌≡◌, List, [], ◌++◌, ℕ, None, reverse}
use Rattle.proto_wire.specs.Frame.{frames_of}
use Rattle.source_feed.specs.EventList.{events_of_feed}
use Rattle.source_feed.specs.PastEvents.{PastEvents}
use Rattle.source_feed.specs.Pieces.{AreWhole}
use Rattle.source_feed.specs.Growing.{AreSettled, StaysOpen}

-- The messages before `rest` are walked, and `due` stands behind the last of them behind which no transaction is open.
pub record Walked (piece due rest : List ℕ) (earlier history : PastEvents) : Type 0 where
  pub front : List ℕ
  pub between : List ℕ
  pub parts : piece ≡ front ++ due
  pub settled : AreSettled front
  pub open_parts : due ≡ between ++ rest
  pub whole : AreWhole between
  pub read : (events_of_feed between).fault ≡ None
  pub unsettled : StaysOpen [] (frames_of between).items
  pub past : history ≡ reverse (events_of_feed between).items ++ (reverse (events_of_feed front).items ++ earlier)
