-- A feed in two, behind the last event of a group (this profile).
use Rattle.std.specs.Prelude.{◌≡◌, ℕ, List, ◌++◌, map, reverse, Some, Ok}
use Rattle.vevent.specs.EventValue.{EventValue}
use Rattle.vevent.specs.Event.{event_at}
use Rattle.source_feed.specs.GroupValue.{Position}
use Rattle.source_feed.specs.Groups.{Block}
use Rattle.source_feed.specs.PastEvents.{position_of}
use Rattle.source_feed.specs.SourceValue.{SourceValue}
use Rattle.event_laws.specs.Cuts.{IsCut}
use Rattle.event_laws.specs.Laws.{HaveEvents, groups_in_front}
use Rattle.feed_bytes.specs.FieldBytes.{FieldBytesValue, AreInForce}

-- the bytes are an event that carries this position of the source
pub record CarriesPosition (source : SourceValue) (bytes : List ℕ) (position : Position) : Type 0 where
  pub event : EventValue
  pub read : event_at bytes ≡ Ok event
  pub carries : position_of source event ≡ Some position

-- The feed's events are those before a cut, the others of the message that the cut stands in, and those of the rest's messages.
-- Before the cut there are so many groups, with the last of which it stands; the FIELDs are those in force there, and the
-- event at `place` carries the last group's position.
pub record IsCutBehind (feed : List ℕ) (source : SourceValue) (number : ℕ) (fields : List FieldBytesValue) (place : List ℕ) (others : List (List ℕ)) (rest : List ℕ) : Type 0 where
  pub front : List EventValue
  pub behind : List EventValue
  pub later : List EventValue
  pub events : HaveEvents feed (front ++ (behind ++ later))
  pub of_message : map event_at others ≡ map Ok behind
  pub of_rest : HaveEvents rest later
  pub many : groups_in_front source front ≡ number
  pub block : Block
  pub cut : IsCut source (reverse front) block
  pub in_force : AreInForce source (reverse front) fields
  pub carried : CarriesPosition source place block.position
