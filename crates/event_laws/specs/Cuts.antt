-- Where a feed's events can be cut: behind the last event of a group (this profile).
use Rattle.std.specs.Prelude.{◌≡◌, [], ◌∷◌, false, Some, None}
use Rattle.gtid_set.specs.Position.{within_of}
use Rattle.vevent.specs.EventValue.{EventValue}
use Rattle.source_feed.specs.SourceValue.{SourceValue}
use Rattle.source_feed.specs.PastEvents.{PastEvents, is_open}
use Rattle.source_feed.specs.Groups.{Block, block_at, seen, first_fault}
use Rattle.event_laws.specs.BaseEvents.{HasLast}

-- a group ends with this event: a block ends with it that isn't a repeat, and no event up to it has a fault
pub record EndsGroup (source : SourceValue) (earlier : PastEvents) (event : EventValue) (block : Block) : Type 0 where
  pub faultless : first_fault source (event ∷ earlier) ≡ None
  pub here : block_at source earlier event ≡ Some block
  pub more : within_of block.position (seen source earlier) ≡ false

-- behind it no transaction is open, and the last group's position is all that was reached
pub record IsCut (source : SourceValue) (history : PastEvents) (block : Block) : Type 0 where
  pub outside : is_open history ≡ false
  pub last : HasLast source history block.position
  pub reached : seen source history ≡ block.position
  pub from_empty : within_of block.position [] ≡ false
