-- The numbers of the refusals (this profile).
use Rattle.std.specs.Prelude.{ℕ, Option, Some, None}
use Rattle.vevent.specs.FaultNumber as event
use Rattle.gtid_set.specs.Fault as position
use Rattle.gtid_set.specs.declared.fault.GtidFault.{GtidFault}
use Rattle.gtid_set.specs.declared.fault.GtidFault.TheVariants as gtid
use Rattle.source_feed.specs.declared.fault.FeedFault.{FeedFault}
use Rattle.source_feed.specs.declared.fault.FeedFault.TheVariants.{FeedTooLong, Frame, Event, BadPosition, NoPosition, Diverged, FieldsDiffer, NoFields, ColumnCount, OpenAtEnd, ShardMissing, Misplaced, BadRow, NoGroup, Memory}

-- the number of each refusal
abbrev pub number_of : FeedFault → ℕ
number_of FeedTooLong = 95
number_of Frame = 81
number_of (Event fault) = 82
number_of (BadPosition fault) = 94
number_of NoPosition = 83
number_of (Diverged group) = 84
number_of FieldsDiffer = 85
number_of NoFields = 86
number_of ColumnCount = 87
number_of OpenAtEnd = 88
number_of ShardMissing = 89
number_of Misplaced = 92
number_of (BadRow group table cause) = 90
number_of (NoGroup groups) = 91
number_of Memory = 72

-- what a fault says of the feed: want of memory says nothing
abbrev pub meant_of : FeedFault → Option FeedFault
meant_of Memory = None
meant_of fault = Some fault

-- the number of the innermost fault, where a fault has a cause: an event's, a position's or a row's
abbrev pub cause_of : FeedFault → Option ℕ
cause_of (Event fault) = Some (event.cause_of fault)
cause_of (BadPosition fault) = Some (position.number_of_fault fault)
cause_of (BadRow group table cause) = Some cause
cause_of fault = None

-- what a refused position is for the feed
abbrev pub refusal_of : GtidFault → FeedFault
refusal_of gtid.Memory = Memory
refusal_of cause = BadPosition cause
