-- The groups of a feed. Everything is said of an event by what stands before it (this profile, after
-- the Vitess document 'VReplication').
use Rattle.std.specs.Prelude.{ℕ, ◌+◌, ◌^◌, List, [], ◌∷◌, ◌++◌, length, reverse, nat_lt, Option, None, Some, Result, Ok, Err, if◌then◌else◌}
use Rattle.std.specs.List.{list_all}
use Rattle.std.specs.Option.{option_or}
use Rattle.proto_wire.specs.Reading.{Reading}
use Rattle.gtid_set.specs.Position.{union_of, within_of}
use Rattle.gtid_set.specs.Text.{position_of_text}
use Rattle.gtid_set.specs.declared.interval.Interval.{Interval}
use Rattle.gtid_set.specs.declared.fault.GtidFault.{GtidFault}
use Rattle.vevent.specs.Columns.{have_columns}
use Rattle.vevent.specs.EventValue.{ChangeValue, EventValue, Gtid, Begin, Commit, Row, Vgtid}
use Rattle.source_feed.specs.declared.fault.FeedFault.{FeedFault}
use Rattle.source_feed.specs.declared.fault.FeedFault.TheVariants.{FeedTooLong, BadPosition, NoPosition, Diverged, NoFields, ColumnCount, OpenAtEnd, ShardMissing, Misplaced}
use Rattle.source_feed.specs.SourceValue.{SourceValue, table_in_source, own_gtid}
use Rattle.source_feed.specs.GroupValue.{Position, TableChangeValue, GroupValue}
use Rattle.source_feed.specs.EventList.{events_of_feed}
use Rattle.source_feed.specs.PastEvents.{PastEvents, is_open, width_of, position_of, body_position, body_changes}

-- ---- blocks

-- a block: a whole transaction, or a position outside of one
pub record Block : Type 0 where
  pub position : Position
  pub changes : List TableChangeValue

abbrev pub block_at_position : Option Position → List TableChangeValue → Option Block
block_at_position None changes = None
block_at_position (Some position) changes = Some (record { position = position; changes = changes })

-- the block that ends with this event: a COMMIT ends its transaction, and a position outside of one
-- is a block without changes
abbrev pub block_at : SourceValue → PastEvents → EventValue → Option Block
block_at source earlier Commit = if is_open earlier then block_at_position (body_position source earlier) (body_changes source earlier) else None
block_at source earlier event = if is_open earlier then None else block_at_position (position_of source event) []

-- the union of the positions of all blocks
abbrev pub with_block : Position → Option Block → Position
with_block seen None = seen
with_block seen (Some block) = union_of seen block.position

abbrev pub seen : SourceValue → PastEvents → Position
seen source [] = []
seen source (event ∷ earlier) = with_block (seen source earlier) (block_at source earlier event)

-- ---- groups

-- the group that a block is: it is kept unless its position lies within the union of all earlier ones: a repeat is skipped
abbrev pub group_of_block : Position → ℕ → Option Block → List GroupValue
group_of_block before number None = []
group_of_block before number (Some block) = if within_of block.position before then [] else record { number = number; position = block.position; changes = block.changes } ∷ []

-- the groups: the blocks that are kept, in order, numbered from 1
abbrev pub groups_of : SourceValue → PastEvents → List GroupValue
groups_of source [] = []
groups_of source (event ∷ earlier) = groups_of source earlier ++ group_of_block (seen source earlier) (length (groups_of source earlier) + 1) (block_at source earlier event)

-- ---- faults

-- the rows of a ROW event under the columns of its table's last FIELD
abbrev pub row_fault : Option ℕ → List ChangeValue → Option FeedFault
row_fault None changes = Some NoFields
row_fault (Some width) changes = if list_all (have_columns width) changes then None else Some ColumnCount

-- where a block ends with a position: it lies within the union of all earlier ones or contains it
abbrev pub block_fault : SourceValue → PastEvents → Position → Option FeedFault
block_fault source earlier position =
    if within_of position (seen source earlier) then None else
    if within_of (seen source earlier) position then None else
    Some (Diverged (length (groups_of source earlier) + 1))

-- a position is read at its event, whether or not it counts; outside of a transaction its block ends there
abbrev pub position_fault : SourceValue → PastEvents → Result (List Interval) GtidFault → Option FeedFault
position_fault source earlier (Err fault) = Some (BadPosition fault)
position_fault source earlier (Ok position) = if is_open earlier then None else block_fault source earlier position

abbrev pub entry_fault : SourceValue → PastEvents → Option (List ℕ) → Option FeedFault
entry_fault source earlier None = Some ShardMissing
entry_fault source earlier (Some text) = position_fault source earlier (position_of_text text)

abbrev pub commit_fault : SourceValue → PastEvents → Option Position → Option FeedFault
commit_fault source earlier None = Some NoPosition
commit_fault source earlier (Some position) = block_fault source earlier position

-- the fault of an event behind a history, the first in the order of its type's rule
abbrev pub fault_at : SourceValue → PastEvents → EventValue → Option FeedFault
fault_at source earlier Begin = if is_open earlier then Some Misplaced else None
fault_at source earlier (Row name changes) = if is_open earlier then row_fault (width_of source earlier (table_in_source source name)) changes else Some Misplaced
fault_at source earlier (Gtid text) = position_fault source earlier (position_of_text text)
fault_at source earlier (Vgtid entries) = entry_fault source earlier (own_gtid source entries)
fault_at source earlier Commit = if is_open earlier then commit_fault source earlier (body_position source earlier) else None
fault_at source earlier event = None

-- the first fault from the left
abbrev pub first_fault : SourceValue → PastEvents → Option FeedFault
first_fault source [] = None
first_fault source (event ∷ earlier) = option_or (first_fault source earlier) (fault_at source earlier event)

-- ---- the whole

-- a history that ends here: a transaction must not be open
abbrev pub closed : SourceValue → PastEvents → Option FeedFault → Result (List GroupValue) FeedFault
closed source history (Some fault) = Err fault
closed source history None = if is_open history then Err OpenAtEnd else Ok (groups_of source history)

-- the groups of some events, or their first fault
abbrev pub groups_in : SourceValue → Reading EventValue FeedFault → Result (List GroupValue) FeedFault
groups_in source events = closed source (reverse events.items) (option_or (first_fault source (reverse events.items)) events.fault)

-- the groups of a feed, or its fault: more than 2^31 - 1 bytes before all, else the first from the left
abbrev pub groups : List ℕ → SourceValue → Result (List GroupValue) FeedFault
groups feed source = if nat_lt (length feed) (2 ^ 31) then groups_in source (events_of_feed feed) else Err FeedTooLong
