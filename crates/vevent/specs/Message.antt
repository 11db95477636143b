-- What each message says, as a function of its fields (`binlogdata.proto`, `query.proto`). Numbers
-- are the fields' numbers there. An absent text is empty and an absent number 0, an absent message
-- is the empty one, but an absent row is no row.
use Rattle.std.specs.Prelude.{ℕ, List, [], Option, option_map, map}
use Rattle.std.specs.Result.{result_unwrap_or}
use Rattle.row_view.specs.Row.{row_of_message}
use Rattle.vevent.specs.declared.kind.EventKind.{EventKind}
use Rattle.vevent.specs.declared.kind.EventKind.TheVariants as kind
use Rattle.row_view.specs.FieldValue.{FieldValue}
use Rattle.vevent.specs.EventValue.{ChangeValue, ShardGtidValue, EventValue, Gtid, Begin, Commit, Rollback, Row, Field, Vgtid, Ignored}
use Rattle.proto_wire.specs.Parts.{text, scalar, parts, single, embedded}

-- the columns of a row; where an event is accepted, each of its rows has them
abbrev pub image_of : List ℕ → List (Option (List ℕ))
image_of row = result_unwrap_or (row_of_message row) []

-- RowChange: before = 1, after = 2
abbrev pub change_of : List ℕ → ChangeValue
change_of change = record { before = option_map image_of (single 1 change); after = option_map image_of (single 2 change) }

-- RowEvent: table_name = 1, row_changes = 2
abbrev pub changes_of : List ℕ → List ChangeValue
changes_of event = map change_of (parts 2 event)

-- Field: name = 1, type = 2
abbrev pub column_field_of : List ℕ → FieldValue
column_field_of field = record { name = text 1 field; type_number = scalar 2 field }

-- FieldEvent: table_name = 1, fields = 2
abbrev pub column_fields_of : List ℕ → List FieldValue
column_fields_of event = map column_field_of (parts 2 event)

-- ShardGtid: keyspace = 1, shard = 2, gtid = 3
abbrev pub shard_gtid_of : List ℕ → ShardGtidValue
shard_gtid_of entry = record { keyspace = text 1 entry; shard = text 2 entry; gtid = text 3 entry }

-- VGtid: shard_gtids = 1
abbrev pub shard_gtids_of : List ℕ → List ShardGtidValue
shard_gtids_of vgtid = map shard_gtid_of (parts 1 vgtid)

-- VEvent: type = 1, gtid = 3, row_event = 5, field_event = 6, vgtid = 7
abbrev pub event_of : EventKind → List ℕ → EventValue
event_of kind.Gtid event = Gtid (text 3 event)
event_of kind.Begin event = Begin
event_of kind.Commit event = Commit
event_of kind.Rollback event = Rollback
event_of kind.Row event = Row (text 1 (embedded 5 event)) (changes_of (embedded 5 event))
event_of kind.Field event = Field (text 1 (embedded 6 event)) (column_fields_of (embedded 6 event))
event_of kind.Vgtid event = Vgtid (shard_gtids_of (embedded 7 event))
event_of (kind.Ignored which) event = Ignored which
