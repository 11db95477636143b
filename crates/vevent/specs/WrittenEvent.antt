-- How events are written (`binlogdata.proto`, `query.proto`): each message as the list of its fields,
-- in rising number. Numbers are the fields' numbers there.
use Rattle.std.specs.Prelude.{◌≡◌, ℕ, ◌^◌, ◌<◌, true, List, [], ◌∷◌, ◌++◌, map, length, Option, Some, None, IfSome, Ok}
use Rattle.std.specs.List.{AllByRecursion}
use Rattle.std.specs.Str.{is_utf8}
use Rattle.proto_wire.specs.Field.{WireField}
use Rattle.proto_wire.specs.Writing.{written_fields, number_field, text_field, message_field}
use Rattle.row_view.specs.WrittenRow.{written_row, IsWithinLimits}
use Rattle.vevent.specs.declared.ignored.IgnoredEvent.{IgnoredEvent}
use Rattle.vevent.specs.declared.ignored.IgnoredEvent.TheVariants.{Ddl, Other, Heartbeat, Version, Savepoint}
use Rattle.row_view.specs.FieldValue.{FieldValue}
use Rattle.vevent.specs.EventValue.{ChangeValue, ShardGtidValue, EventValue, Gtid, Begin, Commit, Rollback, Row, Field, Vgtid, Ignored}
use Rattle.vevent.specs.Event.{event_at}

-- ---- messages

-- messages under one number
abbrev pub message_fields : ℕ → List (List ℕ) → List WireField
message_fields number messages = map (message_field number) messages

-- a row under a number; an absent one isn't written
abbrev pub row_field : ℕ → Option (List (Option (List ℕ))) → List WireField
row_field number None = []
row_field number (Some row) = message_field number (written_row row) ∷ []

-- RowChange: before = 1, after = 2
abbrev pub written_change : ChangeValue → List ℕ
written_change change = written_fields (row_field 1 change.before ++ row_field 2 change.after)

-- RowEvent: table_name = 1, row_changes = 2
abbrev pub written_row_event : List ℕ → List ChangeValue → List ℕ
written_row_event table_name changes = written_fields (text_field 1 table_name ++ message_fields 2 (map written_change changes))

-- Field: name = 1, type = 2
abbrev pub written_column : FieldValue → List ℕ
written_column field = written_fields (text_field 1 field.name ++ number_field 2 field.type_number)

-- FieldEvent: table_name = 1, fields = 2
abbrev pub written_field_event : List ℕ → List FieldValue → List ℕ
written_field_event table_name fields = written_fields (text_field 1 table_name ++ message_fields 2 (map written_column fields))

-- ShardGtid: keyspace = 1, shard = 2, gtid = 3
abbrev pub written_shard_gtid : ShardGtidValue → List ℕ
written_shard_gtid entry = written_fields (text_field 1 entry.keyspace ++ text_field 2 entry.shard ++ text_field 3 entry.gtid)

-- VGtid: shard_gtids = 1
abbrev pub written_vgtid : List ShardGtidValue → List ℕ
written_vgtid entries = written_fields (message_fields 1 (map written_shard_gtid entries))

-- ---- the event

-- the number of an ignored event's type
abbrev pub ignored_number : IgnoredEvent → ℕ
ignored_number Ddl = 5
ignored_number Other = 11
ignored_number Heartbeat = 14
ignored_number Version = 17
ignored_number Savepoint = 19

-- the number of an event's type
abbrev pub type_number : EventValue → ℕ
type_number (Gtid position) = 1
type_number Begin = 2
type_number Commit = 3
type_number Rollback = 4
type_number (Row table_name changes) = 12
type_number (Field table_name fields) = 13
type_number (Vgtid entries) = 15
type_number (Ignored which) = ignored_number which

-- what an event of its type holds: gtid = 3, row_event = 5, field_event = 6, vgtid = 7
abbrev pub body_fields : EventValue → List WireField
body_fields (Gtid position) = text_field 3 position
body_fields Begin = []
body_fields Commit = []
body_fields Rollback = []
body_fields (Row table_name changes) = message_field 5 (written_row_event table_name changes) ∷ []
body_fields (Field table_name fields) = message_field 6 (written_field_event table_name fields) ∷ []
body_fields (Vgtid entries) = message_field 7 (written_vgtid entries) ∷ []
body_fields (Ignored which) = []

-- VEvent: type = 1, and what an event of this type holds
abbrev pub written_event : EventValue → List ℕ
written_event event = written_fields (number_field 1 (type_number event) ++ body_fields event)

-- ---- what is written is read again

-- the rows of a change are within the limits
pub record AreWithinLimits (change : ChangeValue) : Type 0 where
  pub before : IfSome change.before IsWithinLimits
  pub after : IfSome change.after IsWithinLimits

-- a column: its name is UTF-8, and its type's number has 64 bits
pub record IsColumn (field : FieldValue) : Type 0 where
  pub name : is_utf8 field.name ≡ true
  pub number : field.type_number < 2 ^ 64

-- the texts of an entry are UTF-8
pub record AreTexts (entry : ShardGtidValue) : Type 0 where
  pub keyspace : is_utf8 entry.keyspace ≡ true
  pub shard : is_utf8 entry.shard ≡ true
  pub gtid : is_utf8 entry.gtid ≡ true

-- what an event holds is right by itself: texts are UTF-8, numbers have 64 bits, rows are within the
-- limits
abbrev pub IsSoundEvent : EventValue → Type 0
IsSoundEvent (Gtid position) = is_utf8 position ≡ true
IsSoundEvent Begin = Unit {0}
IsSoundEvent Commit = Unit {0}
IsSoundEvent Rollback = Unit {0}
IsSoundEvent (Row table_name changes) = (is_utf8 table_name ≡ true) × AllByRecursion AreWithinLimits changes
IsSoundEvent (Field table_name fields) = (is_utf8 table_name ≡ true) × AllByRecursion IsColumn fields
IsSoundEvent (Vgtid entries) = AllByRecursion AreTexts entries
IsSoundEvent (Ignored which) = Unit {0}

-- an event that is right by itself is read again, as what was written
abbrev pub EventsAreReadAgain : Type 0
EventsAreReadAgain = (event : EventValue) → IsSoundEvent event → length (written_event event) < 2 ^ 64 → event_at (written_event event) ≡ Ok event
