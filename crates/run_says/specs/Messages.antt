-- What the messages of a feed say (`binlogdata.proto`, `query.proto`): numbers are those of the fields there. Events are
-- those of vevent/specs/EventValue.antt.
use Rattle.std.specs.Prelude.{◌≡◌, ℕ, List, [], ◌∷◌, Option, Some, None, map}
use Rattle.proto_wire.specs.Field.{WireField}
use Rattle.proto_wire.specs.Zigzag.{unzigzag_of}
use Rattle.row_view.specs.FieldValue.{FieldValue}
use Rattle.row_view.specs.Row.{RowValue, columns_over}
use Rattle.vevent.specs.EventValue.{ChangeValue, ShardGtidValue, EventValue, Gtid, Begin, Commit, Rollback, Row, Field, Vgtid, Ignored}
use Rattle.vevent.specs.WrittenEvent.{ignored_number}
use Rattle.run_says.specs.Wire.{EachIs, HaveTogether, IsMessage, AreFramed, held, text_in, number_in, Embeds, HoldNumbers}

-- Row: lengths = 1, in zigzag, and values = 2, the columns' bytes one behind the other; a length below 0 is NULL's.
abbrev pub SaysRow : List ℕ → RowValue → Type 0
SaysRow bytes row = (fields : List WireField) × IsMessage bytes fields × (lengths : List ℕ) × HoldNumbers 1 fields lengths × (row ≡ columns_over (text_in 2 fields) (map unzigzag_of lengths))

-- a row of a change, where there is one
abbrev pub SaysImage : List (List ℕ) → Option RowValue → Type 0
SaysImage parts None = parts ≡ []
SaysImage parts (Some row) = (part : List ℕ) × (parts ≡ part ∷ []) × SaysRow part row

-- RowChange: before = 1, after = 2
abbrev pub SaysChange : List ℕ → ChangeValue → Type 0
SaysChange bytes change = (fields : List WireField) × IsMessage bytes fields × SaysImage (held 1 fields) change.before × SaysImage (held 2 fields) change.after

-- Field: name = 1, type = 2
abbrev pub SaysColumn : List ℕ → FieldValue → Type 0
SaysColumn bytes column = (fields : List WireField) × IsMessage bytes fields × (column ≡ record { name = text_in 1 fields; type_number = number_in 2 fields })

-- ShardGtid: keyspace = 1, shard = 2, gtid = 3
abbrev pub SaysEntry : List ℕ → ShardGtidValue → Type 0
SaysEntry bytes entry = (fields : List WireField) × IsMessage bytes fields × (entry ≡ record { keyspace = text_in 1 fields; shard = text_in 2 fields; gtid = text_in 3 fields })

-- VEvent: type = 1, gtid = 3; row_event = 5 with table_name = 1, row_changes = 2; field_event = 6 with table_name = 1,
-- fields = 2; vgtid = 7 with shard_gtids = 1
abbrev pub HoldEvent : List WireField → EventValue → Type 0
HoldEvent fields (Gtid text) = (number_in 1 fields ≡ 1) × (text ≡ text_in 3 fields)
HoldEvent fields Begin = number_in 1 fields ≡ 2
HoldEvent fields Commit = number_in 1 fields ≡ 3
HoldEvent fields Rollback = number_in 1 fields ≡ 4
HoldEvent fields (Row name changes) = (number_in 1 fields ≡ 12) × (inner : List WireField) × Embeds 5 fields inner × (name ≡ text_in 1 inner) × EachIs SaysChange (held 2 inner) changes
HoldEvent fields (Field name columns) = (number_in 1 fields ≡ 13) × (inner : List WireField) × Embeds 6 fields inner × (name ≡ text_in 1 inner) × EachIs SaysColumn (held 2 inner) columns
HoldEvent fields (Vgtid entries) = (number_in 1 fields ≡ 15) × (inner : List WireField) × Embeds 7 fields inner × EachIs SaysEntry (held 1 inner) entries
HoldEvent fields (Ignored which) = number_in 1 fields ≡ ignored_number which

abbrev pub SaysEvent : List ℕ → EventValue → Type 0
SaysEvent bytes event = (fields : List WireField) × IsMessage bytes fields × HoldEvent fields event

-- VStreamResponse: events = 1
abbrev pub SaysResponse : List ℕ → List EventValue → Type 0
SaysResponse bytes events = (fields : List WireField) × IsMessage bytes fields × EachIs SaysEvent (held 1 fields) events

-- a feed: the events of its messages, in order
abbrev pub HasEvents : List ℕ → List EventValue → Type 0
HasEvents feed events = (messages : List (List ℕ)) × AreFramed feed messages × HaveTogether SaysResponse messages events
