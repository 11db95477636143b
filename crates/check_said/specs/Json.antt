-- What `check` says, as JSON (this profile). An object has its members by their names.
use Rattle.std.specs.Prelude.{ℕ, ◌+◌, ◌-◌, ◌==◌, List, [], ◌∷◌, ◌++◌, Bool, Option, None, Some, codes, is_some, length, map, slice_get, if◌then◌else◌}
use Rattle.std.specs.List.{after_first}
use Rattle.filter_rule.specs.PlanTable.{TableValue, name_of_table}
use Rattle.filter_rule.specs.PlanValue.{PlanValue, table_of_name}
use Rattle.gtid_set.specs.Printed.{printed_position}
use Rattle.pk_copy.specs.KeyValue.{KeyValue}
use Rattle.json_pieces.specs.Pieces.{list_data, part_data}
use Rattle.serde_json.specs.Data.{Data, null, boolean, number, string, array, object, no_members, member, no_items, item, unsigned}
use Rattle.serde_json.specs.View.{items_of}
use Rattle.serde_json.specs.Written.{compact_text}
use Rattle.shown_text.specs.Shown.{shown}
use Rattle.source_feed.specs.GroupValue.{Position}
use Rattle.source_feed.specs.Image.{ImageRows}
use Rattle.source_feed.specs.Touches.{PreparedValue}
use Rattle.feed_check.specs.Checked.{CheckedValue, touching, passing_groups, rows_of_table}
use Rattle.feed_check.specs.Findings.{FindingValue}
use Rattle.feed_check.specs.Report.{file_name, group_of, kind_text, tables_of, why_text}
use Rattle.feed_check.specs.Shared.{SharedValue, shared_of}
use Rattle.feed_check.specs.Skipped.{SkippedValue}
use Rattle.workflow_check.specs.File.{notes_of}
use Rattle.workflow_check.specs.Notes.{NoteValue, may_stand}
use Rattle.workflow_check.specs.Passed.{PassedValue, passed_of}
use Rattle.workflow_check.specs.declared.note.Flaw.{Flaw}
use Rattle.check_said.specs.Items.{ItemValue, feed_items}
use Rattle.check_said.specs.declared.items.Class.{Class}
use Rattle.check_said.specs.declared.items.Class.TheVariants.{Fault, Note}
use Rattle.workflow_check.specs.declared.note.Flaw.TheVariants.{Ignored, Unmatched, Undecided, Untiled}

abbrev pub count_data : ℕ → Data
count_data n = number (unsigned n)

-- a group's position; null where there is no such group
abbrev pub position_data : Option PreparedValue → Data
position_data None = null
position_data (Some group) = string (printed_position group.position)

-- a key: its parts as cells
abbrev pub key_data : KeyValue → Data
key_data key = list_data part_data key.parts

-- ---- a stream

-- what is told of a change
abbrev pub finding_data : CheckedValue → FindingValue → Data
finding_data check found =
    object (
    member (codes "change") (count_data found.place)
    (member (codes "group") (count_data found.group)
    (member (codes "key") (key_data found.key)
    (member (codes "position") (position_data (group_of check.history found.group))
    (member (codes "table") (string (name_of_table check.plan.tables found.key.table))
    (member (codes "why") (string (why_text found.why)) no_members)))))
    )

-- an event that is passed over
abbrev pub skipped_data : SkippedValue → Data
skipped_data event =
    object (
    member (codes "message") (count_data event.message)
    (member (codes "statement") (string (shown event.statement))
    (member (codes "type") (string (kind_text event.kind)) no_members))
    )

-- a name that no table has, and the nearest one, if there is one
abbrev pub nearest_data : PlanValue → List ℕ → Data
nearest_data plan name = if is_some (table_of_name plan name) then string name else null

abbrev pub name_data : PlanValue → List ℕ → Data
name_data plan name = object (member (codes "name") (string name) (member (codes "nearest") (nearest_data plan (after_first (λ b. b == 46) name)) no_members))

-- a table with its counts
abbrev pub counts_data : List ℕ → ℕ → ℕ → ℕ → Data
counts_data name touching passing rows =
    object (
    member (codes "groups") (count_data touching)
    (member (codes "passing") (count_data passing)
    (member (codes "rows") (count_data rows)
    (member (codes "table") (string name) no_members)))
    )

-- the tables of a stream from one on
abbrev pub tables_from : CheckedValue → ImageRows → ℕ → List TableValue → List Data
tables_from check rows t [] = []
tables_from check rows t (table ∷ later) = counts_data table.name (touching t check.history) (passing_groups t check.history) (rows_of_table t rows) ∷ tables_from check rows (t + 1) later

abbrev pub tables_data : CheckedValue → Data
tables_data check = array (items_of (tables_from check check.rows 0 check.plan.tables))

abbrev pub stream_data : ℕ → List ℕ → CheckedValue → Data
stream_data i file check =
    object (
    member (codes "file") (string file)
    (member (codes "findings") (list_data (finding_data check) check.findings)
    (member (codes "first") (position_data (slice_get check.history 0))
    (member (codes "groups") (count_data (length check.history))
    (member (codes "last") (position_data (slice_get check.history (length check.history - 1)))
    (member (codes "moves") (list_data (finding_data check) check.moves)
    (member (codes "shard") (string check.plan.shard)
    (member (codes "skipped") (list_data skipped_data check.skipped)
    (member (codes "stream") (count_data i)
    (member (codes "tables") (tables_data check)
    (member (codes "unknown") (list_data (name_data check.plan) check.unknown) no_members))))))))))
    )

-- the streams from one on, whose files have these names
abbrev pub streams_from : List (List ℕ) → ℕ → List CheckedValue → List Data
streams_from files i [] = []
streams_from files i (check ∷ later) = stream_data i (file_name files i) check ∷ streams_from files (i + 1) later

abbrev pub streams_data : List (List ℕ) → List CheckedValue → Data
streams_data files checks = array (items_of (streams_from files 0 checks))

-- ---- all streams

-- the least key that two feeds touch, and their streams
abbrev pub shared_data : List TableValue → SharedValue → Data
shared_data tables shared =
    object (
    member (codes "key") (key_data shared.key)
    (member (codes "streams") (array (item (count_data shared.one) (item (count_data shared.other) no_items)))
    (member (codes "table") (string (name_of_table tables shared.key.table)) no_members))
    )

abbrev pub shared_if : List TableValue → Option SharedValue → Data
shared_if tables None = null
shared_if tables (Some shared) = shared_data tables shared

-- ---- the workflow's file

abbrev pub flaw_word : Flaw → List ℕ
flaw_word Ignored = codes "ignored"
flaw_word Unmatched = codes "unmatched"
flaw_word Undecided = codes "undecided"
flaw_word Untiled = codes "untiled"

-- the table of which something is told; null where the path says it
abbrev pub table_or_null : List ℕ → Data
table_or_null [] = null
table_or_null (byte ∷ bytes) = string (byte ∷ bytes)

abbrev pub note_data : NoteValue → Data
note_data note =
    object (member (codes "path") (string note.place) (member (codes "table") (table_or_null note.table) (member (codes "why") (string (flaw_word note.flaw)) no_members)))

-- the rows of a table that a stream passes, in words
abbrev pub passed_data : PassedValue → Data
passed_data passed =
    object (member (codes "rows") (string passed.rows) (member (codes "stream") (count_data passed.stream) (member (codes "table") (string passed.table) no_members)))

-- ---- all that is told

-- a position; null where none is said
abbrev pub position_or_null : Option Position → Data
position_or_null None = null
position_or_null (Some position) = string (printed_position position)

abbrev pub class_word : Class → List ℕ
class_word Fault = codes "fault"
class_word Note = codes "note"

-- an item of a stream; what is told of a file has a path in its place
abbrev pub item_data : ItemValue → Data
item_data told =
    object (
    member (codes "class") (string (class_word told.class))
    (member (codes "count") (count_data told.count)
    (member (codes "kind") (string told.kind)
    (member (codes "path") null
    (member (codes "position") (position_or_null told.position)
    (member (codes "stream") (count_data told.stream)
    (member (codes "table") (table_or_null told.table) no_members))))))
    )

abbrev pub note_class : Flaw → Class
note_class flaw = if may_stand flaw then Note else Fault

abbrev pub note_item : NoteValue → Data
note_item note =
    object (
    member (codes "class") (string (class_word (note_class note.flaw)))
    (member (codes "count") (count_data 1)
    (member (codes "kind") (string (flaw_word note.flaw))
    (member (codes "path") (string note.place)
    (member (codes "position") null
    (member (codes "stream") null
    (member (codes "table") (table_or_null note.table) no_members))))))
    )

-- the items of the streams, and behind them those of the file
abbrev pub told_data : List ItemValue → List NoteValue → Data
told_data items notes = array (items_of (map item_data items ++ map note_item notes))

-- ---- the whole

abbrev pub whole_data : Bool → Data → Data → Data → Data → Data → Bool → Data
whole_data noted notes rules streams told touched warned =
    object (
    member (codes "noted") (boolean noted)
    (member (codes "notes") notes
    (member (codes "rules") rules
    (member (codes "streams") streams
    (member (codes "told") told
    (member (codes "touched") touched
    (member (codes "warned") (boolean warned) no_members))))))
    )

-- what is said of a workflow's file and of checks of its feeds, whose files have these names
abbrev pub check_data : List ℕ → List (List ℕ) → List CheckedValue → Bool → Bool → Data
check_data workflow files checks noted warned =
    whole_data noted (list_data note_data (notes_of workflow)) (list_data passed_data (passed_of workflow)) (streams_data files checks) (told_data (feed_items checks) (notes_of workflow))
    (shared_if (tables_of checks) (shared_of checks)) warned

-- a line of JSON
abbrev pub json_line : Data → List ℕ
json_line line = compact_text line ++ 10 ∷ []
