-- The text of a check, stream by stream: lines of what there is, behind them all notes, and behind these all warnings. A
-- warning is of a fault, a note of what may well be so. Names of files, shards and tables are as they are shown (this profile).
use Rattle.std.specs.Prelude.{ℕ, zero, suc, ◌+◌, ◌-◌, ◌==◌, is_some, if◌then◌else◌, List, [], ◌∷◌, ◌++◌, Bool, true, false, Option, Some, None, length, take, codes, decimal, slice_get, unwrap_or}
use Rattle.std.specs.List.{after_first, filter, flat_map}
use Rattle.hex.specs.Hex.{encode_lower}
use Rattle.gtid_set.specs.Printed.{printed_position}
use Rattle.filter_rule.specs.PlanTable.{TableValue, name_of_table}
use Rattle.filter_rule.specs.PlanValue.{PlanValue, table_of_name}
use Rattle.pk_copy.specs.KeyValue.{Part}
use Rattle.pk_copy.specs.Lastpk.{part_text}
use Rattle.shown_text.specs.Shown.{shown}
use Rattle.source_feed.specs.GroupValue.{Position}
use Rattle.source_feed.specs.Touches.{PreparedValue}
use Rattle.feed_check.specs.Base.{base_rows}
use Rattle.feed_check.specs.Checked.{CheckedValue, touching, passing_groups, rows_of_table}
use Rattle.feed_check.specs.Findings.{FindingValue}
use Rattle.feed_check.specs.Shared.{SharedValue, shared_of}
use Rattle.feed_check.specs.Skipped.{SkippedValue}
use Rattle.feed_check.specs.declared.finding.Doubt.{Doubt}
use Rattle.feed_check.specs.declared.finding.Doubt.TheVariants.{NoRow, OtherRow, RowThere, Moved}

-- ---- keys and tables

-- a part of a key as a cell of a dump; a number as its shortest decimal text
abbrev pub part_cell : Part → List ℕ
part_cell part = 120 ∷ encode_lower (part_text part)

-- the parts of a key, parted by commas
abbrev pub more_parts : List Part → List ℕ
more_parts parts = flat_map (λ part. 44 ∷ part_cell part) parts

abbrev pub parts_text : List Part → List ℕ
parts_text [] = []
parts_text (part ∷ others) = part_cell part ++ more_parts others

-- ---- lines

-- a group's position behind a word, if there is that group
abbrev pub group_place_text : List ℕ → Option PreparedValue → List ℕ
group_place_text word None = []
group_place_text word (Some group) = word ++ printed_position group.position

-- the positions of the first group and of the last
abbrev pub places_text : List PreparedValue → List ℕ
places_text history = group_place_text (codes " first ") (slice_get history 0) ++ group_place_text (codes " last ") (slice_get history (length history - 1))

-- the name of a stream's file by its number
abbrev pub file_name : List (List ℕ) → ℕ → List ℕ
file_name files i = unwrap_or (slice_get files i) []

-- a stream: its number, its file, its shard, and how many groups its feed has
abbrev pub stream_head : ℕ → List ℕ → CheckedValue → List ℕ
stream_head i file check = codes "stream " ++ decimal i ++ codes " file " ++ shown file ++ codes " shard " ++ shown check.plan.shard ++ codes " groups " ++ decimal (length check.history)

-- behind that the positions of the first group and of the last
abbrev pub stream_line : ℕ → List ℕ → CheckedValue → List ℕ
stream_line i file check = stream_head i file check ++ places_text check.history ++ 10 ∷ []

-- a table: how many groups touch it, how many put a row that passes the stream's filter, and how many such rows there
-- are at the feed's end
abbrev pub counts_line : List ℕ → ℕ → ℕ → ℕ → List ℕ
counts_line name touching passing rows = codes "table " ++ shown name ++ codes " groups " ++ decimal touching ++ codes " passing " ++ decimal passing ++ codes " rows " ++ decimal rows ++ 10 ∷ []

-- a table of a stream
abbrev pub checked_table_line : CheckedValue → ℕ → List ℕ → List ℕ
checked_table_line check t name = counts_line name (touching t check.history) (passing_groups t check.history) (rows_of_table t check.rows)

-- the tables from one on
abbrev pub checked_table_lines : CheckedValue → ℕ → List TableValue → List ℕ
checked_table_lines check t [] = []
checked_table_lines check t (table ∷ later) = checked_table_line check t table.name ++ checked_table_lines check (t + 1) later

-- the streams from one on
abbrev pub lines_from : List (List ℕ) → ℕ → List CheckedValue → List ℕ
lines_from files i [] = []
lines_from files i (check ∷ later) = (stream_line i (file_name files i) check ++ checked_table_lines check 0 check.plan.tables) ++ lines_from files (i + 1) later

-- ---- notes and warnings

-- a stream's number, a text, and the end of the line
abbrev pub numbered : ℕ → List ℕ → List ℕ
numbered i text = decimal i ++ codes " " ++ text ++ 10 ∷ []

abbrev pub warning : ℕ → List ℕ → List ℕ
warning i text = codes "warning stream " ++ numbered i text

abbrev pub note : ℕ → List ℕ → List ℕ
note i text = codes "note stream " ++ numbered i text

abbrev pub groups_warning : ℕ → ℕ → List ℕ
groups_warning i zero = warning i (codes "no groups")
groups_warning i (suc n) = []

-- no group touches a table; some do, and none puts a row that passes the filter
abbrev pub table_note : ℕ → List ℕ → ℕ → ℕ → List ℕ
table_note i name zero m = note i (codes "table " ++ shown name ++ codes " untouched")
table_note i name (suc n) zero = note i (codes "table " ++ shown name ++ codes " passes no row")
table_note i name (suc n) (suc m) = []

abbrev pub table_notes : ℕ → CheckedValue → ℕ → List TableValue → List ℕ
table_notes i check t [] = []
table_notes i check t (table ∷ later) = table_note i table.name (touching t check.history) (passing_groups t check.history) ++ table_notes i check (t + 1) later

-- a position that is the first of its source: that of its transaction 1 alone
abbrev pub is_start : Position → Bool
is_start (first ∷ []) = first.last == 1
is_start _ = false

-- so many rows of a base, if it is one
abbrev pub base_text : ℕ → List ℕ
base_text zero = []
base_text (suc n) = codes " with " ++ decimal (suc n) ++ codes " rows"

-- where a feed starts: the position of its first group, and of a base how many rows it has
abbrev pub start_text : PreparedValue → List ℕ
start_text group = codes "starts at " ++ printed_position group.position ++ base_text (base_rows group)

-- the first group's position isn't the start of its source
abbrev pub start_note : ℕ → Option PreparedValue → List ℕ
start_note i None = []
start_note i (Some group) = if is_start group.position then [] else note i (start_text group)

-- behind the first dot of a name, where that is a table's
abbrev pub nearest_text : PlanValue → List ℕ → List ℕ
nearest_text plan name = if is_some (table_of_name plan name) then codes " nearest " ++ shown name else []

-- a name in the feed that no table has
abbrev pub name_warnings : ℕ → PlanValue → List (List ℕ) → List ℕ
name_warnings i plan names = flat_map (λ name. warning i (codes "no table " ++ shown name ++ nearest_text plan (after_first (λ b. b == 46) name))) names

-- the types of events by their names (`binlogdata.proto`, VEventType)
unfoldable pub kind_text : ℕ → List ℕ
kind_text kind = if kind == 5 then codes "DDL" else if kind == 19 then codes "SAVEPOINT" else codes "OTHER"

-- an event that is passed over: the number of its message, and its type
abbrev pub skipped_head : SkippedValue → List ℕ
skipped_head event = codes "skipped message " ++ decimal event.message ++ codes " " ++ kind_text event.kind

-- behind that its statement
abbrev pub skipped_text : SkippedValue → List ℕ
skipped_text event = skipped_head event ++ codes " " ++ shown event.statement

-- how many events are passed over, if any
abbrev pub skipped_count : ℕ → ℕ → List ℕ
skipped_count i zero = []
skipped_count i (suc n) = warning i (codes "skipped " ++ decimal (suc n))

abbrev pub skipped_lines : ℕ → List SkippedValue → List ℕ
skipped_lines i events = flat_map (λ event. warning i (skipped_text event)) events

-- the events that are passed over: their count, and the first ten
abbrev pub skipped_warnings : ℕ → List SkippedValue → List ℕ
skipped_warnings i events = skipped_count i (length events) ++ skipped_lines i (take 10 events)

-- why a change is told
abbrev pub why_text : Doubt → List ℕ
why_text NoRow = codes "missing"
why_text OtherRow = codes "differs"
why_text RowThere = codes "standing"
why_text Moved = codes "moved"

abbrev pub same_why : Doubt → Doubt → Bool
same_why NoRow NoRow = true
same_why OtherRow OtherRow = true
same_why RowThere RowThere = true
same_why Moved Moved = true
same_why _ _ = false

-- an update may put its row at another key; what else is told can't be so
abbrev pub change_line : ℕ → Doubt → List ℕ → List ℕ
change_line i NoRow text = warning i text
change_line i OtherRow text = warning i text
change_line i RowThere text = warning i text
change_line i Moved text = note i text

-- how many findings there are of one kind, if any
abbrev pub count_line : ℕ → Doubt → ℕ → List ℕ
count_line i why zero = []
count_line i why (suc n) = change_line i why (why_text why ++ codes " " ++ decimal (suc n))

-- a finding: why, and which change of which group
abbrev pub finding_head : FindingValue → List ℕ
finding_head found = why_text found.why ++ codes " group " ++ decimal found.group ++ codes " change " ++ decimal found.place

-- behind that the table and the key
abbrev pub keyed_text : List TableValue → FindingValue → List ℕ
keyed_text tables found = finding_head found ++ codes " table " ++ shown (name_of_table tables found.key.table) ++ codes " key " ++ parts_text found.key.parts

-- the group of a number, from 1
abbrev pub group_of : List PreparedValue → ℕ → Option PreparedValue
group_of history number = slice_get history (number - 1)

-- behind that the group's position
abbrev pub finding_text : CheckedValue → FindingValue → List ℕ
finding_text check found = keyed_text check.plan.tables found ++ group_place_text (codes " at ") (group_of check.history found.group)

abbrev pub finding_lines : ℕ → CheckedValue → List FindingValue → List ℕ
finding_lines i check findings = flat_map (λ found. change_line i found.why (finding_text check found)) findings

-- the findings of one kind: their count, and the first ten
abbrev pub kind_lines : ℕ → CheckedValue → Doubt → List FindingValue → List ℕ
kind_lines i check why these = count_line i why (length these) ++ finding_lines i check (take 10 these)

abbrev pub of_kind : Doubt → List FindingValue → List FindingValue
of_kind why findings = filter (λ found. same_why why found.why) findings

abbrev pub told_lines : ℕ → CheckedValue → Doubt → List FindingValue → List ℕ
told_lines i check why findings = kind_lines i check why (of_kind why findings)

-- a stream's changes that aren't true of the rows before them
abbrev pub change_warnings : ℕ → CheckedValue → List ℕ
change_warnings i check = told_lines i check NoRow check.findings ++ (told_lines i check OtherRow check.findings ++ told_lines i check RowThere check.findings)

-- the notes of a stream
abbrev pub stream_notes : ℕ → CheckedValue → List ℕ
stream_notes i check = start_note i (slice_get check.history 0) ++ (table_notes i check 0 check.plan.tables ++ told_lines i check Moved check.moves)

abbrev pub notes_from : ℕ → List CheckedValue → List ℕ
notes_from i [] = []
notes_from i (check ∷ later) = stream_notes i check ++ notes_from (i + 1) later

-- the warnings of a stream
abbrev pub stream_warnings : ℕ → CheckedValue → List ℕ
stream_warnings i check =
    groups_warning i (length check.history) ++ (name_warnings i check.plan check.unknown ++ (change_warnings i check ++ skipped_warnings i check.skipped))

abbrev pub warnings_from : ℕ → List CheckedValue → List ℕ
warnings_from i [] = []
warnings_from i (check ∷ later) = stream_warnings i check ++ warnings_from (i + 1) later

-- ---- keys of two feeds

-- the tables of the workflow
abbrev pub tables_of : List CheckedValue → List TableValue
tables_of [] = []
tables_of (check ∷ later) = check.plan.tables

-- the two streams
abbrev pub shared_head : SharedValue → List ℕ
shared_head shared = decimal shared.one ++ codes " and " ++ decimal shared.other ++ codes " touch"

-- behind that the table and the key that both touch
abbrev pub shared_text : List TableValue → SharedValue → List ℕ
shared_text tables shared = shared_head shared ++ codes " table " ++ shown (name_of_table tables shared.key.table) ++ codes " key " ++ parts_text shared.key.parts

-- and the end of the line
abbrev pub ended : List ℕ → List ℕ
ended text = text ++ 10 ∷ []

abbrev pub shared_line : List TableValue → SharedValue → List ℕ
shared_line tables shared = codes "warning streams " ++ ended (shared_text tables shared)

abbrev pub shared_warning : List TableValue → Option SharedValue → List ℕ
shared_warning tables None = []
shared_warning tables (Some shared) = shared_line tables shared

-- ---- all streams

-- the text, whether anything is warned of, and whether anything is noted
pub record ReportValue : Type 0 where
  pub text : List ℕ
  pub warned : Bool
  pub noted : Bool

abbrev pub has_some : List ℕ → Bool
has_some [] = false
has_some (byte ∷ bytes) = true

-- the notes of each stream
abbrev pub all_notes : List CheckedValue → List ℕ
all_notes checks = notes_from 0 checks

-- the warnings of each stream, and behind them that of the least key that two feeds touch
abbrev pub all_warnings : List CheckedValue → List ℕ
all_warnings checks = warnings_from 0 checks ++ shared_warning (tables_of checks) (shared_of checks)

-- the lines of all streams, whose files have these names, and behind them all notes and all warnings
abbrev pub check_report_of : List (List ℕ) → List CheckedValue → ReportValue
check_report_of files checks =
    record { text = lines_from files 0 checks ++ (all_notes checks ++ all_warnings checks); warned = has_some (all_warnings checks); noted = has_some (all_notes checks) }
