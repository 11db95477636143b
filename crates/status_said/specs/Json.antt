-- What `status` says, as JSON (this profile). An object has its members by their names.
use Rattle.std.specs.Prelude.{ℕ, ◌+◌, List, [], ◌∷◌, ◌++◌, Option, None, Some, codes, map, if◌then◌else◌}
use Rattle.std.specs.Str.{is_utf8}
use Rattle.gtid_set.specs.Printed.{printed_position}
use Rattle.gtid_set.specs.declared.interval.Interval.{Interval}
use Rattle.serde_json.specs.Data.{Data, null, number, string, array, object, no_members, member, unsigned}
use Rattle.serde_json.specs.View.{items_of}
use Rattle.serde_json.specs.Written.{compact_text}
use Rattle.shown_text.specs.Shown.{printable}
use Rattle.checkpoint_places.specs.Stands.{CheckpointStandValue, StreamStandValue, TableStandValue}
use Rattle.status_said.specs.Lines.{done_of, phase_word, mark_word, file_name}
use Rattle.status_said.specs.Shards.{shards_from, least_in}

abbrev pub list_data : {X : Type 0} → (X → Data) → List X → Data
list_data data_of xs = array (items_of (map data_of xs))

abbrev pub count_data : ℕ → Data
count_data n = number (unsigned n)

-- a name, printable where it isn't UTF-8
abbrev pub name_text : List ℕ → List ℕ
name_text name = if is_utf8 name then name else printable name

abbrev pub table_data : TableStandValue → Data
table_data table =
    object (member (codes "mark") (string (mark_word table.mark)) (member (codes "name") (string (name_text table.name)) (member (codes "rows") (count_data table.rows) no_members)))

abbrev pub stream_data : StreamStandValue → Data
stream_data stream =
    object (
    member (codes "done") (count_data (done_of stream.tables))
    (member (codes "phase") (string (phase_word stream.tables))
    (member (codes "position") (string (printed_position stream.position))
    (member (codes "shard") (string stream.shard)
    (member (codes "tables") (list_data table_data stream.tables) no_members))))
    )

abbrev pub checkpoint_data : List ℕ → CheckpointStandValue → Data
checkpoint_data name stand =
    object (member (codes "file") (string name) (member (codes "streams") (list_data stream_data stand.streams) (member (codes "version") (count_data stand.version) no_members)))

abbrev pub checkpoints_from : List (List ℕ) → ℕ → List CheckpointStandValue → List Data
checkpoints_from files i [] = []
checkpoints_from files i (stand ∷ stands) = checkpoint_data (file_name files i) stand ∷ checkpoints_from files (i + 1) stands

-- the position, null where there is none
abbrev pub position_data : Option (List Interval) → Data
position_data None = null
position_data (Some position) = string (printed_position position)

abbrev pub least_data : List CheckpointStandValue → List ℕ → Data
least_data stands shard = object (member (codes "position") (position_data (least_in shard stands)) (member (codes "shard") (string shard) no_members))

-- the whole
abbrev pub status_data : List (List ℕ) → List CheckpointStandValue → Data
status_data files stands =
    object (member (codes "checkpoints") (array (items_of (checkpoints_from files 0 stands))) (member (codes "least") (list_data (least_data stands) (shards_from [] stands)) no_members))

-- a line of JSON
abbrev pub json_line : Data → List ℕ
json_line line = compact_text line ++ 10 ∷ []
