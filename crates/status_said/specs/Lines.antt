-- The lines that `status` prints (this profile).
use Rattle.std.specs.Prelude.{ℕ, ◌+◌, Bool, true, false, List, [], ◌∷◌, ◌++◌, codes, decimal, length, Option, None, Some, if◌then◌else◌, slice_index_or}
use Rattle.std.specs.List.{list_all, flat_map}
use Rattle.gtid_set.specs.Printed.{printed_position}
use Rattle.gtid_set.specs.declared.interval.Interval.{Interval}
use Rattle.shown_text.specs.Shown.{shown}
use Rattle.vevent.specs.declared.checkpoint_part.TableMark.{TableMark}
use Rattle.vevent.specs.declared.checkpoint_part.TableMark.TheVariants.{Waiting, Upto, Done}
use Rattle.checkpoint_places.specs.Stands.{CheckpointStandValue, StreamStandValue, TableStandValue}
use Rattle.status_said.specs.Shards.{shards_from, least_in}

-- ---- a stream

abbrev pub is_copied : TableMark → Bool
is_copied Waiting = false
is_copied Upto = false
is_copied Done = true

-- a table is copied wholly
abbrev pub is_done : TableStandValue → Bool
is_done table = is_copied table.mark

abbrev pub are_done : List TableStandValue → Bool
are_done tables = list_all is_done tables

-- how many tables are
abbrev pub done_of : List TableStandValue → ℕ
done_of [] = 0
done_of (table ∷ tables) = if is_done table then done_of tables + 1 else done_of tables

-- the phase of a stream of which no snapshot is open
abbrev pub phase_word : List TableStandValue → List ℕ
phase_word tables = if are_done tables then codes "Running" else codes "CatchUp"

abbrev pub mark_word : TableMark → List ℕ
mark_word Waiting = codes "waiting"
mark_word Upto = codes "copying"
mark_word Done = codes "done"

-- a position, `-` for the empty one
abbrev pub place_text : List Interval → List ℕ
place_text [] = codes "-"
place_text (interval ∷ intervals) = printed_position (interval ∷ intervals)

-- ---- lines

-- a table's name, or its number where it has none
abbrev pub table_name : ℕ → List ℕ → List ℕ
table_name i [] = decimal i
table_name i (byte ∷ bytes) = shown (byte ∷ bytes)

abbrev pub table_line : ℕ → TableStandValue → List ℕ
table_line i table = codes "table " ++ table_name i table.name ++ codes " " ++ mark_word table.mark ++ codes " rows " ++ decimal table.rows ++ 10 ∷ []

abbrev pub table_lines : ℕ → List TableStandValue → List ℕ
table_lines i [] = []
table_lines i (table ∷ tables) = table_line i table ++ table_lines (i + 1) tables

-- a stream by its number, its shard and its phase
abbrev pub stream_head : ℕ → StreamStandValue → List ℕ
stream_head i stream = (codes "stream " ++ decimal i) ++ (codes " shard " ++ shown stream.shard) ++ codes " " ++ phase_word stream.tables

-- how many of its tables are copied
abbrev pub counts_text : List TableStandValue → List ℕ
counts_text tables = (codes " done " ++ decimal (done_of tables)) ++ (codes " of " ++ decimal (length tables))

-- its position, and the end of the line
abbrev pub place_end : List Interval → List ℕ
place_end position = codes " at " ++ place_text position ++ 10 ∷ []

abbrev pub stream_line : ℕ → StreamStandValue → List ℕ
stream_line i stream = stream_head i stream ++ counts_text stream.tables ++ place_end stream.position

-- a stream's line, and behind it those of its tables
abbrev pub stream_lines : ℕ → List StreamStandValue → List ℕ
stream_lines i [] = []
stream_lines i (stream ∷ streams) = stream_line i stream ++ table_lines 0 stream.tables ++ stream_lines (i + 1) streams

abbrev pub file_name : List (List ℕ) → ℕ → List ℕ
file_name files i = slice_index_or files i []

abbrev pub version_text : CheckpointStandValue → List ℕ
version_text stand = codes " version " ++ decimal stand.version

abbrev pub streams_text : CheckpointStandValue → List ℕ
streams_text stand = (codes " streams " ++ decimal (length stand.streams)) ++ 10 ∷ []

unfoldable pub checkpoint_line : List ℕ → CheckpointStandValue → List ℕ
checkpoint_line name stand = codes "checkpoint " ++ shown name ++ (version_text stand ++ streams_text stand)

-- a checkpoint's line, and behind it those of its streams
abbrev pub checkpoint_lines : List (List ℕ) → ℕ → List CheckpointStandValue → List ℕ
checkpoint_lines files i [] = []
checkpoint_lines files i (stand ∷ stands) = checkpoint_line (file_name files i) stand ++ stream_lines 0 stand.streams ++ checkpoint_lines files (i + 1) stands

-- a least position, or that there is none, and the end of the line
abbrev pub least_end : Option (List Interval) → List ℕ
least_end None = codes " none" ++ 10 ∷ []
least_end (Some position) = place_end position

-- the least position of a shard, if it has one
abbrev pub least_line : List ℕ → Option (List Interval) → List ℕ
least_line shard least = (codes "least shard " ++ shown shard) ++ least_end least

abbrev pub least_lines : List CheckpointStandValue → List (List ℕ) → List ℕ
least_lines stands shards = flat_map (λ shard. least_line shard (least_in shard stands)) shards

-- the whole
abbrev pub status_lines : List (List ℕ) → List CheckpointStandValue → List ℕ
status_lines files stands = checkpoint_lines files 0 stands ++ least_lines stands (shards_from [] stands)
