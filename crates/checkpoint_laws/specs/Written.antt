-- How a checkpoint is written: eight bytes, then of each stream a part behind its length (this profile). What
-- `save` writes is version 2; version 1 is the same without the tables' names.
use Rattle.std.specs.Prelude.{ℕ, zero, suc, ◌==◌, List, [], ◌∷◌, ◌++◌, map, length, Option, Some, None, codes, slice_get}
use Rattle.std.specs.List.{filter, filter_map, flat_map}
use Rattle.row_view.specs.FieldValue.{FieldValue}
use Rattle.filter_rule.specs.PlanValue.{PlanValue, columns_of, key_columns_of, kept_columns_of, table_name}
use Rattle.gtid_set.specs.Printed.{printed_position}
use Rattle.pk_copy.specs.Lastpk.{lastpk_of}
use Rattle.pk_copy.specs.Marks.{MarkValue, waiting, up_to, copied, mark_of}
use Rattle.proto_wire.specs.Varint.{shortest}
use Rattle.source_feed.specs.GroupValue.{Position}
use Rattle.source_feed.specs.History.{RowValue}
use Rattle.source_feed.specs.Image.{ImageRows}
use Rattle.vevent.specs.CheckpointPart.{TablePartValue, StreamPartValue}
use Rattle.vevent.specs.WrittenPart.{written_stream_part}
use Rattle.board_laws.specs.Meaning.{Meaning}
use Rattle.board_laws.specs.Compatible.{plans_of_board}
use Rattle.checkpoint_laws.specs.declared.version.Version.{Version}
use Rattle.checkpoint_laws.specs.declared.version.Version.TheVariants.{One, Two}
use Rattle.checkpoint_laws.specs.Saved.{SavedStream, saved_of}

-- ---- a table's part

-- the columns that are kept of a table, in kept order
abbrev pub fields_of_table : PlanValue → ℕ → List FieldValue
fields_of_table plan t = filter_map (slice_get (columns_of plan t)) (kept_columns_of plan t)

-- the columns of its key, in key order
abbrev pub key_fields_of : PlanValue → ℕ → List FieldValue
key_fields_of plan t = filter_map (slice_get (columns_of plan t)) (key_columns_of plan t)

-- the name as a part has it
abbrev pub name_in : Version → PlanValue → ℕ → List ℕ
name_in One plan t = []
name_in Two plan t = table_name plan t

-- a position as it is written
abbrev pub position_text : Position → List ℕ
position_text position = codes "MySQL56/" ++ printed_position position

-- the number of a mark
abbrev pub number_of_mark : MarkValue → ℕ
number_of_mark waiting = 0
number_of_mark (up_to key) = 1
number_of_mark copied = 2

-- the key of a mark, as a row
abbrev pub last_row_of : MarkValue → Option RowValue
last_row_of waiting = None
last_row_of (up_to key) = Some (lastpk_of key)
last_row_of copied = None

-- the rows that are of table t
abbrev pub saved_rows_of_table : ℕ → ImageRows → ImageRows
saved_rows_of_table t rows = filter (λ row. row.0.table == t) rows

-- the part of table t
abbrev pub table_part : Version → PlanValue → SavedStream → ℕ → TablePartValue
table_part version plan saved t = record {
  mark = number_of_mark (mark_of saved.marks t);
  answer = record {
    fields = fields_of_table plan t;
    pkfields = key_fields_of plan t;
    gtid = position_text saved.position;
    rows = map (λ row. row.1) (saved_rows_of_table t saved.rows);
    lastpk = last_row_of (mark_of saved.marks t);
  };
  name = name_in version plan t;
}

-- ---- a stream's part

-- the numbers below n
abbrev pub numbers_below : ℕ → List ℕ
numbers_below zero = []
numbers_below (suc n) = numbers_below n ++ n ∷ []

-- the parts of the first n tables
abbrev pub table_parts : Version → PlanValue → SavedStream → ℕ → List TablePartValue
table_parts version plan saved n = map (table_part version plan saved) (numbers_below n)

-- a stream's part: its shard, and a part for each table in order
abbrev pub stream_part : Version → PlanValue → SavedStream → StreamPartValue
stream_part version plan saved = record { shard = plan.shard; tables = table_parts version plan saved (length plan.tables) }

-- the parts of streams, each by its plan
abbrev pub stream_parts : Version → List PlanValue → List SavedStream → List StreamPartValue
stream_parts version [] saved = []
stream_parts version (plan ∷ plans) [] = []
stream_parts version (plan ∷ plans) (one ∷ saved) = stream_part version plan one ∷ stream_parts version plans saved

-- ---- the checkpoint

-- the bytes with which every checkpoint of a version begins
abbrev pub opening : Version → List ℕ
opening One = codes "VREPLCP1"
opening Two = codes "VREPLCP2"

-- a message behind its length
abbrev pub framed : List ℕ → List ℕ
framed message = shortest (length message) ++ message

-- the parts of streams, each behind its length
abbrev pub written_parts : List StreamPartValue → List ℕ
written_parts parts = flat_map (λ part. framed (written_stream_part part)) parts

-- a checkpoint of these parts
abbrev pub written_checkpoint : Version → List StreamPartValue → List ℕ
written_checkpoint version parts = opening version ++ written_parts parts

-- the checkpoint of a board in a version
abbrev pub checkpoint_in : Version → Meaning → List ℕ
checkpoint_in version board = written_checkpoint version (stream_parts version (plans_of_board board) (saved_of board))

-- the checkpoint of a board
abbrev pub checkpoint_of : Meaning → List ℕ
checkpoint_of board = checkpoint_in Two board
