-- The parts of a checkpoint (this profile): of each stream its shard and its tables, of each table
-- how far it is copied and its rows as an answer.
use Rattle.std.specs.Prelude.{ℕ, ◌==◌, ◌||◌, ◌&&◌, if◌then◌else◌, Bool, List, [], ◌∷◌, map, Option, Some, None, Result}
use Rattle.std.specs.Option.{option_or}
use Rattle.std.specs.List.{list_any, list_all}
use Rattle.std.specs.Str.{is_utf8}
use Rattle.proto_wire.specs.declared.fault.WireFault.{WireFault}
use Rattle.proto_wire.specs.Parts.{text, scalar, parts, embedded, is_repeated}
use Rattle.row_view.specs.declared.fault.RowFault.{RowFault}
use Rattle.vevent.specs.declared.checkpoint_part.TableMark.{TableMark}
use Rattle.vevent.specs.declared.checkpoint_part.TableMark.TheVariants.{Waiting, Upto, Done}
use Rattle.vevent.specs.declared.fault.EventFault.{EventFault}
use Rattle.vevent.specs.Fault.{wire_fault_by}
use Rattle.vevent.specs.Judging.{Conditions, value_by}
use Rattle.vevent.specs.Answer.{AnswerValue, answer_of, answer_wire_fault, are_answer_texts, answer_row_fault}

-- how far a table is copied, as a number, its rows, and the bytes of its name, none where it has no name
pub record TablePartValue : Type 0 where
  pub mark : ℕ
  pub answer : AnswerValue
  pub name : List ℕ

-- a stream's shard and its tables
pub record StreamPartValue : Type 0 where
  pub shard : List ℕ
  pub tables : List TablePartValue

-- the number of a mark
abbrev pub mark_number : TableMark → ℕ
mark_number Waiting = 0
mark_number Upto = 1
mark_number Done = 2

-- the mark of a number, the whole varint; other numbers are none
abbrev pub mark_of_number : ℕ → Option TableMark
mark_of_number n = if n == 0 then Some Waiting else if n == 1 then Some Upto else if n == 2 then Some Done else None

-- TablePart: mark = 1, answer = 2, name = 3
abbrev pub table_part_of : List ℕ → TablePartValue
table_part_of part = record { mark = scalar 1 part; answer = answer_of (embedded 2 part); name = text 3 part }

-- StreamPart: shard = 1, tables = 2
abbrev pub stream_part_of : List ℕ → StreamPartValue
stream_part_of part = record { shard = text 1 part; tables = map table_part_of (parts 2 part) }

-- ---- what is at fault in a table's part

-- an answer that is no list of fields, or whose columns aren't
abbrev pub in_table : ℕ → List ℕ → Option WireFault
in_table number part = if number == 2 then answer_wire_fault part else None

abbrev pub table_wire_fault : List ℕ → Option WireFault
table_wire_fault part = wire_fault_by in_table part

-- the answer, or its last key, occurs twice
abbrev pub repeats_in_table : List ℕ → Bool
repeats_in_table part = is_repeated 2 part || is_repeated 5 (embedded 2 part)

abbrev pub are_table_texts : List ℕ → Bool
are_table_texts part = are_answer_texts (embedded 2 part)

abbrev pub table_row_fault : List ℕ → Option RowFault
table_row_fault part = answer_row_fault (embedded 2 part)

-- ---- what is at fault in a stream's part

-- a table's part that is no list of fields, or in which something isn't
abbrev pub in_stream : ℕ → List ℕ → Option WireFault
in_stream number part = if number == 2 then table_wire_fault part else None

abbrev pub stream_wire_fault : List ℕ → Option WireFault
stream_wire_fault part = wire_fault_by in_stream part

abbrev pub repeats_in_stream : List ℕ → Bool
repeats_in_stream part = list_any repeats_in_table (parts 2 part)

abbrev pub are_stream_texts : List ℕ → Bool
are_stream_texts part = is_utf8 (text 1 part) && list_all are_table_texts (parts 2 part)

-- the first bad row of several tables
abbrev pub first_in_tables : List (List ℕ) → Option RowFault
first_in_tables [] = None
first_in_tables (part ∷ others) = option_or (table_row_fault part) (first_in_tables others)

abbrev pub stream_row_fault : List ℕ → Option RowFault
stream_row_fault part = first_in_tables (parts 2 part)

-- ---- reading

-- what can be at fault in a table's part
abbrev pub table_conditions : Conditions
table_conditions = record { wire = table_wire_fault; repeats = repeats_in_table; texts = are_table_texts; rows = table_row_fault }

-- the table's part of the bytes, or its first fault
unfoldable pub table_part_at : List ℕ → Result TablePartValue EventFault
table_part_at part = value_by table_conditions table_part_of part

-- what can be at fault in a stream's part
abbrev pub stream_conditions : Conditions
stream_conditions = record { wire = stream_wire_fault; repeats = repeats_in_stream; texts = are_stream_texts; rows = stream_row_fault }

-- the stream's part of the bytes, or its first fault
unfoldable pub stream_part_at : List ℕ → Result StreamPartValue EventFault
stream_part_at part = value_by stream_conditions stream_part_of part
