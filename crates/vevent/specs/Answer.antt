-- An answer of a stream of rows (`binlogdata.proto`, VStreamRowsResponse): the columns, the columns of
-- the key, the position, the rows, and the key of the last one as a row.
use Rattle.std.specs.Prelude.{ℕ, ◌==◌, ◌||◌, ◌&&◌, if◌then◌else◌, Bool, List, map, Option, None, option_map, Result}
use Rattle.std.specs.Result.{result_err}
use Rattle.std.specs.List.{list_all}
use Rattle.std.specs.Str.{is_utf8}
use Rattle.proto_wire.specs.declared.fault.WireFault.{WireFault}
use Rattle.proto_wire.specs.Field.{fields_of}
use Rattle.proto_wire.specs.Parts.{text, parts, single, is_repeated}
use Rattle.row_view.specs.declared.fault.RowFault.{RowFault}
use Rattle.row_view.specs.Row.{row_of_message}
use Rattle.vevent.specs.declared.fault.EventFault.{EventFault}
use Rattle.row_view.specs.FieldValue.{FieldValue}
use Rattle.vevent.specs.Fault.{first_in, wire_fault_by}
use Rattle.vevent.specs.Judging.{Conditions, value_by}
use Rattle.vevent.specs.Message.{image_of, column_field_of}

-- what an answer says
pub record AnswerValue : Type 0 where
  pub fields : List FieldValue
  pub pkfields : List FieldValue
  pub gtid : List ℕ
  pub rows : List (List (Option (List ℕ)))
  pub lastpk : Option (List (Option (List ℕ)))

-- VStreamRowsResponse: fields = 1, pkfields = 2, gtid = 3, rows = 4, lastpk = 5
abbrev pub answer_of : List ℕ → AnswerValue
answer_of answer = record {
  fields = map column_field_of (parts 1 answer);
  pkfields = map column_field_of (parts 2 answer);
  gtid = text 3 answer;
  rows = map image_of (parts 4 answer);
  lastpk = option_map image_of (single 5 answer);
}

-- ---- what is at fault

-- a column that is no list of fields
abbrev pub in_answer : ℕ → List ℕ → Option WireFault
in_answer number part = if number == 1 || number == 2 then (fields_of part).fault else None

-- the answer or one of its columns is no list of fields
abbrev pub answer_wire_fault : List ℕ → Option WireFault
answer_wire_fault answer = wire_fault_by in_answer answer

-- the names of the columns under a number are UTF-8
abbrev pub are_names : ℕ → List ℕ → Bool
are_names number answer = list_all (λ field. is_utf8 (text 1 field)) (parts number answer)

-- the texts of an answer are UTF-8
abbrev pub are_answer_texts : List ℕ → Bool
are_answer_texts answer = are_names 1 answer && are_names 2 answer && is_utf8 (text 3 answer)

-- what is at fault in a row: rows = 4, lastpk = 5
abbrev pub in_rows : ℕ → List ℕ → Option RowFault
in_rows number row = if number == 4 || number == 5 then result_err (row_of_message row) else None

-- the first bad row of an answer
abbrev pub answer_row_fault : List ℕ → Option RowFault
answer_row_fault answer = first_in in_rows (fields_of answer).items None

-- ---- reading

-- what can be at fault in an answer
abbrev pub answer_conditions : Conditions
answer_conditions = record { wire = answer_wire_fault; repeats = λ answer. is_repeated 5 answer; texts = are_answer_texts; rows = answer_row_fault }

-- the answer of the bytes, or its first fault
unfoldable pub answer_at : List ℕ → Result AnswerValue EventFault
answer_at answer = value_by answer_conditions answer_of answer
