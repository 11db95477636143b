-- How answers and the parts of a checkpoint are written: each message as the list of its fields, in
-- rising number.
use Rattle.std.specs.Prelude.{◌≡◌, ℕ, ◌^◌, ◌<◌, true, List, ◌∷◌, ◌++◌, map, length, IfSome, Ok}
use Rattle.std.specs.List.{AllByRecursion}
use Rattle.std.specs.Str.{is_utf8}
use Rattle.proto_wire.specs.Writing.{written_fields, number_field, text_field, message_field}
use Rattle.row_view.specs.WrittenRow.{written_row, IsWithinLimits}
use Rattle.vevent.specs.Answer.{AnswerValue, answer_at}
use Rattle.vevent.specs.CheckpointPart.{TablePartValue, StreamPartValue, table_part_at, stream_part_at}
use Rattle.vevent.specs.WrittenEvent.{message_fields, row_field, written_column, IsColumn}

-- ---- messages

-- VStreamRowsResponse: fields = 1, pkfields = 2, gtid = 3, rows = 4, lastpk = 5
abbrev pub written_answer : AnswerValue → List ℕ
written_answer answer = written_fields (
    message_fields 1 (map written_column answer.fields)
    ++ message_fields 2 (map written_column answer.pkfields)
    ++ text_field 3 answer.gtid
    ++ message_fields 4 (map written_row answer.rows)
    ++ row_field 5 answer.lastpk)

-- TablePart: mark = 1, answer = 2, name = 3
abbrev pub written_table_part : TablePartValue → List ℕ
written_table_part part = written_fields (number_field 1 part.mark ++ message_field 2 (written_answer part.answer) ∷ text_field 3 part.name)

-- StreamPart: shard = 1, tables = 2
abbrev pub written_stream_part : StreamPartValue → List ℕ
written_stream_part part = written_fields (text_field 1 part.shard ++ message_fields 2 (map written_table_part part.tables))

-- ---- what is written is read again

-- an answer whose texts are UTF-8, whose numbers have 64 bits and whose rows are within the limits
pub record IsSoundAnswer (answer : AnswerValue) : Type 0 where
  pub fields : AllByRecursion IsColumn answer.fields
  pub pkfields : AllByRecursion IsColumn answer.pkfields
  pub gtid : is_utf8 answer.gtid ≡ true
  pub rows : AllByRecursion IsWithinLimits answer.rows
  pub lastpk : IfSome answer.lastpk IsWithinLimits

-- a table's part of such an answer
pub record IsSoundTable (part : TablePartValue) : Type 0 where
  pub mark : part.mark < 2 ^ 64
  pub answer : IsSoundAnswer part.answer

-- a stream's part of such tables
pub record IsSoundStream (part : StreamPartValue) : Type 0 where
  pub shard : is_utf8 part.shard ≡ true
  pub tables : AllByRecursion IsSoundTable part.tables

-- such messages are read again, as what was written
abbrev pub AnswersAreReadAgain : Type 0
AnswersAreReadAgain = (answer : AnswerValue) → IsSoundAnswer answer → length (written_answer answer) < 2 ^ 64 → answer_at (written_answer answer) ≡ Ok answer

abbrev pub TablePartsAreReadAgain : Type 0
TablePartsAreReadAgain = (part : TablePartValue) → IsSoundTable part → length (written_table_part part) < 2 ^ 64 → table_part_at (written_table_part part) ≡ Ok part

abbrev pub StreamPartsAreReadAgain : Type 0
StreamPartsAreReadAgain = (part : StreamPartValue) → IsSoundStream part → length (written_stream_part part) < 2 ^ 64 → stream_part_at (written_stream_part part) ≡ Ok part
