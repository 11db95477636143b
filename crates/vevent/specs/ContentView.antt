-- How messages that are to be written are seen.
use Rattle.std.specs.Prelude.{map}
use Rattle.vevent.specs.declared.written_answer.AnswerContent.{AnswerContent}
use Rattle.vevent.specs.declared.written_part.TableContent.{TableContent}
use Rattle.vevent.specs.declared.written_part.StreamContent.{StreamContent}
use Rattle.vevent.specs.ColumnView.{field_value}
use Rattle.vevent.specs.Answer.{AnswerValue}
use Rattle.vevent.specs.CheckpointPart.{TablePartValue, StreamPartValue, mark_number}

-- an answer, texts by their bytes
abbrev pub answer_content : AnswerContent → AnswerValue
answer_content c = record {
  fields = map field_value c.fields.now;
  pkfields = map field_value c.pkfields.now;
  gtid = c.gtid.now;
  rows = c.rows.now;
  lastpk = c.lastpk;
}

-- a table's part, its mark by its number
abbrev pub table_content : TableContent → TablePartValue
table_content c = record { mark = mark_number c.mark; answer = answer_content c.answer; name = c.name.now }

-- a stream's part
abbrev pub stream_content : StreamContent → StreamPartValue
stream_content c = record { shard = c.shard.now; tables = map table_content c.tables.now }
