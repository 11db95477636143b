use Rattle.std.proofs.Common.{◌≡◌, ◌+◌, map, length, drop}
use Rattle.proto_wire.specs.Writing.{written_fields}
use Rattle.vevent.specs.ColumnView.{field_value}
use Rattle.vevent.specs.WrittenEvent.{message_fields, written_column}
use Rattle.vevent.proofs.written_answer.columns_size.Given as goal

-- what is counted, and what those take that are still to come, is what all take
abbrev pub invariant-loop-column : goal.invariant-loop-column
invariant-loop-column l = l.size + length (written_fields (message_fields l.number (map written_column (map field_value (drop l.column-index l.columns))))) ≡ length (written_fields (message_fields l.number (map written_column (map field_value l.fn.columns))))
