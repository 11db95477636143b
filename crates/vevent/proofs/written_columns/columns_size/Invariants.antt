use Rattle.std.proofs.Common.{◌≡◌, ◌+◌, map, length}
use Rattle.proto_wire.specs.Writing.{written_fields}
use Rattle.vevent.specs.WrittenEvent.{message_fields, written_column}
use Rattle.vevent.proofs.written_columns.columns_size.Given as goal

-- what is counted, and what those take that are still to come, is what all take
abbrev pub invariant-loop-column : goal.invariant-loop-column
invariant-loop-column l = l.size + length (written_fields (message_fields 2 (map written_column l.column-iterator))) ≡ length (written_fields (message_fields 2 (map written_column l.fn.columns)))
