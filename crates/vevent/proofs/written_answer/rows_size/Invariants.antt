use Rattle.std.proofs.Common.{◌≡◌, ◌+◌, map, length, drop}
use Rattle.proto_wire.specs.Writing.{written_fields}
use Rattle.row_view.specs.WrittenRow.{written_row}
use Rattle.vevent.specs.WrittenEvent.{message_fields}
use Rattle.vevent.proofs.written_answer.rows_size.Given as goal

-- what is counted, and what those take that are still to come, is what all take
abbrev pub invariant-loop-row : goal.invariant-loop-row
invariant-loop-row l = l.size + length (written_fields (message_fields 4 (map written_row (drop l.row-index l.rows)))) ≡ length (written_fields (message_fields 4 (map written_row l.fn.rows)))
