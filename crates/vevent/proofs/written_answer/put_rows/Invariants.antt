use Rattle.std.proofs.Common.{◌≡◌, ◌++◌, map, drop}
use Rattle.proto_wire.specs.Writing.{written_fields, Begins}
use Rattle.row_view.specs.WrittenRow.{written_row}
use Rattle.vevent.specs.WrittenEvent.{message_fields}
use Rattle.vevent.proofs.written_answer.put_rows.Given as goal

-- what is written, and what those are written as that are still to come, is what all are written as
abbrev pub invariant-loop-row : goal.invariant-loop-row
invariant-loop-row l =
    (l.out.items ++ written_fields (message_fields 4 (map written_row (drop l.row-index l.rows))) ≡ l.fn.out.items ++ written_fields (message_fields 4 (map written_row l.fn.rows)))
    × Begins l.fn.out.items l.out.items
