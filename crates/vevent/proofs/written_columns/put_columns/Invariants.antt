use Rattle.std.proofs.Common.{◌≡◌, ◌++◌, map}
use Rattle.proto_wire.specs.Writing.{written_fields, Begins}
use Rattle.vevent.specs.WrittenEvent.{message_fields, written_column}
use Rattle.vevent.proofs.written_columns.put_columns.Given as goal

-- what is written, and what those are written as that are still to come, is what all are written as
abbrev pub invariant-loop-column : goal.invariant-loop-column
invariant-loop-column l =
    (l.out.items ++ written_fields (message_fields 2 (map written_column l.column-iterator)) ≡ l.fn.out.items ++ written_fields (message_fields 2 (map written_column l.fn.columns)))
    × Begins l.fn.out.items l.out.items
