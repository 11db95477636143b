use Rattle.std.proofs.Common.{◌≡◌, ◌++◌, map, drop}
use Rattle.proto_wire.specs.Writing.{written_fields}
use Rattle.vevent.specs.ContentView.{table_content}
use Rattle.vevent.specs.WrittenPart.{written_table_part}
use Rattle.vevent.specs.WrittenEvent.{message_fields}
use Rattle.checkpoint_core.proofs.framed.put_tables.Given as goal

-- what is written, and what those are written as that are still to come, is what all are written as
abbrev pub invariant-loop-table : goal.invariant-loop-table
invariant-loop-table l =
    l.out.items ++ written_fields (message_fields 2 (map written_table_part (map table_content (drop l.table-index l.tables))))
    ≡ l.fn.out.items ++ written_fields (message_fields 2 (map written_table_part (map table_content l.fn.tables)))
