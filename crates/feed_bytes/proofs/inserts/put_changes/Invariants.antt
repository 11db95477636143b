use Rattle.std.proofs.Common.{◌≡◌, ◌++◌, map, drop}
use Rattle.proto_wire.specs.Writing.{written_fields, Begins}
use Rattle.vevent.specs.WrittenEvent.{message_fields, written_change}
use Rattle.feed_bytes.specs.Inserts.{insert_change}
use Rattle.feed_bytes.proofs.inserts.put_changes.Given as goal

-- what is written, and what those are written as that are still to come, is what all are written as
abbrev pub invariant-loop-row : goal.invariant-loop-row
invariant-loop-row l =
    (l.out.items ++ written_fields (message_fields 2 (map written_change (map insert_change (drop l.row-index l.rows)))) ≡ l.fn.out.items ++ written_fields (message_fields 2 (map written_change (map insert_change l.fn.rows))))
    × Begins l.fn.out.items l.out.items
