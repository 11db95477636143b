use Rattle.std.proofs.Common.{◌≡◌, ◌+◌, map, length, drop}
use Rattle.proto_wire.specs.Writing.{written_fields}
use Rattle.vevent.specs.WrittenEvent.{message_fields, written_change}
use Rattle.feed_bytes.specs.Inserts.{insert_change}
use Rattle.feed_bytes.proofs.inserts.changes_size.Given as goal

-- what is counted, and what those take that are still to come, is what all take
abbrev pub invariant-loop-row : goal.invariant-loop-row
invariant-loop-row l =
    l.size + length (written_fields (message_fields 2 (map written_change (map insert_change (drop l.row-index l.rows))))) ≡ length (written_fields (message_fields 2 (map written_change (map insert_change l.fn.rows))))
