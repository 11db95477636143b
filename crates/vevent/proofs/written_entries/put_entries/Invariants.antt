use Rattle.std.proofs.Common.{◌≡◌, ◌++◌, map}
use Rattle.proto_wire.specs.Writing.{written_fields, Begins}
use Rattle.vevent.specs.WrittenEvent.{message_fields, written_shard_gtid}
use Rattle.vevent.proofs.written_entries.put_entries.Given as goal

-- what is written, and what those are written as that are still to come, is what all are written as
abbrev pub invariant-loop-entry : goal.invariant-loop-entry
invariant-loop-entry l =
    (l.out.items ++ written_fields (message_fields 1 (map written_shard_gtid l.entry-iterator)) ≡ l.fn.out.items ++ written_fields (message_fields 1 (map written_shard_gtid l.fn.entries)))
    × Begins l.fn.out.items l.out.items
