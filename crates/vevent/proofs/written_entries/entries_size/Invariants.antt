use Rattle.std.proofs.Common.{◌≡◌, ◌+◌, map, length}
use Rattle.proto_wire.specs.Writing.{written_fields}
use Rattle.vevent.specs.WrittenEvent.{message_fields, written_shard_gtid}
use Rattle.vevent.proofs.written_entries.entries_size.Given as goal

-- what is counted, and what those take that are still to come, is what all take
abbrev pub invariant-loop-entry : goal.invariant-loop-entry
invariant-loop-entry l = l.size + length (written_fields (message_fields 1 (map written_shard_gtid l.entry-iterator))) ≡ length (written_fields (message_fields 1 (map written_shard_gtid l.fn.entries)))
