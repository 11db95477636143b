use Rattle.std.proofs.Common.{◌≡◌, ◌+◌, map, length}
use Rattle.proto_wire.specs.Writing.{written_fields}
use Rattle.vevent.specs.WrittenEvent.{message_fields, written_change}
use Rattle.vevent.proofs.written_changes.changes_size.Given as goal

-- what is counted, and what those take that are still to come, is what all take
abbrev pub invariant-loop-change : goal.invariant-loop-change
invariant-loop-change l = l.size + length (written_fields (message_fields 2 (map written_change l.change-iterator))) ≡ length (written_fields (message_fields 2 (map written_change l.fn.changes)))
