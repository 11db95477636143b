use Rattle.std.proofs.Common.{◌≡◌, ◌++◌, map}
use Rattle.proto_wire.specs.Writing.{written_fields, Begins}
use Rattle.vevent.specs.WrittenEvent.{message_fields, written_change}
use Rattle.vevent.proofs.written_changes.put_changes.Given as goal

-- what is written, and what those are written as that are still to come, is what all are written as
abbrev pub invariant-loop-change : goal.invariant-loop-change
invariant-loop-change l =
    (l.out.items ++ written_fields (message_fields 2 (map written_change l.change-iterator)) ≡ l.fn.out.items ++ written_fields (message_fields 2 (map written_change l.fn.changes)))
    × Begins l.fn.out.items l.out.items
