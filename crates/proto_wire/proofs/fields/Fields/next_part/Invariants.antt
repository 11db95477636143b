use Rattle.std.proofs.Common.{◌≡◌, length}
use Rattle.proto_wire.specs.Parts.{parts_left}
use Rattle.proto_wire.proofs.fields.Fields.next_part.Given as goal

-- what was passed over holds nothing under the number
abbrev pub invariant-loop-field : goal.invariant-loop-field
invariant-loop-field l = parts_left l.number l.self ≡ parts_left l.number l.initial.self

abbrev pub decreases-loop-field : goal.decreases-loop-field
decreases-loop-field l = length l.self.items
