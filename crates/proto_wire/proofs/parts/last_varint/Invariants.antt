use Rattle.std.proofs.Common.{◌≡◌, length}
use Rattle.std.specs.List.{filter_map}
use Rattle.proto_wire.specs.Parts.{count_in, last_of, scalar}
use Rattle.proto_wire.proofs.parts.last_varint.Given as goal

-- the last varint of the rest, or else of what was passed over, is that of the whole message
abbrev pub invariant-loop-field : goal.invariant-loop-field
invariant-loop-field l = last_of l.last (filter_map (count_in l.number) l.fields.items) ≡ scalar l.number l.fn.message

abbrev pub decreases-loop-field : goal.decreases-loop-field
decreases-loop-field l = length l.fields.items
