use Rattle.std.proofs.Common.{◌≡◌}
use Rattle.proto_wire.specs.Parts.{last_of, text}
use Rattle.proto_wire.proofs.parts.last_text.Given as goal

-- the last text of the rest, or else of what was passed over, is that of the whole message
abbrev pub invariant-loop-part : goal.invariant-loop-part
invariant-loop-part l = last_of l.last l.part-iterator ≡ text l.fn.number l.fn.message
