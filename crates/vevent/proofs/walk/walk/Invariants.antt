use Rattle.std.proofs.Common.{◌≡◌, Option, length}
use Rattle.proto_wire.specs.declared.fault.WireFault.{WireFault}
use Rattle.proto_wire.specs.Field.{fields_of}
use Rattle.vevent.specs.Fault.{first_in}
use Rattle.vevent.proofs.walk.walk.Given as goal

-- what was met and the rest are the whole message, and nothing is at fault in what was met
abbrev pub invariant-loop-field : goal.invariant-loop-field
invariant-loop-field g l =
    let inside = g.P.MessageParts.inside in
    g.P.MessageParts.make_up l.fn.message l.parts l.fields.items
    × (inside l.parts ≡ inside l.fn.parts)
    × ((end : Option WireFault) → first_in (inside l.fn.parts) l.fields.items end ≡ first_in (inside l.fn.parts) (fields_of l.fn.message).items end)
    × (l.fields.fault ≡ (fields_of l.fn.message).fault)

abbrev pub decreases-loop-field : goal.decreases-loop-field
decreases-loop-field g l = length l.fields.items
