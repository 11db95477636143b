use Rattle.std.proofs.Common.{ap, ◌∙◌, sym}
use Rattle.proto_wire.specs.declared.fault.WireFault.{WireFault}
use Rattle.proto_wire.specs.Reading.{Reading}
use Rattle.proto_wire.specs.Field.{WireField, fields_of}
use Rattle.proto_wire.specs.Parts.{parts_left}
use Rattle.vevent.specs.Response.{events_in}
use Rattle.vevent.proofs.ResponseLaws.{are_events, no_others}
use Rattle.vevent.proofs.response.Response.new.Goals as goal

pub returns-clause-spelled : goal.returns-clause-spelled
returns-clause-spelled c =
    let fields = fields_of c.args.bytes.now in
    rw c.new.ensures.reading (fields, c.new.ensures.spelled, are_events (parts_left 1 fields).items fields.fault)

pub returns-clause-only : goal.returns-clause-only
returns-clause-only c = λ other h. no_others (parts_left 1 h.0).items h.0.fault other.items other.fault h.2 ∙ ap (λ (fields : Reading WireField WireFault). events_in (parts_left 1 fields)) (c.new.ensures.only h.0 h.1) ∙ ap events_in (sym c.new.ensures.reading)
