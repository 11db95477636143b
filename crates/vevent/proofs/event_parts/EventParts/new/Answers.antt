use Rattle.std.proofs.Common.{List, [], subst, rules}
use Rattle.proto_wire.specs.Field.{WireField}
use Rattle.vevent.specs.Private.EventParts.{AreRowParts}
use Rattle.vevent.proofs.CountLaws.{fields_of_nothing}
use Rattle.vevent.proofs.event_parts.EventParts.new.Goals as goal

pub returns : goal.returns
returns c = λ event. record {
  type_number = search rules;
  gtid = search rules;
  row_event = search rules;
  row_events = search rules;
  rows = subst (λ (fields : List WireField). AreRowParts [] c.new.result fields) fields_of_nothing (c.new.ensures []);
  field_event = search rules;
  field_events = search rules;
  vgtid = search rules;
  vgtids = search rules;
}
