use Rattle.vevent.proofs.field_event.FieldEvent.fields.Goals as goal

pub invariant_of-result : goal.invariant_of-result
invariant_of-result c = cc

pub returns : goal.returns
returns c = cc
