use Rattle.vevent.proofs.row_event.RowEvent.changes.Goals as goal

pub invariant_of-result : goal.invariant_of-result
invariant_of-result c = cc

pub returns : goal.returns
returns c = cc
