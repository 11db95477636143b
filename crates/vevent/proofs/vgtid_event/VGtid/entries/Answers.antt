use Rattle.vevent.proofs.vgtid_event.VGtid.entries.Goals as goal

pub invariant_of-result : goal.invariant_of-result
invariant_of-result c = cc

pub returns : goal.returns
returns c = cc
