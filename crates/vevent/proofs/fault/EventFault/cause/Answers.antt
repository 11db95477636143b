use Rattle.vevent.proofs.fault.EventFault.cause.Goals as goal

pub returns-in-Wire : goal.returns-in-Wire
returns-in-Wire c = cc
