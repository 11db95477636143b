use Rattle.vevent.proofs.fault.EventFault.number.Goals as goal

pub returns-in-NotUtf8 : goal.returns-in-NotUtf8
returns-in-NotUtf8 c = cc
