use Rattle.vrepl_transcribe.proofs.transcribing.write_from.Goals as goal

pub returns-in-Some : goal.returns-in-Some
returns-in-Some g c = rw c.in-Some.is c.transcribe_behind_to.ensures

pub returns-in-None : goal.returns-in-None
returns-in-None g c = rw c.in-None.is c.transcribe_to.ensures
