use Rattle.log_transcribe.proofs.further.send_first.Goals as goal

pub returns-clause-told : goal.returns-clause-told
returns-clause-told g c = rw (c.new-waiting.ensures.items, c.as_slice.ensures) at c.send_bytes.ensures.told
