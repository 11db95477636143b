use Rattle.vrepl_feed.proofs.refusal.refuse_unfed.Goals as goal

pub returns-in-Text-clause-line : goal.returns-in-Text-clause-line
returns-in-Text-clause-line g c = rw c.in-Text.is c.refuse_text.ensures.line
