use Rattle.std.proofs.Common.{inl, inr, refl, subst}
use Rattle.printing.specs.Printing.{Prints, Written}
use Rattle.live_session.specs.Answered.{refusal_line}
use Rattle.live_session.proofs.answer.answer_or_refuse.Goals as goal

pub returns-in-Ok-clause-answer : goal.returns-in-Ok-clause-answer
returns-in-Ok-clause-answer g c = let answered = c.in-Ok.ensures.answer in (answered.0, inl answered.1, answered.2)

pub returns-in-Err-clause-answer : goal.returns-in-Err-clause-answer
returns-in-Err-clause-answer g c = (refusal_line 72, inr (c.in-Err.ensures.left, refl), subst (λ (written : Written). Prints c.refuse.result written (g.O.Out.written c.refuse.new.out) (refusal_line 72)) c.in-Err.ensures.answer c.refuse.ensures)
