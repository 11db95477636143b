use Rattle.std.proofs.Common.{◌≡◌, ◌∙◌, sym, inl, inr, arith}
use Rattle.vrepl_main.proofs.HandedOnLaws.{writes_saved}
use Rattle.vrepl_main.proofs.SaveLaws.{none_refused, prints_saved}
use Rattle.vrepl_main.proofs.saving.save.Goals as goal

pub returns-in-Ok-clause-ends : goal.returns-in-Ok-clause-ends
returns-in-Ok-clause-ends g c = inl (prints_saved c.args.strict _ c.in-Ok.saved _ _ _ _ _ c.in-Ok.ensures.saved c.in-Ok.ensures.printed c.tell_refused.ensures.told c.tell_refused.ensures.status)

pub returns-in-Ok-clause-quiet : goal.returns-in-Ok-clause-quiet
returns-in-Ok-clause-quiet g c = λ strict zero. c.tell_refused.ensures.quiet (none_refused c.args.strict c.in-Ok.saved.refused strict (sym c.tell_refused.ensures.status ∙ zero))

pub returns-in-Ok-clause-right : goal.returns-in-Ok-clause-right
returns-in-Ok-clause-right g c = λ zero. writes_saved c.args.inputs.now c.in-Ok.saved _ _ c.in-Ok.ensures.saved c.in-Ok.ensures.printed

pub returns-in-Err-clause-right : goal.returns-in-Err-clause-right
returns-in-Err-clause-right g c = λ zero. absurd (omega (arith, zero, c.refuse.ensures.status))

pub returns-in-Err-clause-ends : goal.returns-in-Err-clause-ends
returns-in-Err-clause-ends g c = inr (c.refuse.ensures.status, (c.in-Err.refusal, c.in-Err.ensures.refused, c.refuse.ensures.line))

pub returns-in-Err-clause-quiet : goal.returns-in-Err-clause-quiet
returns-in-Err-clause-quiet g c = λ strict zero. absurd (omega (arith, zero, c.refuse.ensures.status))
