use Rattle.std.proofs.Common.{sym, ◌∙◌, arith}
use Rattle.check_said.proofs.FieldLaws.{missing}
use Rattle.check_said.proofs.field.first_differing.Goals as goal

pub returns-in-None : goal.returns-in-None
returns-in-None c = sym (missing c.loop-place.place c.args.columns.now c.loop-place.fields (omega arith) c.in-None.ensures.steps.0) ∙ c.loop-place.invariant
