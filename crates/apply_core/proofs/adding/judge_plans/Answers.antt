use Rattle.std.proofs.Common.{refl, sym, subst}
use Rattle.std.specs.Prelude.{IsTrue}
use Rattle.apply_core.proofs.adding.judge_plans.Goals as goal

pub returns-clause-whole : goal.returns-clause-whole
returns-clause-whole c = c.are_opened_under.ensures.whole (subst IsTrue (sym c.if-not-are_opened_under.false) refl)
