use Rattle.std.proofs.Common.{refl, arith}
use Rattle.std.proofs.lemmas.Bool.{false≢true}
use Rattle.board_laws.proofs.JoinedPairs.{same_plan}
use Rattle.apply_core.proofs.JoinLaws.{plans_by}
use Rattle.apply_core.proofs.joining.have_same_plans.Goals as goal

pub returns-in-None : goal.returns-in-None
returns-in-None c = (λ _. plans_by c.args.a.now.streams c.args.b.now.streams (omega (arith, c.if-len.false, c.len.ensures, c.len-2.ensures)) c.in-None.ensures, λ _. refl)

pub returns-in-Some : goal.returns-in-Some
returns-in-Some c = (
  λ is. absurd (false≢true is),
  λ plans. absurd (c.in-Some.ensures.fails (same_plan c.args.a.now.streams c.args.b.now.streams plans _ _ _ c.in-Some.ensures.here c.in-Some.ensures.there)),
)
