use Rattle.std.proofs.Common.{◌≡◌, ◌≤◌, ◌∙◌, ℕ, refl, sym, subst, arith}
use Rattle.vrepl_main.proofs.SaveLaws.{all_taken, count_one, none_taken, one_taken}
use Rattle.vrepl_main.proofs.saving.take_quietly.Goals as goal

pub loop-step-init : goal.loop-step-init
loop-step-init c = (none_taken c.args.fed.now.feeds c.args.fed.now.board, refl, omega arith)

pub loop-step-preserved : goal.loop-step-preserved
loop-step-preserved c =
    let (reply, last, told, counted) = rw c.loop-step.invariant.1 at c.in_ok-refused.ensures.taken in
    let one : c.in_ok-refused.field-0 ≤ 1 = subst (λ (n : ℕ). n ≤ 1) (sym counted) (count_one reply) in (
      one_taken c.args.fed.now.feeds c.args.fed.now.board c.loop-step.fed.board _ c.args.steps.now c.loop-step.step-index _ c.loop-step.refused c.in_ok-refused.field-0 c.loop-step-test.true c.loop-step.invariant.0 (reply, last, told, counted),
      c.take_one.ensures.feeds ∙ c.loop-step.invariant.1,
      omega (arith, one, c.loop-step.invariant.2),
    )

pub returns-in_err-refused-clause-feeds : goal.returns-in_err-refused-clause-feeds
returns-in_err-refused-clause-feeds c = c.take_one.ensures.feeds ∙ c.loop-step.invariant.1

pub returns-clause-behind : goal.returns-clause-behind
returns-clause-behind c = all_taken c.args.fed.now.feeds c.args.fed.now.board _ c.args.steps.now c.loop-step.step-index _ c.loop-step-test.false c.loop-step.invariant.0
