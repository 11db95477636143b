use Rattle.std.proofs.Common.{◌∙◌, refl}
use Rattle.std.proofs.lemmas.Result.{err_from_is_err_and}
use Rattle.vrepl_main.proofs.ScriptRunLaws.{starts, moves, stops, ends}
use Rattle.vrepl_main.proofs.lines.take_lines.Goals as goal

pub loop-step-init : goal.loop-step-init
loop-step-init g c = (starts _ _ _ _, refl)

pub loop-step-preserved : goal.loop-step-preserved
loop-step-preserved g c = (
  moves _ _ _ _ _ _ _ _ _ _ _ c.loop-step-test.true c.loop-step.invariant.0 (rw c.loop-step.invariant.1 at c.in_ok-take_line.ensures.replies),
  c.take_line.ensures.feeds ∙ c.loop-step.invariant.1,
)

pub returns-in_err-take_line-clause-replies : goal.returns-in_err-take_line-clause-replies
returns-in_err-take_line-clause-replies g c =
    let p = err_from_is_err_and c.from_residual.result c.from_residual.ensures.1 in
    rw p.1 (stops _ _ _ _ _ _ _ _ _ _ _ _ c.loop-step-test.true c.loop-step.invariant.0 (rw c.loop-step.invariant.1 at c.in_err-take_line.ensures.replies))

pub returns-in_err-take_line-clause-feeds : goal.returns-in_err-take_line-clause-feeds
returns-in_err-take_line-clause-feeds g c = c.take_line.ensures.feeds ∙ c.loop-step.invariant.1

pub returns-clause-replies : goal.returns-clause-replies
returns-clause-replies g c = ends _ _ _ _ _ _ _ _ c.loop-step-test.false c.loop-step.invariant.0
