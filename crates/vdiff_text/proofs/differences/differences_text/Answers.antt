use Rattle.std.proofs.Common.{inl, arith}
use Rattle.vdiff_text.specs.ShownDifferences.{shown_difference}
use Rattle.vdiff_text.proofs.LineLaws.{taken_more, taken_all}
use Rattle.vdiff_text.proofs.differences.differences_text.Goals as goal

pub loop-preserved : goal.loop-preserved
loop-preserved c = taken_more (shown_difference c.args.tables.now) _ _ _ _ _ _ _ _ c.loop-test.true c.in-Some.ensures.steps c.in_ok-push_difference.ensures c.loop.invariant

pub returns : goal.returns
returns c = taken_all (shown_difference c.args.tables.now) _ _ _ _ _ (inl (omega arith)) c.loop.invariant
