use Rattle.std.proofs.Common.{inl, inr, arith}
use Rattle.vdiff.proofs.DifferenceLaws.{found_all}
use Rattle.vrepl_c.proofs.DifferenceLaws.{adding_more, adding_none}
use Rattle.vrepl_c.proofs.differences.push_differences.Goals as goal

pub loop-init : goal.loop-init
loop-init c = rw (c.as_slice-left.ensures.rows, c.as_slice-right.ensures.rows) (adding_none _ _ _ _ _ c.as_slice-left.ensures.rising c.as_slice-right.ensures.rising)

pub loop-preserved : goal.loop-preserved
loop-preserved c = adding_more _ _ _ _ _ _ _ _ _ _ _ _ _ c.loop.invariant c.loop-test.true c.in-Some.ensures c.in_ok-push_difference.ensures

pub returns-in_default : goal.returns-in_default
returns-in_default c = (c.loop.invariant.found, found_all _ _ _ _ _ _ _ (inr (c.loop-test.true, c.in_default.ensures)) c.loop.invariant.are_found, c.loop.invariant.added)

pub returns : goal.returns
returns c = (c.loop.invariant.found, found_all _ _ _ _ _ _ _ (inl (omega arith)) c.loop.invariant.are_found, c.loop.invariant.added)
