use Rattle.std.proofs.Common.{inl, inr, arith}
use Rattle.std.proofs.lemmas.Result.{err_from_is_err_and}
use Rattle.vdiff.proofs.DifferenceLaws.{adding_breaks_at, adding_more, adding_none, found_all}
use Rattle.vdiff.proofs.differences.add_differences.Goals as goal

pub loop-init : goal.loop-init
loop-init g c = rw (c.as_slice-left.ensures.rows, c.as_slice-right.ensures.rows) (adding_none _ _ _ _ _ _ c.as_slice-left.ensures.rising c.as_slice-right.ensures.rising)

pub returns-in_err-add_difference : goal.returns-in_err-add_difference
returns-in_err-add_difference g c =
    let p = err_from_is_err_and c.from_residual.result c.from_residual.ensures.1 in
    rw p.1 (adding_breaks_at _ _ _ _ _ _ _ _ _ _ _ c.loop.invariant _ _ _ _ (λ a b. (c.keys_tie_where_they_are_equal.ensures a b).0) c.loop-test.true c.in-Some.ensures c.in_err-add_difference.ensures)

pub loop-preserved : goal.loop-preserved
loop-preserved g c = adding_more _ _ _ _ _ _ _ _ _ _ _ c.loop.invariant _ _ _ _ _ c.loop-test.true c.in-Some.ensures c.in_ok-add_difference.ensures

pub returns-in_default : goal.returns-in_default
returns-in_default g c = (c.loop.invariant.found, found_all _ _ _ _ _ _ _ (inr (c.loop-test.true, c.in_default.ensures)) c.loop.invariant.are_found, c.loop.invariant.added)

pub returns : goal.returns
returns g c = (c.loop.invariant.found, found_all _ _ _ _ _ _ _ (inl (omega arith)) c.loop.invariant.are_found, c.loop.invariant.added)
