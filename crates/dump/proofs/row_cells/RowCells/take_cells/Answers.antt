use Rattle.std.proofs.Common.{◌≡◌, ◌+◌, ◌-◌, ◌∙◌, suc, ap, sym, Err, arith}
use Rattle.std.proofs.lemmas.Result.{err_from_is_err_and}
use Rattle.dump.proofs.ReadingLaws.{cells_start, cells_step, cells_end, no_tab, no_cell, err_is}
use Rattle.dump.proofs.row_cells.RowCells.take_cells.Goals as goal

pub loop-init : goal.loop-init
loop-init c = cells_start _ _ _ _ (omega arith)

pub loop-preserved : goal.loop-preserved
loop-preserved c =
    let left : c.args.count - c.loop.counter ≡ suc (c.args.count - (c.loop.counter + 1)) = omega arith in
    cells_step _ _ _ _ _ _ _ _ _ _ left c.in_ok-cell.ensures.taken c.in_ok-rest.ensures.taken c.loop.invariant

pub returns-in_err-cell-clause-bad : goal.returns-in_err-cell-clause-bad
returns-in_err-cell-clause-bad c =
    let left : c.args.count - c.loop.counter ≡ suc (c.args.count - (c.loop.counter + 1)) = omega arith in
    λ e. no_tab _ _ _ _ _ _ _ left c.in_err-cell.ensures.bad c.loop.invariant

pub returns-in_err-rest-clause-bad : goal.returns-in_err-rest-clause-bad
returns-in_err-rest-clause-bad c =
    let left : c.args.count - c.loop.counter ≡ suc (c.args.count - (c.loop.counter + 1)) = omega arith in
    let p = err_from_is_err_and c.from_residual-in_err-rest.result c.from_residual-in_err-rest.ensures.1 in
    λ e. no_cell _ _ _ _ _ _ _ _ left c.in_ok-cell.ensures.taken (c.in_err-rest.ensures.bad (ap Err (sym p.2 ∙ err_is _ _ _ p.1 e))) c.loop.invariant

pub returns-clause-taken : goal.returns-clause-taken
returns-clause-taken c = cells_end _ (c.args.count - c.loop.counter) _ _ _ _ (omega arith) c.loop.invariant
