use Rattle.std.proofs.lemmas.Result.{err_from_is_err_and}
use Rattle.printing.proofs.PrintLaws.{adding_moves, adding_stops}
use Rattle.vdiff.proofs.TextLaws.{first_table}
use Rattle.vdiff.proofs.tables.add_tables.Goals as goal

pub returns-in_err-add_table : goal.returns-in_err-add_table
returns-in_err-add_table g c =
    let parts = first_table c.args.tables.now c.loop-table.table-index _ c.loop-table-test.true in
    let p = err_from_is_err_and c.from_residual.result c.from_residual.ensures.1 in
    rw p.1 (adding_stops _ _ _ _ _ _ _ _ _ parts c.loop-table.invariant c.in_err-add_table.ensures)

pub loop-table-preserved : goal.loop-table-preserved
loop-table-preserved g c =
    let parts = first_table c.args.tables.now c.loop-table.table-index _ c.loop-table-test.true in
    adding_moves _ _ _ _ _ _ _ _ _ _ parts c.loop-table.invariant c.in_ok-add_table.ensures
