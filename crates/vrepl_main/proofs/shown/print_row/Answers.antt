use Rattle.std.proofs.Common.{[], ◌∷◌, ◌++◌}
use Rattle.dump.specs.Cells.{cells}
use Rattle.std.proofs.lemmas.Result.{err_from_is_err_and}
use Rattle.vrepl_main.proofs.AddLaws.{first_stops, then_stops, then_prints, then_put}
use Rattle.vrepl_main.proofs.shown.print_row.Goals as goal

pub returns-in_err-put_str : goal.returns-in_err-put_str
returns-in_err-put_str g c =
    let a = c.args in
    let p = err_from_is_err_and c.from_residual.result c.from_residual.ensures.1 in
    rw p.1 (first_stops _ _ (((a.mark.now) ++ a.table.now) ++ cells a.columns) (10 ∷ []) (first_stops _ _ ((a.mark.now) ++ a.table.now) (cells a.columns) (first_stops _ _ (a.mark.now) (a.table.now) c.in_err-put_str.ensures)))

pub returns-in_err-put_str-2 : goal.returns-in_err-put_str-2
returns-in_err-put_str-2 g c =
    let a = c.args in
    let p = err_from_is_err_and c.from_residual-in_err-put_str-2.result c.from_residual-in_err-put_str-2.ensures.1 in
    rw p.1 (first_stops _ _ (((a.mark.now) ++ a.table.now) ++ cells a.columns) (10 ∷ []) (first_stops _ _ ((a.mark.now) ++ a.table.now) (cells a.columns) (then_stops _ _ _ (a.mark.now) (a.table.now) c.in_ok-put_str.ensures c.in_err-put_str-2.ensures)))

pub returns-in_err-print_cells : goal.returns-in_err-print_cells
returns-in_err-print_cells g c =
    let a = c.args in
    let p = err_from_is_err_and c.from_residual-in_err-print_cells.result c.from_residual-in_err-print_cells.ensures.1 in
    rw p.1 (first_stops _ _ (((a.mark.now) ++ a.table.now) ++ cells a.columns) (10 ∷ []) (then_stops _ _ _ ((a.mark.now) ++ a.table.now) (cells a.columns) (then_put _ _ _ (a.mark.now) (a.table.now) c.in_ok-put_str.ensures c.in_ok-put_str-2.ensures) c.in_err-print_cells.ensures))

pub returns : goal.returns
returns g c =
    let a = c.args in
    then_prints c.put_all.result _ _ _ (((a.mark.now) ++ a.table.now) ++ cells a.columns) (10 ∷ []) (then_put _ _ _ ((a.mark.now) ++ a.table.now) (cells a.columns) (then_put _ _ _ (a.mark.now) (a.table.now) c.in_ok-put_str.ensures c.in_ok-put_str-2.ensures) c.in_ok-print_cells.ensures) c.put_all.ensures
