use Rattle.std.proofs.Common.{◌++◌, [], ◌∷◌}
use Rattle.std.proofs.lemmas.Result.{err_from_is_err_and}
use Rattle.dump.specs.Cells.{cells}
use Rattle.printing.proofs.PrintLaws.{adding_breaks, added_breaks, added_more, then_adds}
use Rattle.vdiff.proofs.differences.add_row.Goals as goal

pub returns-in_err-put_str : goal.returns-in_err-put_str
returns-in_err-put_str g c =
    let t2 = c.args.word.now ++ (cells c.args.columns) in
    let p = err_from_is_err_and c.from_residual.result c.from_residual.ensures.1 in
    rw p.1 (adding_breaks _ _ c.args.text.now t2 (10 ∷ []) (adding_breaks _ _ c.args.text.now c.args.word.now (cells c.args.columns) c.in_err-put_str.ensures))

pub returns-in_err-add_cells : goal.returns-in_err-add_cells
returns-in_err-add_cells g c =
    let t2 = c.args.word.now ++ (cells c.args.columns) in
    let p = err_from_is_err_and c.from_residual-in_err-add_cells.result c.from_residual-in_err-add_cells.ensures.1 in
    rw p.1 (adding_breaks _ _ c.args.text.now t2 (10 ∷ []) (added_breaks _ _ _ _ _ c.args.word.now (cells c.args.columns) c.in_ok-put_str.ensures c.in_err-add_cells.ensures))

pub returns : goal.returns
returns g c =
    let t2 = c.args.word.now ++ (cells c.args.columns) in
    then_adds c.put_str-2.result _ _ _ _ _ _ t2 (10 ∷ []) (added_more _ _ _ _ _ _ c.args.word.now (cells c.args.columns) c.in_ok-put_str.ensures c.in_ok-add_cells.ensures) c.put_str-2.ensures
