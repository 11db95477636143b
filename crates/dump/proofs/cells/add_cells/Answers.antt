use Rattle.std.proofs.Common.{◌≡◌, ◌++◌, [], ◌∷◌, List, ℕ, Option, ap, ◌∙◌}
use Rattle.std.proofs.lemmas.List.Concat.{flat_map-cons}
use Rattle.std.proofs.lemmas.Result.{err_from_is_err_and}
use Rattle.row_view.specs.ColumnValue.{column_value}
use Rattle.dump.specs.Cells.{cell, cells}
use Rattle.printing.proofs.PrintLaws.{adding_breaks, added_breaks, added_more, adding_starts, adding_moves, adding_stops}
use Rattle.dump.proofs.cells.add_cells.Goals as goal

-- the first cell of what is left
first_cell : (left rest : List (Option (List ℕ))) (value : Option (List ℕ)) → left ≡ value ∷ rest → cells left ≡ (9 ∷ cell value) ++ cells rest
first_cell left rest value is = ap cells is ∙ flat_map-cons (λ column. 9 ∷ cell column) value rest

pub loop-column-init : goal.loop-column-init
loop-column-init g c = rw c.into_iter-column-iterator.ensures.into_iter_gives (adding_starts _ _ _)

pub returns-in_err-put : goal.returns-in_err-put
returns-in_err-put g c =
    let value : Option (List ℕ) = column_value c.in-Some.column in
    let parts = first_cell c.loop-column.column-iterator c.next.new.self value c.in-Some.ensures.steps in
    let p = err_from_is_err_and c.from_residual.result c.from_residual.ensures.1 in
    rw p.1 (adding_stops _ _ _ _ _ _ _ _ _ parts c.loop-column.invariant (adding_breaks _ _ c.loop-column.text (9 ∷ []) (cell value) c.in_err-put.ensures))

pub loop-column-preserved : goal.loop-column-preserved
loop-column-preserved g c =
    let value : Option (List ℕ) = column_value c.in-Some.column in
    let parts = first_cell c.loop-column.column-iterator c.next.new.self value c.in-Some.ensures.steps in
    adding_moves _ _ _ _ _ _ _ _ _ _ parts c.loop-column.invariant (added_more _ _ _ _ _ _ (9 ∷ []) (cell value) c.in_ok-put.ensures c.in_ok-add_cell.ensures)

pub returns-in_err-add_cell : goal.returns-in_err-add_cell
returns-in_err-add_cell g c =
    let value : Option (List ℕ) = column_value c.in-Some.column in
    let parts = first_cell c.loop-column.column-iterator c.next.new.self value c.in-Some.ensures.steps in
    let p = err_from_is_err_and c.from_residual-in_err-add_cell.result c.from_residual-in_err-add_cell.ensures.1 in
    rw p.1 (adding_stops _ _ _ _ _ _ _ _ _ parts c.loop-column.invariant (added_breaks _ _ _ _ _ (9 ∷ []) (cell value) c.in_ok-put.ensures c.in_err-add_cell.ensures))
