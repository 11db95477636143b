use Rattle.std.proofs.Common.{◌≡◌, ◌++◌, [], ◌∷◌, List, ℕ, Option, refl, ap, ◌∙◌, append_assoc}
use Rattle.std.proofs.lemmas.List.Concat.{flat_map-cons}
use Rattle.std.proofs.lemmas.Result.{err_from_is_err_and}
use Rattle.row_view.specs.ColumnValue.{column_value}
use Rattle.dump.specs.Cells.{cell, cells}
use Rattle.dump.specs.Dump.{row_line}
use Rattle.dump.specs.Private.Partings.{parting, cells_left}
use Rattle.printing.proofs.PrintLaws.{adding_breaks, added_breaks, added_more, adding_starts, adding_moves, adding_stops, adding_last}
use Rattle.dump.proofs.dump.add_row.Goals as goal

-- nothing parts the first cell of a line
whole_line : (columns : List (Option (List ℕ))) → row_line columns ≡ cells_left [] columns ++ 10 ∷ []
whole_line [] = refl
whole_line (column ∷ others) = refl

-- a tab parts every other
behind_tabs : (columns : List (Option (List ℕ))) → cells columns ≡ cells_left (9 ∷ []) columns
behind_tabs [] = refl
behind_tabs (column ∷ others) = flat_map-cons (λ column. 9 ∷ cell column) column others

-- the first cell of what is left
first_cell : (before : List ℕ) (left rest : List (Option (List ℕ))) (value : Option (List ℕ)) → left ≡ value ∷ rest
    → cells_left before left ++ 10 ∷ [] ≡ (before ++ cell value) ++ (cells_left (9 ∷ []) rest ++ 10 ∷ [])
first_cell before left rest value is =
    ap (λ (columns : List (Option (List ℕ))). cells_left before columns ++ 10 ∷ []) is
    ∙ append_assoc (before ++ cell value) (cells rest) (10 ∷ [])
    ∙ ap (λ l. (before ++ cell value) ++ (l ++ 10 ∷ [])) (behind_tabs rest)

pub loop-column-init : goal.loop-column-init
loop-column-init g c = rw (c.into_iter-column-iterator.ensures.into_iter_gives, ← whole_line c.args.columns) (adding_starts _ _ _)

pub returns-in_err-add_parting : goal.returns-in_err-add_parting
returns-in_err-add_parting g c =
    let value : Option (List ℕ) = column_value c.in-Some.column in
    let parts = first_cell (parting c.loop-column.is_first) c.loop-column.column-iterator c.next.new.self value c.in-Some.ensures.steps in
    let p = err_from_is_err_and c.from_residual.result c.from_residual.ensures.1 in
    rw p.1 (adding_stops _ _ _ _ _ _ _ _ _ parts c.loop-column.invariant (adding_breaks _ _ c.loop-column.text (parting c.loop-column.is_first) (cell value) c.in_err-add_parting.ensures))

pub loop-column-preserved : goal.loop-column-preserved
loop-column-preserved g c =
    let value : Option (List ℕ) = column_value c.in-Some.column in
    let parts = first_cell (parting c.loop-column.is_first) c.loop-column.column-iterator c.next.new.self value c.in-Some.ensures.steps in
    adding_moves _ _ _ _ _ _ _ _ _ _ parts c.loop-column.invariant (added_more _ _ _ _ _ _ (parting c.loop-column.is_first) (cell value) c.in_ok-add_parting.ensures c.in_ok-add_cell.ensures)

pub returns-in_err-add_cell : goal.returns-in_err-add_cell
returns-in_err-add_cell g c =
    let value : Option (List ℕ) = column_value c.in-Some.column in
    let parts = first_cell (parting c.loop-column.is_first) c.loop-column.column-iterator c.next.new.self value c.in-Some.ensures.steps in
    let p = err_from_is_err_and c.from_residual-in_err-add_cell.result c.from_residual-in_err-add_cell.ensures.1 in
    rw p.1 (adding_stops _ _ _ _ _ _ _ _ _ parts c.loop-column.invariant (added_breaks _ _ _ _ _ (parting c.loop-column.is_first) (cell value) c.in_ok-add_parting.ensures c.in_err-add_cell.ensures))

pub returns : goal.returns
returns g c =
    adding_last c.put.result _ _ _ _ _ _ _ _ _ (ap (λ (columns : List (Option (List ℕ))). cells_left (parting c.loop-column.is_first) columns ++ 10 ∷ []) c.in-None.ensures.steps.0) c.loop-column.invariant c.put.ensures
