use Rattle.std.proofs.Common.{◌≡◌, ◌++◌, ◌∷◌, List, ℕ, Option, ap, ◌∙◌}
use Rattle.std.proofs.lemmas.List.Concat.{flat_map-cons}
use Rattle.row_view.specs.ColumnValue.{column_value}
use Rattle.dump.specs.Cells.{cell, cells}
use Rattle.feed_text.proofs.SaidLaws.{begins, goes, ends}
use Rattle.feed_text.proofs.saying.behind_cells.Goals as goal

-- the first cell of what is left
first_cell : (left rest : List (Option (List ℕ))) (value : Option (List ℕ)) → left ≡ value ∷ rest → cells left ≡ (9 ∷ cell value) ++ cells rest
first_cell left rest value is = ap cells is ∙ flat_map-cons (λ column. 9 ∷ cell column) value rest

pub loop-column-init : goal.loop-column-init
loop-column-init c = rw c.into_iter-column-iterator.ensures.into_iter_gives (begins _ _)

pub loop-column-preserved : goal.loop-column-preserved
loop-column-preserved c =
    let value : Option (List ℕ) = column_value c.in-Some.column in
    let parts = first_cell c.loop-column.column-iterator c.next.new.self value c.in-Some.ensures.steps in
    goes _ _ _ _ _ (9 ∷ cell value) _ parts c.in_ok-rest.ensures c.loop-column.invariant

pub returns : goal.returns
returns c = ends _ _ _ _ (ap cells c.in-None.ensures.steps.0) c.loop-column.invariant
