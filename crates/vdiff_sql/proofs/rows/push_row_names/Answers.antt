use Rattle.std.proofs.Common.{◌∙◌, ◌++◌, ap, refl, false, get_or, map, List, ℕ}
use Rattle.std.proofs.lemmas.List.{drop_more}
use Rattle.std.specs.Prelude.{codes, slice_get}
use Rattle.vdiff_sql.specs.Columns.{name_of}
use Rattle.vdiff_sql.proofs.ListLaws.{listed_more}
use Rattle.vdiff_sql.proofs.rows.push_row_names.Goals as goal

pub loop-place-preserved : goal.loop-place-preserved
loop-place-preserved c =
    let f = c.in_ok-push_name_at.ensures in
    let g = c.in_ok-push_parting.ensures in
    listed_more c.loop-place.text.items (codes ", ") _ c.loop-place.is_first false _ _ _ _ refl
    (ap (map (λ place. name_of (slice_get c.args.table.now.columns place))) (drop_more c.kept-place-items.result.now c.loop-place.place-index 0 c.loop-place-test.true)) (f ∙ ap (λ (l : List ℕ). l ++ name_of (slice_get c.args.table.now.columns (get_or c.kept-place-items.result.now c.loop-place.place-index 0))) g) c.loop-place.invariant
