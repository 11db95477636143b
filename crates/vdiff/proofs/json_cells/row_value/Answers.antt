use Rattle.std.proofs.Common.{rules, ◌≡◌, ◌++◌, ◌∷◌, [], map}
use Rattle.std.proofs.lemmas.List.{map-append}
use Rattle.serde_json.specs.View.{view}
use Rattle.vdiff.specs.Json.{cell_data}
use Rattle.vdiff.proofs.JsonLaws.{made_more}
use Rattle.vdiff.proofs.json_cells.row_value.Goals as goal

pub loop-column-preserved : goal.loop-column-preserved
loop-column-preserved c =
    let grown : map view c.push.new.self.items ≡ map view c.loop-column.cells.items ++ view c.in_ok-cell.cell ∷ [] = search (rules, map-append) in
    rw grown (made_more cell_data _ _ _ _ _ _ c.in-Some.ensures.steps c.in_ok-cell.ensures c.loop-column.invariant)
