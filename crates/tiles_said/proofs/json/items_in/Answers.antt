use Rattle.std.proofs.Common.{List, Option, map, sym, ap, ◌∙◌, []}
use Rattle.std.specs.Option.{option_map_or}
use Rattle.filter_rule.proofs.JsonLaws.{listed_items}
use Rattle.serde_json.specs.Data.{Data, Items}
use Rattle.serde_json.specs.View.{view}
use Rattle.filter_rule.specs.Document.{listed}
use Rattle.tiles_said.proofs.json.items_in.Goals as goal

pub returns-in-Some : goal.returns-in-Some
returns-in-Some c =
    let from : Option Items → List Data = λ o. option_map_or listed o [] in
    ap (map view) c.as_slice.ensures.value ∙ sym (listed_items (map view c.in-Some.values.now.items)) ∙ ap from c.in-Some.ensures
