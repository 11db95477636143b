use Rattle.std.proofs.Common.{List, Option, Some, map, sym, ap, ◌∙◌}
use Rattle.std.specs.Option.{option_map}
use Rattle.filter_rule.proofs.JsonLaws.{listed_items}
use Rattle.serde_json.specs.Data.{Data, Items}
use Rattle.serde_json.specs.View.{view}
use Rattle.filter_rule.specs.Document.{listed}
use Rattle.filter_rule.proofs.further.values_in.Goals as goal

pub returns-in-Some : goal.returns-in-Some
returns-in-Some c =
    let from : Option Items → Option (List Data) = λ o. option_map listed o in
    let some : List Data → Option (List Data) = λ ds. Some ds in
    ap some (ap (map view) c.as_slice.ensures.value ∙ sym (listed_items (map view c.in-Some.values.now.items))) ∙ ap from c.in-Some.ensures
