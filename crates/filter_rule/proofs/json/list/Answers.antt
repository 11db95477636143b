use Rattle.std.proofs.Common.{List, Option, Ok, map, sym, ap, ◌∙◌, Result}
use Rattle.std.specs.Option.{option_map}
use Rattle.serde_json.specs.Data.{Data, Items}
use Rattle.serde_json.specs.View.{view}
use Rattle.filter_rule.specs.Faults.{Fault}
use Rattle.filter_rule.specs.Document.{listed, found}
use Rattle.filter_rule.proofs.JsonLaws.{listed_items}
use Rattle.filter_rule.proofs.json.list.Goals as goal

pub returns-in-Some : goal.returns-in-Some
returns-in-Some c =
    let from = λ (o : Option Items). found {A = List Data} (option_map listed o) in
    let made : List Data → Result (List Data) Fault = λ ds. Ok ds in
    sym (ap from c.in-Some.ensures) ∙ ap made (listed_items (map view c.in-Some.values.now.items)) ∙ ap made (ap (map view) (sym c.as_slice.ensures.value))
