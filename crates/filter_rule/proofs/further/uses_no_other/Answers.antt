use Rattle.std.proofs.Common.{List, map, sym, ap, ◌∙◌, false}
use Rattle.std.specs.List.{list_all}
use Rattle.std.specs.Option.{option_map_or}
use Rattle.serde_json.specs.View.{view}
use Rattle.filter_rule.specs.Document.{is_hash}
use Rattle.std.proofs.lemmas.List.Folds.{list_all-map}
use Rattle.filter_rule.proofs.further.uses_no_other.Goals as goal

pub returns-in-Some : goal.returns-in-Some
returns-in-Some c =
    c.are_hash.ensures ∙ sym (list_all-map is_hash view c.in-Some.values.now) ∙ ap (λ names. option_map_or (λ all. list_all is_hash all) names false) c.in-Some.ensures
