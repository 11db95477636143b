use Rattle.std.proofs.Common.{List, map, sym, ap, ◌∙◌, false}
use Rattle.std.specs.List.{list_any}
use Rattle.std.specs.Option.{option_map_or}
use Rattle.serde_json.specs.View.{view}
use Rattle.filter_rule.specs.Document.{is_hash}
use Rattle.filter_rule.proofs.FurtherLaws.{list_any-map}
use Rattle.filter_rule.proofs.further.uses_hash.Goals as goal

pub returns-in-Some : goal.returns-in-Some
returns-in-Some c =
    c.have_hash.ensures ∙ sym (list_any-map is_hash view c.in-Some.values.now) ∙ ap (λ names. option_map_or (λ all. list_any is_hash all) names false) c.in-Some.ensures
