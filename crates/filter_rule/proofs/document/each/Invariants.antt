use Rattle.std.proofs.Common.{◌≡◌, drop, map}
use Rattle.serde_json.specs.View.{view}
use Rattle.list_laws.specs.Outcome.{each}
use Rattle.filter_rule.proofs.EachLaws.{rest_of_each}
use Rattle.filter_rule.proofs.document.each.Given as goal

-- what is found, and what the rest says, are what all values say
abbrev pub invariant-loop-value : goal.invariant-loop-value
invariant-loop-value g l =
    rest_of_each (g.T.FromJson.reads l.hash) l.found.items (drop l.value-index (map view l.values)) ≡ each (g.T.FromJson.reads l.hash) (map view l.values)
