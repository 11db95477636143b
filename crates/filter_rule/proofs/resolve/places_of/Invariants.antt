use Rattle.std.proofs.Common.{◌≡◌, drop}
use Rattle.list_laws.specs.Outcome.{each}
use Rattle.filter_rule.specs.Resolving.{place_in}
use Rattle.filter_rule.proofs.EachLaws.{rest_of_each}
use Rattle.filter_rule.proofs.resolve.places_of.Given as goal

-- what is found, and the rest's places, are the places of all names
abbrev pub invariant-loop-name : goal.invariant-loop-name
invariant-loop-name l =
    rest_of_each (place_in l.table l.columns) l.places.items (drop l.name-index l.names) ≡ each (place_in l.table l.columns) l.names
