use Rattle.std.proofs.Common.{◌≡◌, length}
use Rattle.list_laws.specs.Outcome.{each}
use Rattle.filter_rule.specs.Resolving.{place_in}
use Rattle.filter_rule.proofs.EachLaws.{rest_of_each}
use Rattle.filter_rule.proofs.decide.listed_places.Given as goal

-- the places so far, and those of the columns that are left, are all places
abbrev pub invariant-loop-name : goal.invariant-loop-name
invariant-loop-name l = rest_of_each (place_in l.table l.columns) l.places.items l.left ≡ each (place_in l.table l.columns) l.list

abbrev pub decreases-loop-name : goal.decreases-loop-name
decreases-loop-name l = length l.left
