use Rattle.std.proofs.Common.{◌≡◌, ◌≤◌, length, map, take}
use Rattle.log_tables.specs.TableMap.{map_value}
use Rattle.log_groups.specs.Transaction.{map_of}
use Rattle.log_groups.proofs.open.map_of.Given as goal

-- none of the maps behind has the number
abbrev pub invariant-loop-left : goal.invariant-loop-left
invariant-loop-left l = (l.left ≤ length l.maps) × (map_of l.number (map map_value (take l.left l.maps)) ≡ map_of l.number (map map_value l.maps))

abbrev pub decreases-loop-left : goal.decreases-loop-left
decreases-loop-left l = l.left
