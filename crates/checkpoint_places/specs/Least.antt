-- The least of several positions: the one that lies within all of them (this profile).
use Rattle.std.specs.Prelude.{Bool, List, find, Option}
use Rattle.std.specs.List.{list_all}
use Rattle.gtid_set.specs.Position.{within_of}
use Rattle.gtid_set.specs.declared.interval.Interval.{Interval}

-- a position lies within all of these
abbrev pub is_least : List (List Interval) → List Interval → Bool
is_least positions position = list_all (within_of position) positions

abbrev pub least_of : List (List Interval) → Option (List Interval)
least_of positions = find (is_least positions) positions
