-- The order of intervals by their beginnings.
use Rattle.std.specs.Prelude.{ℕ, zero, suc, min, max, IsTrue, if◌then◌else◌, List, [], ◌∷◌}
use Rattle.std.specs.List.{AllByRecursion}
use Rattle.gtid_set.specs.declared.interval.Interval.{Interval}
use Rattle.gtid_set.specs.Position.{starts_by, ends_before}

-- each interval of the set begins no later than this one
abbrev pub AllStartBy : Interval → List Interval → Type 0
AllStartBy next set = AllByRecursion (λ i. IsTrue (starts_by i next)) set

-- each interval of the set begins no later than each of the list
abbrev pub AllStartOver : List Interval → List Interval → Type 0
AllStartOver set list = AllByRecursion (λ next. AllStartBy next set) list

-- each interval begins no later than every later one
abbrev pub IsRisingByStart : List Interval → Type 0
IsRisingByStart [] = Unit {0}
IsRisingByStart (i ∷ more) = AllByRecursion (λ later. IsTrue (starts_by i later)) more × IsRisingByStart more

-- each interval of the set ends before this one
abbrev pub AllEndBefore : Interval → List Interval → Type 0
AllEndBefore next set = AllByRecursion (λ i. IsTrue (ends_before i next)) set

-- the interval with one number more
abbrev pub wider : Interval → ℕ → Interval
wider i number = record { uuid = i.uuid; first = min i.first number; last = max i.last number }

-- an interval in front of those behind it, merged with the next one where they touch
abbrev pub merged_front : Interval → List Interval → List Interval
merged_front i [] = i ∷ []
merged_front i (next ∷ set) =
    if ends_before i next then i ∷ next ∷ set else record { uuid = i.uuid; first = i.first; last = next.last } ∷ set

-- the interval at a place with one number more, merged with the next one where they touch
abbrev pub widened : List Interval → ℕ → ℕ → List Interval
widened [] place number = []
widened (i ∷ set) zero number = merged_front (wider i number) set
widened (i ∷ set) (suc place) number = i ∷ widened set place number
