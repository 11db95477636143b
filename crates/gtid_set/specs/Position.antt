-- Positions: a position is a set of pairs (uuid, number), a GTID set (MySQL manual, 'GTID Sets').
-- A set is seen as its intervals: the numbers of a uuid from a first one to a last one. A uuid is its number of 128 bits, high byte first.
use Rattle.std.specs.Prelude.{◌≡◌, ℕ, ◌+◌, ◌-◌, ◌^◌, ◌<◌, ◌≤◌, ◌==◌, ◌&&◌, ◌||◌, Bool, false, nat_lt, nat_le, min, max, if◌then◌else◌, IsTrue, List, [], ◌∷◌}
use Rattle.std.specs.Cmp.Lexicographic.{pointwise}
use Rattle.std.specs.List.{list_any, list_all, AllByRecursion}
use Rattle.gtid_set.specs.declared.interval.Interval.{Interval}

-- ---- membership

-- the interval holds the number of the uuid
abbrev pub holds : Interval → ℕ → ℕ → Bool
holds i uuid number = i.uuid == uuid && (nat_le i.first number && nat_le number i.last)

-- the pair is in the set: some interval holds it
abbrev pub has : List Interval → ℕ → ℕ → Bool
has set uuid number = list_any (λ i. holds i uuid number) set

-- subset: each pair of the one is in the other
abbrev pub IsWithin : List Interval → List Interval → Type 0
IsWithin some all = (uuid number : ℕ) → IsTrue (has some uuid number) → IsTrue (has all uuid number)

-- the same pairs
abbrev pub SamePairs : List Interval → List Interval → Type 0
SamePairs one other = (uuid number : ℕ) → has one uuid number ≡ has other uuid number

-- ---- the one list of intervals of a set

-- the greatest number of a GTID
abbrev pub last_number : ℕ
last_number = 2 ^ 63 - 2

-- some numbers of a uuid, from 1 to the greatest
pub record IsInterval (i : Interval) : Type 0 where
  pub uuid : i.uuid < 2 ^ 128
  pub from_one : 1 ≤ i.first
  pub holds_first : i.first ≤ i.last
  pub to_last : i.last ≤ last_number

-- one interval ends before another begins, and a number of the uuid lies between them where both are of one uuid
abbrev pub ends_before : Interval → Interval → Bool
ends_before one other = nat_lt one.uuid other.uuid || (one.uuid == other.uuid && nat_lt (one.last + 1) other.first)

-- one interval begins no later than another
abbrev pub starts_by : Interval → Interval → Bool
starts_by one other = nat_lt one.uuid other.uuid || (one.uuid == other.uuid && nat_le one.first other.first)

-- merged and rising: each interval ends before every later one, so none touch
abbrev pub IsCanonical : List Interval → Type 0
IsCanonical [] = Unit {0}
IsCanonical (i ∷ set) = IsInterval i × AllByRecursion (λ later. IsTrue (ends_before i later)) set × IsCanonical set

-- ---- union

-- the least interval that holds both, of one uuid
abbrev pub hull : Interval → Interval → Interval
hull one other = record { uuid = one.uuid; first = min one.first other.first; last = max one.last other.last }

-- a set and one interval more: what overlaps or touches it is merged with it
abbrev pub with_interval : List Interval → Interval → List Interval
with_interval [] new = new ∷ []
with_interval (i ∷ set) new =
    if ends_before i new then i ∷ with_interval set new else (if ends_before new i then new ∷ i ∷ set else with_interval set (hull new i))

-- a set and all intervals of a list
abbrev pub union_of : List Interval → List Interval → List Interval
union_of set [] = set
union_of set (i ∷ more) = union_of (with_interval set i) more

-- a set and one pair more
abbrev pub with_pair : List Interval → ℕ → ℕ → List Interval
with_pair set uuid number = with_interval set (record { uuid = uuid; first = number; last = number })

-- ---- subset, computed

-- each number of the one interval is in the other
abbrev pub holds_interval : Interval → Interval → Bool
holds_interval one other = one.uuid == other.uuid && (nat_le one.first other.first && nat_le other.last one.last)

-- each interval of the one set lies in one of the other
abbrev pub within_of : List Interval → List Interval → Bool
within_of some all = list_all (λ i. list_any (λ j. holds_interval j i) all) some

-- ---- what a call leaves

-- the pairs of both sets and no others
abbrev pub HasBoth : List Interval → List Interval → List Interval → Type 0
HasBoth one other both = (uuid number : ℕ) → has both uuid number ≡ (has one uuid number || has other uuid number)

-- the pairs of a set, one pair more and no others
abbrev pub HasPairMore : List Interval → ℕ → ℕ → List Interval → Type 0
HasPairMore old uuid number new = (u n : ℕ) → has new u n ≡ (has old u n || (u == uuid && n == number))

-- no number from the one before it to the one behind it is in the set
abbrev pub StandsApart : List Interval → ℕ → ℕ → Type 0
StandsApart set uuid number = (n : ℕ) → number ≤ n + 1 → n ≤ number + 1 → has set uuid n ≡ false

-- ---- equality, computed

-- the same uuid, first and last number
abbrev pub same_interval : Interval → Interval → Bool
same_interval one other = one.uuid == other.uuid && (one.first == other.first && one.last == other.last)

-- the same intervals in the same order
abbrev pub same_set : List Interval → List Interval → Bool
same_set one other = pointwise same_interval one other
