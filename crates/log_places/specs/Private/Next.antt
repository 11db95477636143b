-- A position that has all numbers but the last of those that a transaction adds.
use Rattle.std.specs.Prelude.{◌≡◌, ◌-◌, ◌==◌, ◌&&◌, nat_le, Bool, true, false, List}
use Rattle.std.specs.List.{list_any}
use Rattle.gtid_set.specs.declared.interval.Interval.{Interval}
use Rattle.gtid_set.specs.Position.{IsCanonical, has}

-- the one interval ends before the last of these numbers, and has all others of them
abbrev pub reaches_up_to : Interval → Interval → Bool
reaches_up_to added one = one.uuid == added.uuid && (nat_le one.first added.first && one.last == added.last - 1)

-- a set has all of these numbers but the last
pub record LacksTheLast (set : List Interval) (added : Interval) : Type 0 where
  pub canonical : IsCanonical set
  pub others : list_any (reaches_up_to added) set ≡ true
  pub last : has set added.uuid added.last ≡ false
