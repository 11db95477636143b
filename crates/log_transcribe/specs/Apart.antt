-- Whether a transaction of a log is one that a position has, or none of it (this profile).
use Rattle.std.specs.Prelude.{ℕ, ◌==◌, ◌&&◌, not, nat_le, min, max, if◌then◌else◌, Bool, false, IsTrue, List}
use Rattle.std.specs.List.{list_any}
use Rattle.gtid_set.specs.declared.interval.Interval.{Interval}
use Rattle.gtid_set.specs.Position.{has, holds_interval, within_of}

-- the numbers that two intervals share
abbrev pub shared : Interval → Interval → Interval
shared one other = record { uuid = one.uuid; first = max one.first other.first; last = min one.last other.last }

abbrev pub meets : Interval → Interval → Bool
meets one other = one.uuid == other.uuid && nat_le (max one.first other.first) (min one.last other.last)

-- two intervals share numbers that aren't in the position before
abbrev pub clashes : List Interval → Interval → Interval → Bool
clashes before one other = meets one other && not (list_any (λ k. holds_interval k (shared one other)) before)

-- a position has numbers of a transaction, which are those of the position behind it that aren't in the one before it
abbrev pub overlaps : List Interval → List Interval → List Interval → Bool
overlaps had before position = if within_of had before then false else list_any (λ one. list_any (λ other. clashes before one other) position) had

-- the position has none of them
abbrev pub IsApart : List Interval → List Interval → List Interval → Type 0
IsApart had before position = (uuid number : ℕ) → IsTrue (has had uuid number) → IsTrue (has position uuid number) → IsTrue (has before uuid number)
