-- How intervals are kept, and the intervals of a text while it is read.
use Rattle.std.specs.Prelude.{◌≡◌, ◌≤◌, List, [], ◌∷◌, length, Result, Ok, Err}
use Rattle.gtid_set.specs.declared.interval.Interval.{Interval}
use Rattle.gtid_set.specs.declared.intervals.Intervals.{Intervals}
use Rattle.gtid_set.specs.declared.intervals.Intervals.TheVariants.{Empty, One, Many}
use Rattle.gtid_set.specs.declared.named.Named.{Named}
use Rattle.gtid_set.specs.declared.named.Named.TheVariants.{Kept, Wanting}
use Rattle.gtid_set.specs.declared.fault.GtidFault.{GtidFault}
use Rattle.gtid_set.specs.declared.fault.GtidFault.TheVariants.{Memory}

-- the intervals in their order
abbrev pub intervals_listed : Intervals → List Interval
intervals_listed Empty = []
intervals_listed (One only) = only ∷ []
intervals_listed (Many many) = many.items

-- the intervals of a text so far are kept, or there are two or more and memory for them was wanting
abbrev pub Keeps : Named → List Interval → Type 0
Keeps (Kept intervals) front = intervals_listed intervals ≡ front
Keeps Wanting front = 2 ≤ length front

-- a step of reading leaves what the definition gives, or answers its fault
abbrev pub ReadsIntervals : {X : Type 0} → Result X GtidFault → Named → Result (List Interval) GtidFault → Type 0
ReadsIntervals (Ok x) named reading = (all : List Interval) × (reading ≡ Ok all) × Keeps named all
ReadsIntervals (Err fault) named reading = reading ≡ Err fault

-- a text is refused for want of memory where it names two intervals or more, else by its own fault
abbrev pub RefusedBy : GtidFault → Result (List Interval) GtidFault → Type 0
RefusedBy Memory reading = (all : List Interval) × (reading ≡ Ok all) × (2 ≤ length all)
RefusedBy fault reading = reading ≡ Err fault
