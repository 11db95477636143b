-- The computed equality of sets is equality both ways round and along a chain.
use Rattle.std.specs.Prelude.{nat_eq}
use Rattle.std.specs.Cmp.{IsPartialEquivalence, and_per, nat_eq_equiv, on_per, partial_equiv_from_equiv}
use Rattle.std.specs.Cmp.Lexicographic.{lists_per}
use Rattle.gtid_set.specs.declared.interval.Interval.{Interval}
use Rattle.gtid_set.specs.Position.{same_interval, same_set}

numbers : IsPartialEquivalence nat_eq
numbers = partial_equiv_from_equiv nat_eq_equiv

same_interval-laws : IsPartialEquivalence same_interval
same_interval-laws = and_per (on_per (λ (i : Interval). i.uuid) numbers) (and_per (on_per (λ (i : Interval). i.first) numbers) (on_per (λ (i : Interval). i.last) numbers))

-- the same of lists
pub same_set-laws : IsPartialEquivalence same_set
same_set-laws = lists_per same_interval-laws
