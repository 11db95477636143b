use Rattle.std.proofs.Common.{◌≡◌, ℕ, ◌+◌, ◌-◌, ◌≤◌, ◌||◌, length, drop}
use Rattle.gtid_set.specs.Position.{has, IsCanonical}
use Rattle.gtid_set.specs.Inner.Order.{AllStartOver}
use Rattle.gtid_set.proofs.merge.union.Given as goal

-- the pairs so far and those of what is left are those of both sets
abbrev pub invariant-loop-i : goal.invariant-loop-i
invariant-loop-i l = record {
  canonical : IsCanonical l.both.items;
  one : l.i ≤ length l.one;
  other : l.j ≤ length l.other;
  starts_one : AllStartOver l.both.items (drop l.i l.one);
  starts_other : AllStartOver l.both.items (drop l.j l.other);
  pairs : (u n : ℕ) → (has l.both.items u n || (has (drop l.i l.one) u n || has (drop l.j l.other) u n)) ≡ (has l.one u n || has l.other u n);
}

abbrev pub decreases-loop-i : goal.decreases-loop-i
decreases-loop-i l = (length l.one - l.i) + (length l.other - l.j)
