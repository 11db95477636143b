use Rattle.std.proofs.Common.{◌≡◌, ◌≤◌, [], length, take, drop}
use Rattle.gtid_set.specs.Position.{IsCanonical, union_of}
use Rattle.gtid_set.specs.Inner.Order.{AllStartOver}
use Rattle.gtid_set.proofs.merge.merge.Given as goal

-- the set so far and what is left, which stands where it stood, make the union
abbrev pub invariant-loop-place : goal.invariant-loop-place
invariant-loop-place l = record {
  order : l.kept ≤ l.place;
  length : length l.intervals.items ≡ length l.fn.intervals.items;
  left : drop l.place l.intervals.items ≡ drop l.place l.fn.intervals.items;
  canonical : IsCanonical (take l.kept l.intervals.items);
  starts : AllStartOver (take l.kept l.intervals.items) (drop l.place l.fn.intervals.items);
  union : union_of (take l.kept l.intervals.items) (drop l.place l.fn.intervals.items) ≡ union_of [] l.fn.intervals.items;
}
