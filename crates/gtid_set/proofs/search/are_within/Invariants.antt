use Rattle.std.proofs.Common.{◌≡◌, ◌≤◌, length, take, drop}
use Rattle.gtid_set.specs.Position.{within_of}
use Rattle.gtid_set.proofs.Covered.{AllPassed}
use Rattle.gtid_set.proofs.search.are_within.Given as goal

-- what was passed ends before all that is left, and the answer is that of what is left
abbrev pub invariant-loop-interval : goal.invariant-loop-interval
invariant-loop-interval l = record {
  bound : l.place ≤ length l.all;
  passed : AllPassed (take l.place l.all) (drop l.interval-index l.some);
  answer : within_of (drop l.interval-index l.some) l.all ≡ within_of l.some l.all;
}
