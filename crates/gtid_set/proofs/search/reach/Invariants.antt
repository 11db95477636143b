use Rattle.std.proofs.Common.{◌-◌, ◌≤◌, length, take}
use Rattle.gtid_set.specs.Inner.Order.{AllEndBefore}
use Rattle.gtid_set.proofs.search.reach.Given as goal

abbrev pub invariant-loop-step : goal.invariant-loop-step
invariant-loop-step l = record {
  bound : l.low ≤ length l.set;
  some : 1 ≤ l.step;
  passed : AllEndBefore l.interval (take l.low l.set);
}

abbrev pub decreases-loop-step : goal.decreases-loop-step
decreases-loop-step l = length l.set - l.low
