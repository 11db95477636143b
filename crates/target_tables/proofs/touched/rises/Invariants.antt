use Rattle.std.proofs.Common.{◌-◌, ◌<◌, length, take}
use Rattle.target_tables.specs.Rising.{IsRising}
use Rattle.target_tables.proofs.touched.rises.Given as goal

-- the first ones rise
abbrev pub invariant-loop-next : goal.invariant-loop-next
invariant-loop-next g l = (0 < l.next) × IsRising g.K.Ord.cmp (take l.next l.touches)

abbrev pub decreases-loop-next : goal.decreases-loop-next
decreases-loop-next g l = length l.touches - l.next
