use Rattle.std.proofs.Common.{map, take}
use Rattle.std.specs.Arc.{arc_value}
use Rattle.compact_limit.specs.Least.{IsLeast}
use Rattle.compact_limit.specs.Limit.{bytes_in, StandsAt}
use Rattle.compact_limit.proofs.limit.least_of.Given as goal

-- the least of the group that is named and of those at which the checkpoints so far stand
abbrev pub invariant-loop-checkpoint : goal.invariant-loop-checkpoint
invariant-loop-checkpoint l = IsLeast (StandsAt (map arc_value l.plans) l.feed l.stream) l.named (bytes_in (take l.checkpoint-index l.checkpoints)) l.number
