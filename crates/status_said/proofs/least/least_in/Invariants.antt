use Rattle.std.proofs.Common.{◌≡◌, ◌++◌, drop, map}
use Rattle.status_said.specs.Shards.{positions_of}
use Rattle.status_said.proofs.least.least_in.Given as goal

-- those so far, and those of the checkpoints that are left, are all
abbrev pub invariant-loop-stand : goal.invariant-loop-stand
invariant-loop-stand l = map (λ one. one.now) l.positions.items ++ positions_of l.shard (drop l.stand-index l.stands) ≡ positions_of l.shard l.stands
