use Rattle.std.proofs.Common.{◌≡◌, drop, map}
use Rattle.status_said.specs.Shards.{has_shard}
use Rattle.status_said.proofs.least.has_shard.Given as goal

-- it is among those that are left, if among any
abbrev pub invariant-loop-other : goal.invariant-loop-other
invariant-loop-other l = has_shard (map (λ shard. shard.now) (drop l.other-index l.shards)) l.shard ≡ has_shard (map (λ shard. shard.now) l.shards) l.shard
