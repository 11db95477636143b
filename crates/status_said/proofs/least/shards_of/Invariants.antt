use Rattle.std.proofs.Common.{◌≡◌, [], drop, map}
use Rattle.status_said.specs.Shards.{shards_from}
use Rattle.status_said.proofs.least.shards_of.Given as goal

-- with those of the checkpoints that are left they are all
abbrev pub invariant-loop-stand : goal.invariant-loop-stand
invariant-loop-stand l = shards_from (map (λ shard. shard.now) l.shards.items) (drop l.stand-index l.stands) ≡ shards_from [] l.stands
