use Rattle.std.proofs.Common.{◌≡◌, drop, map}
use Rattle.status_said.specs.Shards.{with_streams}
use Rattle.status_said.proofs.least.push_streams.Given as goal

-- with those of the streams that are left they are all
abbrev pub invariant-loop-stream : goal.invariant-loop-stream
invariant-loop-stream l = with_streams (map (λ shard. shard.now) l.shards.items) (drop l.stream-index l.streams) ≡ with_streams (map (λ shard. shard.now) l.fn.shards.items) l.streams
