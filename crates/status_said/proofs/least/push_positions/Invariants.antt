use Rattle.std.proofs.Common.{◌≡◌, ◌++◌, drop, map}
use Rattle.status_said.specs.Shards.{positions_in}
use Rattle.status_said.proofs.least.push_positions.Given as goal

-- those so far, and those of the streams that are left, are all
abbrev pub invariant-loop-stream : goal.invariant-loop-stream
invariant-loop-stream l = map (λ one. one.now) l.positions.items ++ positions_in l.shard (drop l.stream-index l.streams) ≡ map (λ one. one.now) l.fn.positions.items ++ positions_in l.shard l.streams
