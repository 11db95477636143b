use Rattle.std.proofs.Common.{◌≡◌, ◌++◌, drop, map}
use Rattle.serde_json.specs.View.{view}
use Rattle.status_said.specs.Json.{least_data}
use Rattle.status_said.proofs.json.push_leasts.Given as goal

-- the values so far, and those of what is left, are the whole
abbrev pub invariant-loop-shard : goal.invariant-loop-shard
invariant-loop-shard l = map view l.values.items ++ map (least_data l.stands) (map (λ shard. shard.now) (drop l.shard-index l.shards)) ≡ map view l.fn.values.items ++ map (least_data l.stands) (map (λ shard. shard.now) l.shards)
