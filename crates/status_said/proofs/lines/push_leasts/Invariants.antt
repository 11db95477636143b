use Rattle.std.proofs.Common.{◌≡◌, ◌++◌, drop, map, string_bytes}
use Rattle.status_said.specs.Lines.{least_lines}
use Rattle.status_said.proofs.lines.push_leasts.Given as goal

-- the text so far, and the lines of those that are left, are the whole
abbrev pub invariant-loop-shard : goal.invariant-loop-shard
invariant-loop-shard l = string_bytes l.text ++ least_lines l.stands (map (λ shard. shard.now) (drop l.shard-index l.shards)) ≡ string_bytes l.fn.text ++ least_lines l.stands (map (λ shard. shard.now) l.shards)
