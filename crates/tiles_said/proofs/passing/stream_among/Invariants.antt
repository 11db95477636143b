use Rattle.std.proofs.Common.{◌≡◌, drop, map}
use Rattle.serde_json.specs.View.{view}
use Rattle.tiles_said.specs.Passing.{stream_among}
use Rattle.tiles_said.proofs.passing.stream_among.Given as goal

-- it is that of the streams that are left
abbrev pub invariant-loop-stream : goal.invariant-loop-stream
invariant-loop-stream l = stream_among l.shard (map view (drop l.stream-index l.streams)) ≡ stream_among l.shard (map view l.streams)
