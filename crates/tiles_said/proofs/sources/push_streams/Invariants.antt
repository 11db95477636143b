use Rattle.std.proofs.Common.{◌≡◌, drop, map}
use Rattle.serde_json.specs.View.{view}
use Rattle.tiles_said.specs.Sources.{with_streams}
use Rattle.tiles_said.proofs.sources.push_streams.Given as goal

-- with those of the streams that are left they are all
abbrev pub invariant-loop-stream : goal.invariant-loop-stream
invariant-loop-stream l = with_streams l.keyspace l.sources.items (map view (drop l.stream-index l.streams)) ≡ with_streams l.keyspace l.fn.sources.items (map view l.streams)
