use Rattle.std.proofs.Common.{◌≡◌, ◌++◌, drop, map}
use Rattle.serde_json.specs.View.{view}
use Rattle.status_said.specs.Json.{stream_data}
use Rattle.status_said.proofs.json.push_streams.Given as goal

-- the values so far, and those of what is left, are the whole
abbrev pub invariant-loop-stream : goal.invariant-loop-stream
invariant-loop-stream l = map view l.values.items ++ map stream_data (drop l.stream-index l.streams) ≡ map view l.fn.values.items ++ map stream_data l.streams
