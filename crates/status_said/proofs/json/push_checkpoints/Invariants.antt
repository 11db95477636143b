use Rattle.std.proofs.Common.{◌≡◌, ◌++◌, drop, map}
use Rattle.serde_json.specs.View.{view}
use Rattle.status_said.specs.Json.{checkpoints_from}
use Rattle.status_said.proofs.json.push_checkpoints.Given as goal

-- the values so far, and those of what is left, are the whole
abbrev pub invariant-loop-i : goal.invariant-loop-i
invariant-loop-i l = map view l.values.items ++ checkpoints_from (map (λ name. name.now) l.names) l.i (drop l.i l.stands) ≡ map view l.fn.values.items ++ checkpoints_from (map (λ name. name.now) l.names) 0 l.stands
