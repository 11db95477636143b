use Rattle.std.proofs.Common.{◌≡◌, take, map}
use Rattle.serde_json.specs.View.{view}
use Rattle.workflow_check.proofs.shape.names_of.Given as goal

-- the names so far are those of the first items
abbrev pub invariant-loop-value : goal.invariant-loop-value
invariant-loop-value g l = map (λ one. one.now) l.names.items ≡ map g.T.Named.named (map view (take l.value-index l.values))
