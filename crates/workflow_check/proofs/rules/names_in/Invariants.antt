use Rattle.std.proofs.Common.{◌≡◌, take, map}
use Rattle.serde_json.specs.View.{view}
use Rattle.workflow_check.specs.Rules.{names_in}
use Rattle.workflow_check.proofs.rules.names_in.Given as goal

-- the names so far are those of the first tables
abbrev pub invariant-loop-table : goal.invariant-loop-table
invariant-loop-table l = map (λ name. name.now) l.names.items ≡ names_in (map view (take l.table-index l.tables))
