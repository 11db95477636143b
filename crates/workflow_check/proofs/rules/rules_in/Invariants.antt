use Rattle.std.proofs.Common.{◌≡◌, take, map}
use Rattle.serde_json.specs.View.{view}
use Rattle.workflow_check.specs.Rules.{rule_in}
use Rattle.workflow_check.proofs.rules.rules_in.Given as goal

-- the rules so far are those of the first values
abbrev pub invariant-loop-value : goal.invariant-loop-value
invariant-loop-value l = l.rules.items ≡ map rule_in (map view (take l.value-index l.values))
