use Rattle.std.proofs.Common.{◌≡◌, drop, map}
use Rattle.std.specs.Option.{option_map}
use Rattle.serde_json.specs.View.{view}
use Rattle.workflow_check.specs.Rules.{first_rule, rule_in, rules_in}
use Rattle.tiles_said.proofs.json.first_filter.Given as goal

-- the first is that of the rules that are left
abbrev pub invariant-loop-rule : goal.invariant-loop-rule
invariant-loop-rule l =
    option_map (λ rule. rule.filter) (first_rule (map rule_in (map view (drop l.rule-index l.rules))) l.table) ≡ option_map (λ rule. rule.filter) (first_rule (rules_in (view l.stream)) l.table)
