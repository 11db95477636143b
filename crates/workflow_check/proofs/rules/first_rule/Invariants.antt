use Rattle.std.proofs.Common.{◌≡◌, drop}
use Rattle.workflow_check.specs.Rules.{first_rule}
use Rattle.workflow_check.proofs.rules.first_rule.Given as goal

-- the first is that of the rules that are left
abbrev pub invariant-loop-rule : goal.invariant-loop-rule
invariant-loop-rule l = first_rule (drop l.rule-index l.rules) l.table ≡ first_rule l.rules l.table
