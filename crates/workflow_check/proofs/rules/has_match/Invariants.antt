use Rattle.std.proofs.Common.{◌≡◌, drop, map}
use Rattle.workflow_check.specs.Rules.{has_match}
use Rattle.workflow_check.proofs.rules.has_match.Given as goal

-- the rule matches one of the tables that are left, if any
abbrev pub invariant-loop-table : goal.invariant-loop-table
invariant-loop-table l = has_match (map (λ name. name.now) (drop l.table-index l.tables)) l.rule ≡ has_match (map (λ name. name.now) l.tables) l.rule
