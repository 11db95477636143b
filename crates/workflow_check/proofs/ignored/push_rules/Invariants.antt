use Rattle.std.proofs.Common.{◌≡◌, ◌++◌, drop, map}
use Rattle.serde_json.specs.View.{view}
use Rattle.workflow_check.specs.Ignored.{rules_ignored}
use Rattle.workflow_check.proofs.ignored.push_rules.Given as goal

-- the notes so far, and those of the rules that are left, are the whole
abbrev pub invariant-loop-j : goal.invariant-loop-j
invariant-loop-j l = l.notes.items ++ rules_ignored l.list l.j (map view (drop l.j l.rules)) ≡ l.fn.notes.items ++ rules_ignored l.list 0 (map view l.rules)
