use Rattle.std.proofs.Common.{◌≡◌, ◌++◌, drop, map}
use Rattle.workflow_check.specs.Rules.{unmatched_from}
use Rattle.workflow_check.proofs.rules.push_unmatched.Given as goal

-- the notes so far, and those of the rules that are left, are the whole
abbrev pub invariant-loop-j : goal.invariant-loop-j
invariant-loop-j l = l.notes.items ++ unmatched_from (map (λ name. name.now) l.tables) l.list l.j (drop l.j l.rules) ≡ l.fn.notes.items ++ unmatched_from (map (λ name. name.now) l.tables) l.list 0 l.rules
