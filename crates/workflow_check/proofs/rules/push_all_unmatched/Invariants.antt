use Rattle.std.proofs.Common.{◌≡◌, ◌++◌, drop, map}
use Rattle.serde_json.specs.View.{view}
use Rattle.workflow_check.specs.Rules.{unmatched_in}
use Rattle.workflow_check.proofs.rules.push_all_unmatched.Given as goal

-- the notes so far, and those of the streams that are left, are the whole
abbrev pub invariant-loop-i : goal.invariant-loop-i
invariant-loop-i l = l.notes.items ++ unmatched_in (map (λ name. name.now) l.tables) l.i (map view (drop l.i l.streams)) ≡ l.fn.notes.items ++ unmatched_in (map (λ name. name.now) l.tables) 0 (map view l.streams)
