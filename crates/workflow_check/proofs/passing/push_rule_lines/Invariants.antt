use Rattle.std.proofs.Common.{◌≡◌, ◌++◌, drop, map}
use Rattle.std.specs.String.{string_bytes}
use Rattle.serde_json.specs.View.{view}
use Rattle.workflow_check.specs.Passing.{rule_lines}
use Rattle.workflow_check.proofs.passing.push_rule_lines.Given as goal

-- the text so far, and the lines of the streams that are left, are the whole
abbrev pub invariant-loop-i : goal.invariant-loop-i
invariant-loop-i l = string_bytes l.text ++ rule_lines (map view l.tables) l.i (map view (drop l.i l.streams)) ≡ string_bytes l.fn.text ++ rule_lines (map view l.tables) 0 (map view l.streams)
