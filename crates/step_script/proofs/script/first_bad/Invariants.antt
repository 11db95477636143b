use Rattle.std.proofs.Common.{◌≡◌, ◌+◌, ◌≤◌, length}
use Rattle.std.specs.Prelude.{◌==◌}
use Rattle.std.specs.List.{slice_split}
use Rattle.step_script.specs.ScriptLines.{steps_from, script_steps}
use Rattle.step_script.specs.Private.{bad_line_of}
use Rattle.step_script.proofs.script.first_bad.Given as goal

-- the first bad line of what is left is that of the script
abbrev pub invariant-loop-rest : goal.invariant-loop-rest
invariant-loop-rest l = record {
  fits : l.number + length l.text ≤ length l.script + 1;
  rest : bad_line_of (steps_from l.number (slice_split (λ b. b == 10) l.text)) ≡ bad_line_of (script_steps l.script);
}

abbrev pub decreases-loop-rest : goal.decreases-loop-rest
decreases-loop-rest l = length l.text
