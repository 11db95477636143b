use Rattle.std.proofs.Common.{◌≡◌, ◌+◌, ◌≤◌, length}
use Rattle.std.specs.Prelude.{◌==◌}
use Rattle.std.specs.List.{slice_split}
use Rattle.step_script.specs.ScriptLines.{steps_from, script_steps}
use Rattle.step_script.specs.Private.{steps_before}
use Rattle.step_script.proofs.script.all_steps.Given as goal

-- the steps so far, and the lines still to come behind them, are the script
abbrev pub invariant-loop-steps : goal.invariant-loop-steps
invariant-loop-steps l = record {
  fits : l.number + length l.text ≤ length l.script + 1;
  rest : steps_before l.steps.items (steps_from l.number (slice_split (λ b. b == 10) l.text)) ≡ script_steps l.script;
}

abbrev pub decreases-loop-steps : goal.decreases-loop-steps
decreases-loop-steps l = length l.text
