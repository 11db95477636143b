-- What private code alone needs.
use Rattle.std.specs.Prelude.{ℕ, Bool, true, false, List, ◌++◌, Option, None, Some, Result, Ok, Err}
use Rattle.step_script.specs.declared.script.ScriptStep.{ScriptStep}
use Rattle.step_script.specs.declared.line.Line.{Line}
use Rattle.step_script.specs.declared.line.Line.TheVariants as line

-- steps in front of those of further lines
abbrev pub steps_before : List ScriptStep → Result (List ScriptStep) ℕ → Result (List ScriptStep) ℕ
steps_before front (Ok steps) = Ok (front ++ steps)
steps_before front (Err bad) = Err bad

-- a line that is no step, and isn't skipped
abbrev pub is_bad : Line → Bool
is_bad line.Bad = true
is_bad line.Skipped = false
is_bad (line.Step found) = false

-- the first bad line, if there is one
abbrev pub bad_line_of : Result (List ScriptStep) ℕ → Option ℕ
bad_line_of (Ok steps) = None
bad_line_of (Err number) = Some number
