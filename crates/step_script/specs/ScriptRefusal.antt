-- Why a script of steps on a board is refused.
use Rattle.std.specs.Prelude.{◌≡◌, ℕ, List, Result, Err}
use Rattle.step_script.specs.declared.script.ScriptStep.{ScriptStep}
use Rattle.step_script.specs.declared.script.ScriptFault.{ScriptFault}
use Rattle.step_script.specs.declared.script.ScriptFault.TheVariants.{BadLine, Memory}

-- the number is that of the first bad line, unless memory ran out
abbrev pub RefusesScript : ScriptFault → Result (List ScriptStep) ℕ → Type 0
RefusesScript (BadLine number) steps = steps ≡ Err number
RefusesScript Memory steps = Unit {0}
