use Rattle.std.proofs.Common.{◌≡◌, ◌≤◌, length, take}
use Rattle.vrepl_main.specs.InputList.{bytes_of}
use Rattle.vrepl_main.specs.Inputs.{AreGiven}
use Rattle.vrepl_main.proofs.input.read_inputs.Given as goal

-- as many are read as were asked for, each under its name
abbrev pub invariant-loop-name : goal.invariant-loop-name
invariant-loop-name g l = (length l.inputs.items ≡ l.name-index) × (l.name-index ≤ length l.names) × AreGiven (g.R.Source.gives l.rt) (take l.name-index l.names) (bytes_of l.inputs.items)
