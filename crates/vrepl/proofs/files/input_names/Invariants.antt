use Rattle.std.proofs.Common.{◌≡◌, take, map}
use Rattle.vrepl_main.specs.declared.input.InputName.TheVariants.{File}
use Rattle.vrepl.proofs.files.input_names.Given as goal

-- the names so far are of the first files
abbrev pub invariant-loop-file : goal.invariant-loop-file
invariant-loop-file l = l.names.items ≡ map File (take l.file-index l.files)
