use Rattle.std.proofs.Common.{◌≡◌, take, map}
use Rattle.vrepl_main.specs.declared.input.InputName.TheVariants.{File}
use Rattle.vrepl_main.proofs.input_list.file_names.Given as goal

-- the files so far
abbrev pub invariant-loop-file : goal.invariant-loop-file
invariant-loop-file l = l.names.items ≡ map File (take l.file-index l.files)
