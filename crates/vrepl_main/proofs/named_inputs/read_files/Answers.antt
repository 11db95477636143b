use Rattle.std.proofs.lemmas.List.{length-map}
use Rattle.vrepl_main.specs.declared.input.InputName.TheVariants.{File}
use Rattle.vrepl_main.proofs.named_inputs.read_files.Goals as goal

pub returns-clause-all : goal.returns-clause-all
returns-clause-all g c = rw (c.deref.ensures.value, c.in_ok-names.ensures, length-map c.args.files.now File) at c.read_inputs.ensures.all

pub returns-clause-refused : goal.returns-clause-refused
returns-clause-refused g c = rw (c.deref.ensures.value, c.in_ok-names.ensures) at c.read_inputs.ensures.refused
