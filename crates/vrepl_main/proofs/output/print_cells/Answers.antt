use Rattle.dump.specs.Cells.{cells}
use Rattle.vrepl_main.proofs.AddLaws.{added}
use Rattle.vrepl_main.proofs.output.print_cells.Goals as goal

pub returns : goal.returns
returns g c = added c.add_cells.result _ c.args.text.now _ c.add_cells.new.text (cells c.args.columns) c.add_cells.ensures
