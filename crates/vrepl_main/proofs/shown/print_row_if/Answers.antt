use Rattle.printing.proofs.PrintLaws.{adds_none}
use Rattle.vrepl_main.proofs.shown.print_row_if.Goals as goal

pub returns-in-None : goal.returns-in-None
returns-in-None g c = rw c.in-None.is (adds_none _ _)
