use Rattle.vrepl_main.proofs.comparing.print_first.Goals as goal

pub returns-in-Some : goal.returns-in-Some
returns-in-Some g c = rw c.in-Some.is c.print_first_line.ensures
