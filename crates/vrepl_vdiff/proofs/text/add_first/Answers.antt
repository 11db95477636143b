use Rattle.vrepl_vdiff.proofs.text.add_first.Goals as goal

pub returns-in-Some : goal.returns-in-Some
returns-in-Some g c = rw c.in-Some.is c.add_key_line.ensures
