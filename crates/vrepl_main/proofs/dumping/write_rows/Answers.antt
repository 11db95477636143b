use Rattle.vrepl_main.proofs.dumping.write_rows.Goals as goal

pub returns : goal.returns
returns g c = rw (← c.target.ensures) c.write_target_dump.ensures
