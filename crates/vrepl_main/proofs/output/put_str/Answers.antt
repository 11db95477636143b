use Rattle.vrepl_main.proofs.output.put_str.Goals as goal

pub returns : goal.returns
returns g c = rw c.as_bytes.ensures.value at c.put_all.ensures
