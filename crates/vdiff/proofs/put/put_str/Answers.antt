use Rattle.vdiff.proofs.put.put_str.Goals as goal

pub returns : goal.returns
returns g c = rw c.as_bytes.ensures.value at c.put.ensures
