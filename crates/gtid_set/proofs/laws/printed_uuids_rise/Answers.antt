use Rattle.gtid_set.proofs.ReadSet.{printed-uuids-rise}
use Rattle.gtid_set.proofs.laws.printed_uuids_rise.Goals as goal

pub returns : goal.returns
returns c = λ set p. printed-uuids-rise set p
