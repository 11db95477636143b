use Rattle.gtid_set.proofs.Parsed.{position-canonical}
use Rattle.gtid_set.proofs.laws.positions_are_canonical.Goals as goal

pub returns : goal.returns
returns c = λ text set e. position-canonical text set e
