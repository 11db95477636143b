use Rattle.log_groups.proofs.StandLaws.{transactions-stand}
use Rattle.log_groups.proofs.laws.transactions_stand.Goals as goal

pub returns : goal.returns
returns c = transactions-stand
