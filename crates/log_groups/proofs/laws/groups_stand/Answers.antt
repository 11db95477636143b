use Rattle.log_groups.proofs.GroupLaws.{groups-stand}
use Rattle.log_groups.proofs.laws.groups_stand.Goals as goal

pub returns : goal.returns
returns c = groups-stand
