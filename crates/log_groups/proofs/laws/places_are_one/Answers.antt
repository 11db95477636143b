use Rattle.log_groups.proofs.OneLaws.{places-one}
use Rattle.log_groups.proofs.laws.places_are_one.Goals as goal

pub returns : goal.returns
returns c = places-one
