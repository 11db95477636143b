use Rattle.event_laws.proofs.AlikeLaws.{go_on_alike}
use Rattle.event_laws.proofs.laws.events_go_on_alike.Goals as goal

pub returns : goal.returns
returns c = go_on_alike
