use Rattle.live_core.proofs.LiveLaws.{ended-run}
use Rattle.live_core.proofs.laws.boards_at_their_ends_run.Goals as goal

pub returns : goal.returns
returns c = ended-run
