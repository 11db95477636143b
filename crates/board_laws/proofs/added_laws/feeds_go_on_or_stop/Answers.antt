use Rattle.board_laws.proofs.AddedStates.{not-stopped}
use Rattle.board_laws.proofs.added_laws.feeds_go_on_or_stop.Goals as goal

pub returns : goal.returns
returns c = not-stopped
