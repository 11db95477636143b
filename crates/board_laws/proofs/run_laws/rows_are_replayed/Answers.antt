use Rattle.board_laws.proofs.Replays.{replayed}
use Rattle.board_laws.proofs.run_laws.rows_are_replayed.Goals as goal

pub returns : goal.returns
returns c = replayed
