use Rattle.board_laws.proofs.Sources.{all_show}
use Rattle.board_laws.proofs.run_laws.boards_show_their_sources.Goals as goal

pub returns : goal.returns
returns c = all_show
