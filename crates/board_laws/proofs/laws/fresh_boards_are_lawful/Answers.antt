use Rattle.board_laws.proofs.Fresh.{fresh-lawful}
use Rattle.board_laws.proofs.laws.fresh_boards_are_lawful.Goals as goal

pub returns : goal.returns
returns c = fresh-lawful
