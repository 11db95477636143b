use Rattle.std.proofs.Common.{rules}
use Rattle.apply_core.proofs.board.Board.rows.Goals as goal

pub returns : goal.returns
returns c = search rules
