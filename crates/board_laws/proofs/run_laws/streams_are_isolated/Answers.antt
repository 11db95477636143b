use Rattle.board_laws.proofs.Isolated.{isolated, same-rows_alone}
use Rattle.board_laws.proofs.Replays.{alone-is}
use Rattle.board_laws.proofs.run_laws.streams_are_isolated.Goals as goal

pub returns-clause-isolated : goal.returns-clause-isolated
returns-clause-isolated c = isolated

pub returns-clause-rows : goal.returns-clause-rows
returns-clause-rows c = same-rows_alone

pub returns-clause-alone : goal.returns-clause-alone
returns-clause-alone c = alone-is
