use Rattle.board_laws.proofs.FedBoards.{fed_shows, run-fed, reply-fed, grown-fed}
use Rattle.board_laws.proofs.run_laws.fed_boards_show_all.Goals as goal

pub returns-clause-show : goal.returns-clause-show
returns-clause-show c = fed_shows

pub returns-clause-step : goal.returns-clause-step
returns-clause-step c = reply-fed

pub returns-clause-run : goal.returns-clause-run
returns-clause-run c = run-fed

pub returns-clause-grow : goal.returns-clause-grow
returns-clause-grow c = grown-fed
