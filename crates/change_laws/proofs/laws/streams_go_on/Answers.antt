use Rattle.change_laws.proofs.GoingOn.{stands-still, step-moves, others-stand, moves-add_up, moved-goes_on, goes_on-again}
use Rattle.change_laws.proofs.laws.streams_go_on.Goals as goal

pub returns-clause-still : goal.returns-clause-still
returns-clause-still c = stands-still

pub returns-clause-one : goal.returns-clause-one
returns-clause-one c = step-moves

pub returns-clause-more : goal.returns-clause-more
returns-clause-more c = moves-add_up

pub returns-clause-moved : goal.returns-clause-moved
returns-clause-moved c = moved-goes_on

pub returns-clause-again : goal.returns-clause-again
returns-clause-again c = goes_on-again

pub returns-clause-own : goal.returns-clause-own
returns-clause-own c = others-stand
