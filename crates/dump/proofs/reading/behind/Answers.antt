use Rattle.dump.proofs.StandLaws.{stripped, not_stripped}
use Rattle.dump.proofs.reading.behind.Goals as goal

pub returns-in-Some : goal.returns-in-Some
returns-in-Some c = stripped c.args.text.now c.args.front.now c.in-Some.rest.now c.in-Some.ensures.cases.0 c.in-Some.ensures.cases.1

pub returns-in-None : goal.returns-in-None
returns-in-None c = not_stripped c.args.text.now c.args.front.now c.in-None.ensures.cases
