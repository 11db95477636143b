use Rattle.live_json.specs.Answers.{nothing_data}
use Rattle.live_json.proofs.line.print_nothing.Goals as goal

pub returns : goal.returns
returns g c = c.end.ensures.ok _ nothing_data c.begun-line.ensures
