use Rattle.vevent.proofs.CountLaws.{count_of}
use Rattle.vevent.proofs.event.event_as.Goals as goal

pub new-requires-clause-count : goal.new-requires-clause-count
new-requires-clause-count c = count_of c.requires.0 c.message.result.now c.args.accepted.now.parts c.requires.2 c.requires.1.alone c.requires.1.rows c.message.ensures
