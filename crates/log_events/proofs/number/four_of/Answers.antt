use Rattle.std.proofs.Common.{refl}
use Rattle.log_events.proofs.NumberLaws.{parts_are}
use Rattle.log_events.proofs.number.four_of.Goals as goal

pub returns-clause-value : goal.returns-clause-value
returns-clause-value c = parts_are 2 2 4 c.args.bytes.now c.behind.result.now c.two_of.result c.two_of-2.result 65536 refl refl c.behind.ensures c.two_of.ensures.value c.two_of-2.ensures.value
