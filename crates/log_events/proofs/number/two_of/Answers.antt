use Rattle.std.proofs.Common.{refl}
use Rattle.log_events.proofs.NumberLaws.{parts_are}
use Rattle.log_events.proofs.number.two_of.Goals as goal

pub returns-clause-value : goal.returns-clause-value
returns-clause-value c = parts_are 1 1 2 c.args.bytes.now c.behind.result.now c.one_of.result c.one_of-2.result 256 refl refl c.behind.ensures c.one_of.ensures.value c.one_of-2.ensures.value
