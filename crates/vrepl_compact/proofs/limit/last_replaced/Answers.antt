use Rattle.std.proofs.Common.{map}
use Rattle.std.specs.Arc.{arc_value}
use Rattle.vrepl_compact.proofs.LimitLaws.{all_unlimited}
use Rattle.vrepl_compact.proofs.limit.last_replaced.Goals as goal

pub returns-clause-limit : goal.returns-clause-limit
returns-clause-limit c = rw c.deref.ensures.value at c.limit_of.ensures.limit

pub returns-clause-refused : goal.returns-clause-refused
returns-clause-refused c =
    all_unlimited c.args.inputs.now (map arc_value c.args.plans.now) c.args.feed.now c.limit_of.result (rw c.deref.ensures.value at c.limit_of.ensures.refused) (rw c.deref.ensures.value at c.limit_of.ensures.memory)
