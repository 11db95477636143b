use Rattle.std.proofs.Common.{map, sym, ap}
use Rattle.std.specs.Arc.{arc_value}
use Rattle.vrepl_compact.specs.Asked.{asked_as}
use Rattle.vrepl_compact.proofs.compacting.compacted_as.Goals as goal

pub returns-in-None-clause-refused : goal.returns-in-None-clause-refused
returns-in-None-clause-refused g c = ap (λ given. asked_as (map arc_value c.args.plans.now) given (arc_value c.args.plan.now)) (sym c.in-None.ensures)

pub returns-in-Some-clause-compacted : goal.returns-in-Some-clause-compacted
returns-in-Some-clause-compacted g c = rw (sym c.in-Some.ensures) c.compacted_of.ensures.compacted

pub returns-in-Some-clause-refused : goal.returns-in-Some-clause-refused
returns-in-Some-clause-refused g c = rw (sym c.in-Some.ensures) c.compacted_of.ensures.refused

pub returns-in-Some-clause-told : goal.returns-in-Some-clause-told
returns-in-Some-clause-told g c = rw (sym c.in-Some.ensures) c.compacted_of.ensures.told

pub returns-in-Some-clause-memory : goal.returns-in-Some-clause-memory
returns-in-Some-clause-memory g c = rw (sym c.in-Some.ensures) c.compacted_of.ensures.memory
