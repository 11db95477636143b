use Rattle.std.proofs.Common.{map, sym}
use Rattle.std.specs.Arc.{arc_value}
use Rattle.compact_limit.proofs.LimitLaws.{stands_by, unplaced_by, none_said}
use Rattle.compact_limit.proofs.limit.number_in.Goals as goal

pub returns-in-Err-Broken-clause-refused : goal.returns-in-Err-Broken-clause-refused
returns-in-Err-Broken-clause-refused c = λ one said.
    let none = rw c.in-Err-Broken.field-0-is at c.in-Err-Broken.ensures.refused in
    none said.saved said.is

pub returns-in-Some-clause-stands : goal.returns-in-Some-clause-stands
returns-in-Some-clause-stands c =
    stands_by (map arc_value c.args.plans.now) c.args.feed.now c.args.stream c.args.checkpoint.now c.in-Ok.saved.items c.in-Ok.ensures.said c.in-Some.one.now c.position.result.now c.number_of.result
    (sym (rw c.deref.ensures.value at c.in-Some.ensures)) c.position.ensures c.number_of.ensures.number

pub returns-in-Some-clause-refused : goal.returns-in-Some-clause-refused
returns-in-Some-clause-refused c =
    unplaced_by (map arc_value c.args.plans.now) c.args.feed.now c.args.stream c.args.checkpoint.now c.in-Ok.saved.items c.in-Ok.ensures.said c.in-Some.one.now c.position.result.now c.number_of.result
    (sym (rw c.deref.ensures.value at c.in-Some.ensures)) c.position.ensures c.number_of.ensures.fault c.number_of.ensures.none

pub returns-clause-refused : goal.returns-clause-refused
returns-clause-refused c =
    none_said (map arc_value c.args.plans.now) c.args.feed.now c.args.stream c.args.checkpoint.now c.in-Ok.saved.items c.in-Ok.ensures.said (sym (rw c.deref.ensures.value at c.in-None.ensures))
