use Rattle.std.proofs.Common.{◌∙◌, Err, length, map, sym, ap}
use Rattle.std.proofs.lemmas.List.{length-map}
use Rattle.std.proofs.lemmas.Result.{err_from_is_err_and}
use Rattle.std.specs.Arc.{arc_value}
use Rattle.compact_limit.proofs.LimitLaws.{one_error, one_more, stops_here, wants_here}
use Rattle.compact_limit.proofs.limit.least_of.Goals as goal

pub loop-checkpoint-preserved : goal.loop-checkpoint-preserved
loop-checkpoint-preserved c =
    one_more (map arc_value c.args.plans.now) c.args.feed.now c.args.stream c.args.named c.loop-checkpoint.number c.in_ok-other.other c.lesser-number.result c.args.checkpoints.now c.loop-checkpoint.checkpoint-index c.checkpoint-item.result
    c.loop-checkpoint-test.true c.checkpoint-item.is c.loop-checkpoint.invariant (rw c.deref.ensures.value at c.in_ok-other.ensures.stands) c.lesser-number.ensures.up_to c.lesser-number.ensures.behind c.lesser-number.ensures.reached

pub returns-in_err-other-clause-refused : goal.returns-in_err-other-clause-refused
returns-in_err-other-clause-refused c =
    let p = err_from_is_err_and c.from_residual.result c.from_residual.ensures.1 in
    rw (p.1, p.2) (stops_here (map arc_value c.args.plans.now) c.args.feed.now c.args.stream c.args.named c.loop-checkpoint.number c.args.checkpoints.now c.loop-checkpoint.checkpoint-index c.checkpoint-item.result c.in_err-other.field-0.0
    c.loop-checkpoint-test.true c.checkpoint-item.is c.loop-checkpoint.invariant (rw c.deref.ensures.value at c.in_err-other.ensures.refused))

pub returns-in_err-other-clause-memory : goal.returns-in_err-other-clause-memory
returns-in_err-other-clause-memory c e =
    let p = err_from_is_err_and c.from_residual.result c.from_residual.ensures.1 in
    let wanted = c.in_err-other.ensures.memory (ap Err (sym p.2 ∙ one_error c.from_residual.result _ _ p.1 e)) in
    wants_here (map arc_value c.args.plans.now) c.args.feed.now c.args.stream c.args.named c.loop-checkpoint.number (length c.args.plans.now) c.args.checkpoints.now c.loop-checkpoint.checkpoint-index c.checkpoint-item.result
    c.loop-checkpoint-test.true c.checkpoint-item.is c.loop-checkpoint.invariant (length-map c.args.plans.now arc_value) (rw c.deref.ensures.value at wanted)
