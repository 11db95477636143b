use Rattle.std.proofs.Common.{Ok, ap, ◌∙◌}
use Rattle.std.proofs.lemmas.Result.{err_from_is_err_and}
use Rattle.log_groups.specs.Step.{gtid_value, ending_value, step_value, steps_of}
use Rattle.log_groups.specs.Transaction.{turn_at}
use Rattle.log_groups.proofs.StepLaws.{step_there, no_step}
use Rattle.log_groups.proofs.TransactionLaws.{turn_goes, turn_ends, turn_refused, step_refused, ended_early, ended_whole, goes_further}
use Rattle.log_groups.proofs.transaction.transaction_behind.Goals as goal

pub returns-in_err-step : goal.returns-in_err-step
returns-in_err-step c =
    let p = err_from_is_err_and c.from_residual.result c.from_residual.ensures.1 in
    rw (p.1, p.2) (step_refused (gtid_value c.args.gtid) (steps_of c.args.events.now.reading) (steps_of c.loop-open.events.reading) c.in_err-step.ensures.0 c.loop-open.open c.in_err-step.field-0.0 c.loop-open.invariant c.in_err-step.ensures.1)

pub returns-in_err-ending : goal.returns-in_err-ending
returns-in_err-ending c =
    let p = err_from_is_err_and c.from_residual-in_err-ending.result c.from_residual-in_err-ending.ensures.1 in
    let front = step_there step_value (steps_of c.loop-open.events.reading) (steps_of c.next_step.new.events.reading) c.next_step.result c.in-Some.step c.next_step.ensures (c.in_ok-step.was ∙ ap (λ s. Ok s) c.in-Some.is) in
    rw (p.1, p.2)
    (turn_refused (gtid_value c.args.gtid) (steps_of c.args.events.now.reading) (steps_of c.loop-open.events.reading) (steps_of c.next_step.new.events.reading) c.loop-open.open c.take.new.self (step_value c.in-Some.step) c.in_err-ending.field-0.0 _ c.loop-open.invariant front c.in_err-ending.ensures)

pub returns-in-Some-2 : goal.returns-in-Some-2
returns-in-Some-2 c =
    let front = step_there step_value (steps_of c.loop-open.events.reading) (steps_of c.next_step.new.events.reading) c.next_step.result c.in-Some.step c.next_step.ensures (c.in_ok-step.was ∙ ap (λ s. Ok s) c.in-Some.is) in
    let turned = turn_ends ending_value (turn_at c.loop-open.open (step_value c.in-Some.step)) c.take.new.self c.take.result c.in-Some-2.ending c.take.ensures (c.in_ok-ending.was ∙ ap (λ e. Ok e) c.in-Some-2.is) in
    ended_whole (gtid_value c.args.gtid) (steps_of c.args.events.now.reading) (steps_of c.loop-open.events.reading) (steps_of c.next_step.new.events.reading) c.loop-open.open (step_value c.in-Some.step) c.take.new.self.kept.changes _ (ending_value c.in-Some-2.ending) c.loop-open.invariant front turned c.into_changes-changes.ensures

pub loop-open-preserved : goal.loop-open-preserved
loop-open-preserved c =
    let front = step_there step_value (steps_of c.loop-open.events.reading) (steps_of c.next_step.new.events.reading) c.next_step.result c.in-Some.step c.next_step.ensures (c.in_ok-step.was ∙ ap (λ s. Ok s) c.in-Some.is) in
    let turned = turn_goes ending_value (turn_at c.loop-open.open (step_value c.in-Some.step)) c.take.new.self c.take.result c.take.ensures (c.in_ok-ending.was ∙ ap (λ e. Ok e) c.in_default-2.is) in
    goes_further c.loop-open.open c.take.new.self (steps_of c.loop-open.events.reading) (steps_of c.next_step.new.events.reading) (step_value c.in-Some.step) _ c.loop-open.invariant front turned

pub returns : goal.returns
returns c =
    let none = no_step step_value (steps_of c.loop-open.events.reading) (steps_of c.next_step.new.events.reading) c.next_step.result c.next_step.ensures (c.in_ok-step.was ∙ ap (λ s. Ok s) c.in_default.is) in
    ended_early (gtid_value c.args.gtid) (steps_of c.args.events.now.reading) (steps_of c.loop-open.events.reading) c.loop-open.open c.loop-open.invariant none.0
