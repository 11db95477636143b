use Rattle.std.proofs.Common.{Ok, Err, subst, arith}
use Rattle.apply_core.specs.Courses.{LeadsOn}
use Rattle.stream_worker.proofs.SeatsGoOn.{sits-on, sits-refused, sits-within}
use Rattle.stream_worker.proofs.working.go_on.Goals as goal

pub returns-in-Ok-clause-goes_on : goal.returns-in-Ok-clause-goes_on
returns-in-Ok-clause-goes_on g c =
    sits-on c.args.bench.now.feed.now c.args.seat.now c.in-Some.step c.seat_step.new.seat c.seat_step.ensures.is_at.1 c.know_feed.ensures _ c.args.course.now.to_copy c.next.new.self.to_copy c.in-Some.ensures
    c.len-groups.ensures (Ok c.in-Ok.field-0) c.in-Ok.ensures.step c.args.receipts.now.items c.seat_step.new.receipts.items c.in-Ok.ensures.receipts

pub returns-in-Err-clause-goes_on : goal.returns-in-Err-clause-goes_on
returns-in-Err-clause-goes_on g c =
    sits-on c.args.bench.now.feed.now c.args.seat.now c.in-Some.step c.seat_step.new.seat c.seat_step.ensures.is_at.1 c.know_feed.ensures _ c.args.course.now.to_copy c.next.new.self.to_copy c.in-Some.ensures
    c.len-groups.ensures (Err c.in-Err.refusal) c.in-Err.ensures.step c.args.receipts.now.items c.seat_step.new.receipts.items c.in-Err.ensures.receipts

pub returns-in-Err-clause-refused : goal.returns-in-Err-clause-refused
returns-in-Err-clause-refused g c = λ follows.
    c.ended_by.ensures
    (sits-refused c.args.bench.now.feed.now c.args.seat.now c.in-Some.step c.seat_step.new.seat c.seat_step.ensures.is_at.1 c.know_feed.ensures follows c.args.course.now.to_copy c.next.new.self.to_copy
    (subst (λ n. LeadsOn c.args.seat.now.cursor n c.args.course.now.to_copy c.next.new.self.to_copy c.in-Some.step) c.len-groups.ensures c.in-Some.ensures) c.in-Err.refusal c.in-Err.ensures.step)

pub returns-then-read-groups-clause-refused : goal.returns-then-read-groups-clause-refused
returns-then-read-groups-clause-refused g c = λ follows.
    absurd (let within = sits-within c.args.bench.now.feed.now c.args.seat.now follows in omega (arith, within, c.read.ensures, c.len-groups.ensures, c.if-read-groups.true))
