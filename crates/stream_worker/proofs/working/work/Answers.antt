use Rattle.std.proofs.Common.{Option, sym, subst}
use Rattle.std.specs.Prelude.{IsSomeAnd}
use Rattle.stream_core.specs.Standing.{Standing}
use Rattle.board_laws.specs.Meaning.{State}
use Rattle.board_laws.specs.Reading.{ReadsFeed}
use Rattle.stream_worker.specs.Worked.{AreReceipts}
use Rattle.stream_worker.proofs.StepsAreMade.{stepped-again, stepped-trans, stay-behind}
use Rattle.stream_worker.proofs.working.work.Goals as goal

pub returns-clause-many : goal.returns-clause-many
returns-clause-many g c = λ n saw. c.work_on.ensures.many n (c.is_under.ensures.many n saw)

pub returns-clause-receipts : goal.returns-clause-receipts
returns-clause-receipts g c = subst (λ (at : Standing). AreReceipts at.applied c.work_on.new.seat c.work_on.result.0.items) c.is_under.ensures.cursor c.work_on.ensures.receipts

pub returns-clause-follows : goal.returns-clause-follows
returns-clause-follows g c = λ follows. c.work_on.ensures.follows (subst (λ (o : Option State). IsSomeAnd o (ReadsFeed c.args.feed.now)) (sym c.is_under.ensures.state) follows)

pub returns-clause-ended : goal.returns-clause-ended
returns-clause-ended g c = λ follows. c.work_on.ensures.ended (subst (λ (o : Option State). IsSomeAnd o (ReadsFeed c.args.feed.now)) (sym c.is_under.ensures.state) follows)

pub returns-clause-refused : goal.returns-clause-refused
returns-clause-refused g c = λ follows. c.work_on.ensures.refused (subst (λ (o : Option State). IsSomeAnd o (ReadsFeed c.args.feed.now)) (sym c.is_under.ensures.state) follows)

pub returns-clause-steps : goal.returns-clause-steps
returns-clause-steps g c = stepped-trans c.args.feed.now c.args.seat.now c.is_under.new.seat c.work_on.new.seat c.is_under.ensures.is_at.1 (stepped-again c.args.feed.now c.args.seat.now c.is_under.new.seat c.is_under.ensures.again) c.work_on.ensures.steps

pub returns-clause-stay : goal.returns-clause-stay
returns-clause-stay g c =
    stay-behind c.args.feed.now c.args.seat.now c.work_on.new.seat
    (stepped-trans c.args.feed.now c.args.seat.now c.is_under.new.seat c.work_on.new.seat c.is_under.ensures.is_at.1 (stepped-again c.args.feed.now c.args.seat.now c.is_under.new.seat c.is_under.ensures.again) c.work_on.ensures.steps)
