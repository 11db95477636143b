use Rattle.std.proofs.Common.{◌≡◌, Option, Ok, sym, ap, subst, arith}
use Rattle.std.specs.Prelude.{IfSome}
use Rattle.std.specs.Arc.{arc_value}
use Rattle.source_feed.specs.Planned.{FeedValue}
use Rattle.source_feed.specs.Touches.{PreparedValue, prepared_at}
use Rattle.worker_rounds.proofs.GroupsTakenIn.{taken-runs, taken-room, taken-puts}
use Rattle.worker_rounds.proofs.going.Going.take_in.Goals as goal

pub offer-requires-clause-group : goal.offer-requires-clause-group
offer-requires-clause-group g c =
    subst (λ (o : Option FeedValue). IfSome o (λ feed. prepared_at feed (arc_value c.args.ready.group).number ≡ Ok (arc_value c.args.ready.group))) (sym c.requires.ready.fed_by) c.requires.ready.prepared

pub offer-requires-clause-runs : goal.offer-requires-clause-runs
offer-requires-clause-runs g c =
    c.in-Some.ensures.runs

pub advance-requires-clause-puts : goal.advance-requires-clause-puts
advance-requires-clause-puts g c =
    taken-puts g.J.Began.fed g.J.Began.most c.args.self.now c.offer.new.self c.args.s c.in-Some.next c.args.ready c.is_on_round.ensures c.offer.ensures.round c.in-Some.ensures (omega (arith, c.if-next-number.false, c.number.ensures, ap (λ (p : PreparedValue). p.number) c.deref.ensures)) c.requires.ready c.offer.result c.offer.ensures.step c.if-not-offer.false

pub advance-requires-clause-runs : goal.advance-requires-clause-runs
advance-requires-clause-runs g c =
    taken-runs g.J.Began.fed g.J.Began.most c.args.self.now c.offer.new.self c.args.s c.in-Some.next c.args.ready c.is_on_round.ensures c.offer.ensures.round c.in-Some.ensures (omega (arith, c.if-next-number.false, c.number.ensures, ap (λ (p : PreparedValue). p.number) c.deref.ensures)) c.requires.ready c.offer.result c.offer.ensures.step c.if-not-offer.false

pub advance-requires-clause-room : goal.advance-requires-clause-room
advance-requires-clause-room g c =
    taken-room g.J.Began.fed g.J.Began.most c.args.self.now c.offer.new.self c.args.s c.in-Some.next c.args.ready c.is_on_round.ensures c.offer.ensures.round c.in-Some.ensures (omega (arith, c.if-next-number.false, c.number.ensures, ap (λ (p : PreparedValue). p.number) c.deref.ensures)) c.requires.ready c.offer.result c.offer.ensures.step c.if-not-offer.false
