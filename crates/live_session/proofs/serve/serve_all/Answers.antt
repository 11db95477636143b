use Rattle.live_session.specs.Sessions.{kept_session, session_of}
use Rattle.live_session.specs.Turns.{stand_of}
use Rattle.live_session.proofs.TurnLaws.{gone-more}
use Rattle.live_session.proofs.serve.serve_all.Goals as goal

pub loop-preserved : goal.loop-preserved
loop-preserved g c = record {
  gone =
      gone-more (stand_of (g.I.Read.remaining c.args.input.now) (kept_session (session_of c.args.live.now c.args.seats.now) (g.A.Arrivals.saved c.args.arrivals.now)) (g.O.Out.written c.args.out.now))
      (stand_of (g.I.Read.remaining c.loop.input) (kept_session (session_of c.loop.live c.loop.seats) (g.A.Arrivals.saved c.loop.arrivals)) (g.O.Out.written c.loop.out))
      (stand_of (g.I.Read.remaining c.turn.new.input) (kept_session (session_of c.turn.new.live c.turn.new.seats) (g.A.Arrivals.saved c.turn.new.arrivals)) (g.O.Out.written c.turn.new.out)) c.in_ok-turn.field-0 c.loop.invariant.gone c.in_ok-turn.ensures.turned c.if-not-branch.false;
  count = c.turn.ensures.seats;
}
