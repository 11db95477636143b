use Rattle.std.proofs.Common.{◌≡◌, length}
use Rattle.live_session.specs.Sessions.{kept_session, session_of}
use Rattle.live_session.specs.Turns.{stand_of}
use Rattle.live_session.proofs.TurnLaws.{HaveGone}
use Rattle.live_session.proofs.serve.serve_all.Given as goal

-- turns so far
abbrev pub invariant-loop : goal.invariant-loop
invariant-loop g l = record {
  gone : HaveGone (stand_of (g.I.Read.remaining l.initial.input) (kept_session (session_of l.initial.live l.initial.seats) (g.A.Arrivals.saved l.initial.arrivals)) (g.O.Out.written l.initial.out)) (stand_of (g.I.Read.remaining l.input) (kept_session (session_of l.live l.seats) (g.A.Arrivals.saved l.arrivals)) (g.O.Out.written l.out));
  count : length l.seats ≡ length l.live.fed.feeds;
}
