use Rattle.std.proofs.Common.{◌≡◌, ◌*◌, ◌^◌, ◌≤◌, length}
use Rattle.live_session.specs.Growths.{HaveCome}
use Rattle.live_session.proofs.GrowthLaws.{HaveGrownTo}
use Rattle.live_session.proofs.growth.growth.Given as goal

-- so many bytes have come of the feeds so far
abbrev pub invariant-loop-s : goal.invariant-loop-s
invariant-loop-s g l = record {
  come : HaveCome l.bytes l.fn.live l.live;
  count : length l.seats ≡ length l.fn.seats;
  saved : g.A.Arrivals.saved l.arrivals ≡ g.A.Arrivals.saved l.fn.arrivals;
  grown : HaveGrownTo l.s l.fn.seats l.seats l.fn.live l.live;
  few : l.bytes ≤ l.s * 2 ^ 32;
}
