use Rattle.std.proofs.Common.{◌+◌, ◌∷◌, [], List, length, length-append, map, ap, ◌∙◌}
use Rattle.live_session.specs.Sessions.{tail_at}
use Rattle.live_session.specs.Stops.{fresh_seat}
use Rattle.live_session.specs.declared.seat.Seat.{Seat}
use Rattle.live_session.proofs.SeatLaws.{seats-more}
use Rattle.live_session.proofs.session.seats_for.Goals as goal

pub loop-s-preserved : goal.loop-s-preserved
loop-s-preserved c = record {
  count = ap (λ (all : List Seat). length all) c.in_ok-push.ensures.items ∙ length-append c.loop-s.seats.items (c.seat_of.result ∷ []) ∙ ap (λ n. n + 1) c.loop-s.invariant.count;
  each = seats-more (λ s. fresh_seat (tail_at (map (λ bytes. bytes.items) c.args.come.now) c.args.live.now s)) c.loop-s.s c.loop-s.seats.items c.push.new.self.items c.seat_of.result c.in_ok-push.ensures.items c.loop-s.invariant.count c.seat_of.ensures c.loop-s.invariant.each;
}
