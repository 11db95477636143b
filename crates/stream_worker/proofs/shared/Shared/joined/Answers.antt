use Rattle.std.proofs.Common.{vec_len, sym, subst}
use Rattle.crossbeam_channel.specs.Claims.{view}
use Rattle.stream_worker.specs.SeatOf.{AreAllKnown}
use Rattle.stream_worker.proofs.PassesTakeSeats.{first_popped, next_popped}
use Rattle.stream_worker.proofs.shared.Shared.joined.Goals as goal

pub loop-seat-init : goal.loop-seat-init
loop-seat-init c =
    let first = first_popped c.args.self.now c.args.seats.items c.pop.new.self.items (vec_len c.pop.new.self) c.in-Some.last c.requires.seats c.in-Some.ensures.items (sym c.pop.new.self.ok.0) in
    (sym c.pop.new.self.ok.0, first.0, first.1, first.2)

pub join-requires-clause-passes : goal.join-requires-clause-passes
join-requires-clause-passes c =
    let next = next_popped c.args.self.now c.args.seats.items c.loop-seat.seats.items c.pop-in-loop-seat.new.self.items (vec_len c.loop-seat.seats) (vec_len c.pop-in-loop-seat.new.self) c.in-Some-pop.seat (view c.loop-seat.pass)
    c.requires.seats c.loop-seat.invariant.1 c.in-Some-pop.ensures.items (sym c.in-Some-pop.ensures.cases) (sym c.pop-in-loop-seat.new.self.ok.0) c.loop-seat.invariant.3 in
    (c.loop-seat.invariant.2, next.0)

pub loop-seat-preserved : goal.loop-seat-preserved
loop-seat-preserved c =
    let next = next_popped c.args.self.now c.args.seats.items c.loop-seat.seats.items c.pop-in-loop-seat.new.self.items (vec_len c.loop-seat.seats) (vec_len c.pop-in-loop-seat.new.self) c.in-Some-pop.seat (view c.loop-seat.pass)
    c.requires.seats c.loop-seat.invariant.1 c.in-Some-pop.ensures.items (sym c.in-Some-pop.ensures.cases) (sym c.pop-in-loop-seat.new.self.ok.0) c.loop-seat.invariant.3 in
    (sym c.pop-in-loop-seat.new.self.ok.0, next.1, c.join.ensures.pass, subst (AreAllKnown c.args.seats.items (vec_len c.pop-in-loop-seat.new.self)) (sym c.join.ensures.view) next.2)

pub loop-seat-preserved-in-Some-pop : goal.loop-seat-preserved-in-Some-pop
loop-seat-preserved-in-Some-pop c =
    let next = next_popped c.args.self.now c.args.seats.items c.loop-seat.seats.items c.pop-in-loop-seat.new.self.items (vec_len c.loop-seat.seats) (vec_len c.pop-in-loop-seat.new.self) c.in-Some-pop.seat (view c.loop-seat.pass)
    c.requires.seats c.loop-seat.invariant.1 c.in-Some-pop.ensures.items (sym c.in-Some-pop.ensures.cases) (sym c.pop-in-loop-seat.new.self.ok.0) c.loop-seat.invariant.3 in
    (sym c.pop-in-loop-seat.new.self.ok.0, next.1, c.join.ensures.pass, subst (AreAllKnown c.args.seats.items (vec_len c.pop-in-loop-seat.new.self)) (sym c.join.ensures.view) next.2)

pub loop-seat-preserved-in-Some-pop-2 : goal.loop-seat-preserved-in-Some-pop-2
loop-seat-preserved-in-Some-pop-2 c =
    let next = next_popped c.args.self.now c.args.seats.items c.loop-seat.seats.items c.pop-in-loop-seat.new.self.items (vec_len c.loop-seat.seats) (vec_len c.pop-in-loop-seat.new.self) c.in-Some-pop.seat (view c.loop-seat.pass)
    c.requires.seats c.loop-seat.invariant.1 c.in-Some-pop.ensures.items (sym c.in-Some-pop.ensures.cases) (sym c.pop-in-loop-seat.new.self.ok.0) c.loop-seat.invariant.3 in
    (sym c.pop-in-loop-seat.new.self.ok.0, next.1, c.join.ensures.pass, subst (AreAllKnown c.args.seats.items (vec_len c.pop-in-loop-seat.new.self)) (sym c.join.ensures.view) next.2)

pub loop-seat-preserved-in-Some-pop-3 : goal.loop-seat-preserved-in-Some-pop-3
loop-seat-preserved-in-Some-pop-3 c =
    let next = next_popped c.args.self.now c.args.seats.items c.loop-seat.seats.items c.pop-in-loop-seat.new.self.items (vec_len c.loop-seat.seats) (vec_len c.pop-in-loop-seat.new.self) c.in-Some-pop.seat (view c.loop-seat.pass)
    c.requires.seats c.loop-seat.invariant.1 c.in-Some-pop.ensures.items (sym c.in-Some-pop.ensures.cases) (sym c.pop-in-loop-seat.new.self.ok.0) c.loop-seat.invariant.3 in
    (sym c.pop-in-loop-seat.new.self.ok.0, next.1, c.join.ensures.pass, subst (AreAllKnown c.args.seats.items (vec_len c.pop-in-loop-seat.new.self)) (sym c.join.ensures.view) next.2)
