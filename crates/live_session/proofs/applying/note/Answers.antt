use Rattle.std.proofs.Common.{◌≡◌, suc, ◌-◌, [], ◌∷◌, ◌++◌, length, take, length-append, length-set, sym, ap, subst, ◌∙◌, arith}
use Rattle.list_laws.proofs.Places.{place_of}
use Rattle.live_session.specs.Answered.{unstepped}
use Rattle.live_session.specs.declared.seat.Seat.{Seat}
use Rattle.live_session.proofs.NoteLaws.{last-of, noted-one, stepped-set}
use Rattle.live_session.proofs.applying.note.Goals as goal

pub loop-answer-preserved : goal.loop-answer-preserved
loop-answer-preserved c =
    let popped = c.in-Some.ensures.items in
    let next : c.loop-answer.s ≡ suc (c.loop-answer.s - 1) = omega (arith, ap length popped, length-append c.pop.new.self.items (c.in-Some.answer ∷ []), c.loop-answer.invariant.count) in
    let last =
    last-of c.args.answers.items c.pop.new.self.items (c.loop-answer.s - 1) c.in-Some.answer (subst (λ n. take n c.args.answers.items ≡ c.pop.new.self.items ++ c.in-Some.answer ∷ []) next (sym c.loop-answer.invariant.left ∙ popped))
    (omega (arith, c.loop-answer.invariant.within, next)) in
    let place = place_of c.loop-answer.seats (c.loop-answer.s - 1) (omega (arith, c.loop-answer.invariant.within, c.loop-answer.invariant.seats, next)) in
    record {
      left = last.0;
      count = omega (arith, ap length popped, length-append c.pop.new.self.items (c.in-Some.answer ∷ []), c.loop-answer.invariant.count);
      within = omega (arith, c.loop-answer.invariant.within);
      seats = length-set c.loop-answer.seats (c.loop-answer.s - 1) c.note_one.new.seat ∙ c.loop-answer.invariant.seats;
      stepped = stepped-set c.loop-answer.seats (c.loop-answer.s - 1) c.index-seats-s.result c.note_one.new.seat c.index-seats-s.is (ap unstepped c.note_one.ensures ∙ ap unstepped (sym c.index-seats-s.is)) ∙ c.loop-answer.invariant.stepped;
      noted_behind =
          noted-one (c.loop-answer.s - 1) c.args.answers.items c.loop-answer.seats c.in-Some.answer place.0 c.note_one.new.seat last.1 place.1 (ap (λ (seat : Seat). seat.step) c.note_one.ensures)
          (λ i answer seat within at found. c.loop-answer.invariant.noted_behind i answer seat (omega (arith, within, next)) at found);
    }
