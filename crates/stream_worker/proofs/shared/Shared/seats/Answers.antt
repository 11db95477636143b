use Rattle.std.proofs.Common.{ℕ, ◌+◌, [], ◌∷◌, length-append, sym, ap, ◌∙◌, arith}
use Rattle.crossbeam_channel.specs.Claims.{view}
use Rattle.stream_worker.proofs.SeatsAreClaimed.{seats_pushed, states_pushed, many_pushed}
use Rattle.stream_worker.proofs.shared.Shared.seats.Goals as goal

pub loop-outline-preserved : goal.loop-outline-preserved
loop-outline-preserved g c =
    let counted = c.in-Ok.ensures.len ∙ ap (λ (m : ℕ). m + 1) c.loop-outline.invariant.2 in (
      ap (λ (m : ℕ). m + 1) c.loop-outline.invariant.0 ∙ sym (length-append c.loop-outline.yielded (c.in-Some.outline ∷ [])),
      sym c.push.new.self.ok.0 ∙ counted,
      counted,
      omega (arith, c.loop-outline.invariant.3, c.in-Ok.ensures.capacity),
      seats_pushed c.args.self.now c.loop-outline.seats.items c.push.new.self.items c.seat-seat.result c.loop-outline.k c.in-Ok.ensures.items c.loop-outline.invariant.1 c.loop-outline.invariant.4 c.seat-seat.ensures.seat.0
          c.seat-seat.ensures.seat.1,
      states_pushed c.loop-outline.seats.items c.push.new.self.items c.seat-seat.result c.loop-outline.k (view c.args.opener) (view c.loop-outline.opener) c.in-Ok.ensures.items c.loop-outline.invariant.5 c.loop-outline.invariant.7
          c.seat-seat.ensures.state c.seat-seat.ensures.seat.1,
      c.seat-seat.ensures.opener.0,
      c.seat-seat.ensures.opener.1 ∙ c.loop-outline.invariant.7,
      many_pushed c.loop-outline.seats.items c.push.new.self.items c.seat-seat.result (view c.args.opener) (view c.loop-outline.opener) c.in-Ok.ensures.items c.loop-outline.invariant.8 c.loop-outline.invariant.7 c.seat-seat.ensures.many,
    )
