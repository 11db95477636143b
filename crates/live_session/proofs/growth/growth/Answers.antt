use Rattle.std.proofs.Common.{◌≤◌, refl, sym, subst, arith, length, length-set, ◌∙◌}
use Rattle.live_session.specs.Growths.{HasGrown, is_closed}
use Rattle.live_session.specs.declared.seat.Seat.{Seat}
use Rattle.live_session.proofs.GrowthLaws.{come-more, come_none, grown-all, grown-none, grown-one}
use Rattle.live_session.proofs.growth.growth.Goals as goal

pub loop-s-init : goal.loop-s-init
loop-s-init g c = record { come = come_none c.args.live.now c.args.live.now refl; count = refl; saved = refl; grown = grown-none c.args.seats.now c.args.live.now; few = omega arith }

pub loop-s-preserved : goal.loop-s-preserved
loop-s-preserved g c = record {
  come = come-more c.loop-s.bytes c.grow_one.result _ c.args.live.now c.loop-s.live c.grow_one.new.live c.loop-s.invariant.come c.grow_one.ensures.come (omega (arith, c.from-bytes.ensures));
  count = length-set c.loop-s.seats c.loop-s.s c.grow_one.new.seat ∙ c.loop-s.invariant.count;
  saved = c.grow_one.ensures.saved ∙ c.loop-s.invariant.saved;
  grown = grown-one c.loop-s.s c.args.seats.now c.loop-s.seats c.index-seats-s.result c.grow_one.new.seat c.args.live.now c.loop-s.live c.grow_one.new.live c.index-seats-s.is
      (subst (λ (one : Seat). HasGrown (is_closed one) c.loop-s.s one c.grow_one.new.seat c.loop-s.live c.grow_one.new.live) (sym c.index-seats-s.is) c.grow_one.ensures.grown) c.grow_one.ensures.others c.loop-s.invariant.grown;
  few = omega arith;
}

pub returns-clause-grown : goal.returns-clause-grown
returns-clause-grown g c =
    let all : length c.args.seats.now ≤ c.loop-s.s = omega (arith, c.loop-s-test.false, c.loop-s.auto.s-end) in
    grown-all c.loop-s.s c.args.seats.now c.loop-s.seats c.args.live.now c.loop-s.live all c.loop-s.invariant.grown
