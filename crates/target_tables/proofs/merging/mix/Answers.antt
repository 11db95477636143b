use Rattle.std.proofs.Common.{◌+◌, ◌<◌, ◌≤◌, List, ℕ, length, sym, subst, arith}
use Rattle.target_tables.specs.Rising.{IsRising}
use Rattle.target_tables.proofs.Mixing.{Mixes, mixes_none, below_lesser, mixes_on, mixed_all}
use Rattle.target_tables.proofs.merging.mix.Goals as goal

pub loop-entry-init : goal.loop-entry-init
loop-entry-init g c = (subst (IsRising g.K.Ord.cmp) (sym c.requires.empty) tt, mixes_none g.met.K.Ord.total c.args.one c.args.other c.args.mixed.now.entries c.requires.empty, c.requires.most, (let most : length c.args.one + length c.args.other ≤ c.args.count = c.requires.most in let room : c.args.count ≤ c.args.mixed.now.room = c.requires.room in omega arith))

pub push_reserved-requires-clause-below : goal.push_reserved-requires-clause-below
push_reserved-requires-clause-below g c =
    below_lesser g.met.K.Ord.total c.args.one c.args.other c.loop-entry.mixed.entries c.loop-entry.one c.loop-entry.other c.take_lesser.new.one c.take_lesser.new.other c.in-Some.entry c.loop-entry.invariant.1 c.in-Some.ensures

pub loop-entry-preserved : goal.loop-entry-preserved
loop-entry-preserved g c =
    let fewer : length c.take_lesser.new.one + length c.take_lesser.new.other < length c.loop-entry.one + length c.loop-entry.other = c.in-Some.ensures.fewer in
    let left : length c.loop-entry.one + length c.loop-entry.other ≤ c.loop-entry.left = c.loop-entry.invariant.2 in
    let room : length c.loop-entry.one + length c.loop-entry.other ≤ c.loop-entry.mixed.room = c.loop-entry.invariant.3 in (
      c.push_reserved.ensures.rising,
      subst (λ (es : List (g.row.K.Denot × (ℕ × g.row.R.Denot))). Mixes g.K.Ord.cmp c.args.one c.args.other es c.take_lesser.new.one c.take_lesser.new.other) (sym c.push_reserved.ensures.entries)
          (mixes_on g.met.K.Ord.total c.args.one c.args.other c.loop-entry.mixed.entries c.loop-entry.one c.loop-entry.other c.take_lesser.new.one c.take_lesser.new.other c.in-Some.entry c.loop-entry.invariant.1 c.in-Some.ensures),
      (omega (arith, fewer, left)),
      c.push_reserved.ensures.room (length c.take_lesser.new.one + length c.take_lesser.new.other) (omega (arith, fewer, left)) (omega (arith, fewer, room)),
    )

pub returns : goal.returns
returns g c =
    mixed_all g.met.K.Ord.total c.args.one c.args.other c.loop-entry.mixed.entries c.loop-entry.one c.loop-entry.other c.loop-entry.invariant.1 c.in_default.ensures.0 c.in_default.ensures.1 c.loop-entry.invariant.0
