use Rattle.std.proofs.Common.{◌≡◌, ◌+◌, ◌-◌, ◌<◌, ◌≤◌, false, true, arith, length, get_or, take, drop}
use Rattle.std.proofs.lemmas.List.{length-take, length-drop}
use Rattle.gtid_set.specs.declared.interval.Interval.{Interval}
use Rattle.gtid_set.specs.Position.{ends_before}
use Rattle.gtid_set.specs.Inner.Order.{AllEndBefore}
use Rattle.gtid_set.proofs.Reached.{canonical-range, AllEndBefore-through, AllEndBefore-range, HoldsAt-range, not_through}
use Rattle.gtid_set.proofs.search.reach.Goals as goal
use Rattle.gtid_set.proofs.search.reach.Goals.{then-loop-step-test+else-ends_before, else-loop-step-test}

abbrev nowhere : Interval
nowhere = record { uuid = 0; first = 0; last = 0 }

pub loop-step-preserved : goal.loop-step-preserved
loop-step-preserved c =
    let set = c.args.set.now in
    let low = c.loop-step.low in
    let step = c.loop-step.step in
    let some = c.loop-step.invariant.some in
    let inside : low + step ≤ length set = omega arith in
    let y : Interval = get_or set (low + step - 1) nowhere in
    let ends : ends_before y c.args.interval.now ≡ true = cc in
    record {
      bound = inside;
      some = omega arith;
      passed = AllEndBefore-through set c.args.interval.now (low + step - 1) (low + step) nowhere c.requires.canonical (omega arith) (omega arith) ends;
    }

pub place_of-requires : goal.place_of-requires
place_of-requires c = canonical-range c.args.set.now c.loop-step.low (c.loop-step.low + c.min.result - c.loop-step.low) c.requires.canonical

passed : (c : goal.After-place_of) → AllEndBefore c.args.interval.now (take (c.loop-step.low + c.place_of.result) c.args.set.now)
passed c =
    let set = c.args.set.now in
    let low = c.loop-step.low in
    let count = low + c.min.result - low in
    AllEndBefore-range set low count c.place_of.result c.args.interval.now (omega (arith, c.place_of.ensures.bound, length-take count (drop low set))) c.loop-step.invariant.bound c.loop-step.invariant.passed c.place_of.ensures.passed

pub returns-clause-passed : goal.returns-clause-passed
returns-clause-passed c = passed c

pub returns-clause-stops : goal.returns-clause-stops
returns-clause-stops c = λ lt d.
    let set = c.args.set.now in
    let x : Interval = c.args.interval.now in
    let low = c.loop-step.low in
    let step = c.loop-step.step in
    let count = low + c.min.result - low in
    let r = c.place_of.result in
    let taken = length-take count (drop low set) in
    let left = length-drop low set in
    elim c.loop-step-test.branch [
      | then-loop-step-test+else-ends_before w ↦
          let y : Interval = get_or set (low + step - 1) nowhere in
          let not_ends : ends_before y x ≡ false = cc in
          let through : count ≤ r → ⊥ = λ le. not_through set (low + r) (low + step - 1) x nowhere (omega arith) (omega arith) (passed c) not_ends in
          let inside : r < count = omega (arith, through) in
          HoldsAt-range set low count r x inside (c.place_of.ensures.stops (omega arith)) d
      | else-loop-step-test w ↦
          let inside : r < count = omega arith in
          HoldsAt-range set low count r x inside (c.place_of.ensures.stops (omega arith)) d
    ]
