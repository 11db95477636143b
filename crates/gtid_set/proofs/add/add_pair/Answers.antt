use Rattle.std.proofs.Common.{◌≡◌, ◌<◌, ◌≤◌, true, false, sym, ◌∙◌, ap, arith, length, take, get_or, subst, List}
use Rattle.std.proofs.lemmas.List.{get_or_default}
use Rattle.std.proofs.lemmas.Result.{on_ok_weaker, on_err_weaker}
use Rattle.gtid_set.specs.declared.interval.Interval.{Interval}
use Rattle.gtid_set.specs.Position.{ends_before, IsInterval}
use Rattle.gtid_set.specs.Inner.Order.{AllEndBefore}
use Rattle.gtid_set.specs.Inner.Kept.{intervals_listed}
use Rattle.gtid_set.proofs.Added.{insert-joined, widened-joined, stands_apart}
use Rattle.gtid_set.proofs.add.add_pair.Goals as goal
use Rattle.gtid_set.proofs.add.add_pair.Goals.{then-place-intervals-via-then-place-intervals, then-place-intervals-via-else-place-intervals+then-ends_before}

abbrev nowhere : Interval
nowhere = record { uuid = 0; first = 0; last = 0 }

pub returns-then-place-intervals-clause-ok : goal.returns-then-place-intervals-clause-ok
returns-then-place-intervals-clause-ok c =
    let s = intervals_listed c.args.set.now in
    let place = c.place_of-place.result in
    let pair : Interval = record { uuid = c.args.uuid; first = c.args.number; last = c.args.number } in
    let one : IsInterval pair = record { uuid = c.requires.uuid; from_one = c.requires.from_one; holds_first = omega arith; to_last = c.requires.to_last } in
    let bound : place ≤ length s = rw c.as_slice-intervals.ensures at c.place_of-place.ensures.bound in
    let passed : AllEndBefore pair (take place s) = rw c.as_slice-intervals.ensures at c.place_of-place.ensures.passed in
    on_ok_weaker c.insert.result (λ is. is ∙ insert-joined s place pair bound c.requires.canonical one passed (λ lt d.
    elim c.then-place-intervals.branch [
      | then-place-intervals-via-then-place-intervals w ↦ absurd (omega (arith, ap (λ (l : List Interval). length l) c.as_slice-intervals.ensures, w.if-place-intervals.true))
      | then-place-intervals-via-else-place-intervals+then-ends_before w ↦
          let y : Interval = get_or s place nowhere in
          let ends : ends_before pair y ≡ true = cc in
          subst (λ (i : Interval). ends_before pair i ≡ true) (get_or_default s place nowhere d lt) ends
    ])) c.insert.ensures.ok

pub returns-then-place-intervals-clause-apart : goal.returns-then-place-intervals-clause-apart
returns-then-place-intervals-clause-apart c =
    let s = intervals_listed c.args.set.now in
    let place = c.place_of-place.result in
    let pair : Interval = record { uuid = c.args.uuid; first = c.args.number; last = c.args.number } in
    let bound : place ≤ length s = rw c.as_slice-intervals.ensures at c.place_of-place.ensures.bound in
    let passed : AllEndBefore pair (take place s) = rw c.as_slice-intervals.ensures at c.place_of-place.ensures.passed in
    on_err_weaker c.insert.result (λ is. stands_apart s place c.args.uuid c.args.number bound c.requires.canonical passed (λ lt d.
    elim c.then-place-intervals.branch [
      | then-place-intervals-via-then-place-intervals w ↦ absurd (omega (arith, ap (λ (l : List Interval). length l) c.as_slice-intervals.ensures, w.if-place-intervals.true))
      | then-place-intervals-via-else-place-intervals+then-ends_before w ↦
          let y : Interval = get_or s place nowhere in
          let ends : ends_before pair y ≡ true = cc in
          subst (λ (i : Interval). ends_before pair i ≡ true) (get_or_default s place nowhere d lt) ends
    ])) c.insert.ensures.err

pub returns-clause-ok : goal.returns-clause-ok
returns-clause-ok c =
    let s = intervals_listed c.args.set.now in
    let place = c.place_of-place.result in
    let pair : Interval = record { uuid = c.args.uuid; first = c.args.number; last = c.args.number } in
    let bound : place ≤ length s = rw c.as_slice-intervals.ensures at c.place_of-place.ensures.bound in
    let passed : AllEndBefore pair (take place s) = rw c.as_slice-intervals.ensures at c.place_of-place.ensures.passed in
    let len = ap (λ (l : List Interval). length l) c.as_slice-intervals.ensures in
    let lt : place < length s = omega (arith, c.if-place-intervals.false, len, bound) in
    let x : Interval = get_or s place nowhere in
    let at = get_or_default s place nowhere x lt in
    let stops = rw c.as_slice-intervals.ensures at c.place_of-place.ensures.stops in
    let not_before : ends_before x pair ≡ false = subst (λ (i : Interval). ends_before i pair ≡ false) (sym at) (stops lt x) in
    let not_behind : ends_before pair x ≡ false = cc in
    c.widen.ensures ∙ widened-joined s place c.args.uuid c.args.number x lt at c.requires.canonical passed not_before not_behind
