use Rattle.std.proofs.Common.{◌≡◌, ◌∙◌, ◌+◌, ◌<◌, ◌&&◌, true, false, sym, ap, arith, get_or, take, drop, length, ◌∷◌}
use Rattle.std.proofs.lemmas.List.{get_or_default}
use Rattle.gtid_set.specs.declared.interval.Interval.{Interval}
use Rattle.gtid_set.specs.Position.{IsCanonical, within_of}
use Rattle.gtid_set.proofs.Merging.{drop-front, canonical-drop}
use Rattle.gtid_set.proofs.Covered.{covered_by, covered-at, covered-nowhere, passed-rest}
use Rattle.gtid_set.proofs.search.are_within.Goals as goal
use Rattle.gtid_set.proofs.search.are_within.Goals.{then-place-all-via-then-place-all, then-place-all-via-else-place-all+then-not-covers}

abbrev nowhere : Interval
nowhere = record { uuid = 0; first = 0; last = 0 }

pub returns-then-place-all : goal.returns-then-place-all
returns-then-place-all c =
    let some = c.args.some.now in
    let all = c.args.all.now in
    let k = c.loop-interval.interval-index in
    let place = c.reach-place.result in
    let lt = c.loop-interval-test.true in
    let x : Interval = get_or some k nowhere in
    let d = drop-front some k x lt (get_or_default some k nowhere x lt) in
    let rest : IsCanonical (x ∷ drop (k + 1) some) = rw d at (canonical-drop k some c.requires.some) in
    let passed = c.reach-place.ensures.passed in
    let not_covered : covered_by x all ≡ false = elim c.then-place-all.branch [
      | then-place-all-via-then-place-all w ↦ covered-nowhere all place x (omega arith) rest.0.holds_first passed
      | then-place-all-via-else-place-all+then-not-covers w ↦
          let here : place < length all = omega arith in
          let j : Interval = get_or all place nowhere in
          covered-at all place j x here (get_or_default all place nowhere j here) c.requires.all rest.0.holds_first passed (c.reach-place.ensures.stops here nowhere) ∙ cc
    ] in
    sym (sym c.loop-interval.invariant.answer ∙ ap (λ s. within_of s all) d ∙ ap (λ b. b && within_of (drop (k + 1) some) all) not_covered)

pub loop-interval-preserved : goal.loop-interval-preserved
loop-interval-preserved c =
    let some = c.args.some.now in
    let all = c.args.all.now in
    let k = c.loop-interval.interval-index in
    let place = c.reach-place.result in
    let lt = c.loop-interval-test.true in
    let x : Interval = get_or some k nowhere in
    let d = drop-front some k x lt (get_or_default some k nowhere x lt) in
    let rest : IsCanonical (x ∷ drop (k + 1) some) = rw d at (canonical-drop k some c.requires.some) in
    let passed = c.reach-place.ensures.passed in
    let here : place < length all = let b = c.reach-place.ensures.bound in omega arith in
    let j : Interval = get_or all place nowhere in
    let found : covered_by x all ≡ true = covered-at all place j x here (get_or_default all place nowhere j here) c.requires.all rest.0.holds_first passed (c.reach-place.ensures.stops here nowhere) ∙ cc in
    record {
      bound = c.reach-place.ensures.bound;
      passed = passed-rest (take place all) x (drop (k + 1) some) rest.0 rest.1 passed;
      answer = sym (sym c.loop-interval.invariant.answer ∙ ap (λ s. within_of s all) d ∙ ap (λ b. b && within_of (drop (k + 1) some) all) found);
    }
