use Rattle.std.proofs.Common.{◌≡◌, subst, ℕ, refl, sym, ◌∙◌, ap, List, [], Result, Ok, Err}
use Rattle.std.proofs.lemmas.Result.{err_from_is_err_and}
use Rattle.gtid_set.specs.declared.interval.Interval.{Interval}
use Rattle.gtid_set.specs.declared.fault.GtidFault.{GtidFault}
use Rattle.gtid_set.specs.declared.named.Named.{Named}
use Rattle.gtid_set.specs.Blank.{trimmed, parts_between}
use Rattle.gtid_set.specs.Inner.Kept.{intervals_listed, Keeps}
use Rattle.gtid_set.specs.Text.{all_of, put_before, intervals_of_part, within_limit}
use Rattle.gtid_set.proofs.WholeText.{whole-text}
use Rattle.gtid_set.proofs.Reading.{read_next, read_bad, read_all, smaller_some}
use Rattle.gtid_set.proofs.TextFaults.{own_fault}
use Rattle.gtid_set.proofs.read.intervals_of.Goals as goal

abbrev step : List ℕ → Result (List Interval) GtidFault
step part = intervals_of_part (trimmed part)

abbrev whole : List ℕ → Result (List Interval) GtidFault
whole parts = put_before [] (all_of step (parts_between 44 parts))

pub loop-rest-init : goal.loop-rest-init
loop-rest-init c = ([], refl, refl)

pub returns-in_err-push_part-clause-refused : goal.returns-in_err-push_part-clause-refused
returns-in_err-push_part-clause-refused c =
    let fault = c.in_err-push_part.field-0.0 in
    let flavor = rw c.trimmed.ensures at c.in_ok-parts.ensures in
    let is : whole c.in_ok-parts.parts.now ≡ within_limit c.args.text.now = whole-text c.args.text.now c.in_ok-parts.parts.now c.if-text-gt-TEXT_LIMIT.false flavor in
    let refused : (front : List Interval) → Keeps c.loop-rest.named front → put_before front (step c.cut.result.0.now) ≡ Err fault = λ front kept.
    ap (λ (t : List ℕ). put_before front (intervals_of_part t)) (sym c.trimmed-in-Some.ensures) ∙ c.in_err-push_part.ensures front kept in
    let bad : whole c.in_ok-parts.parts.now ≡ Err fault = read_bad step 44 c.loop-rest.named c.loop-rest.rest c.cut.result.1 c.in-Some.parts c.cut.result.0.now _ fault c.in-Some.is c.cut.ensures refused c.loop-rest.invariant in
    let p = err_from_is_err_and c.from_residual-in_err-push_part.result c.from_residual-in_err-push_part.ensures.1 in
    rw (p.1, p.2) (own_fault c.args.text.now fault (sym is ∙ bad))

pub loop-rest-smaller : goal.loop-rest-smaller
loop-rest-smaller c = smaller_some 44 c.loop-rest.rest c.cut.result.1 c.in-Some.parts c.cut.result.0.now c.in-Some.is c.cut.ensures

pub loop-rest-preserved : goal.loop-rest-preserved
loop-rest-preserved c =
    read_next step 44 c.loop-rest.named c.push_part.new.named c.loop-rest.rest c.cut.result.1 c.in-Some.parts c.cut.result.0.now _ c.in-Some.is c.cut.ensures
    (λ front kept.
    let r = c.in_ok-push_part.ensures front kept in
    (r.0, ap (λ (t : List ℕ). put_before front (intervals_of_part t)) (sym c.trimmed-in-Some.ensures) ∙ r.1, r.2))
    c.loop-rest.invariant

pub returns-in-Kept-clause-named : goal.returns-in-Kept-clause-named
returns-in-Kept-clause-named c =
    let flavor = rw c.trimmed.ensures at c.in_ok-parts.ensures in
    let is : whole c.in_ok-parts.parts.now ≡ within_limit c.args.text.now = whole-text c.args.text.now c.in_ok-parts.parts.now c.if-text-gt-TEXT_LIMIT.false flavor in
    let r = read_all step 44 c.loop-rest.named c.loop-rest.rest (whole c.in_ok-parts.parts.now) c.in_default.not-Some c.loop-rest.invariant in
    let kept : intervals_listed c.in-Kept.intervals ≡ r.0 = subst (λ (n : Named). Keeps n r.0) c.in-Kept.is r.2 in
    sym is ∙ r.1 ∙ ap (λ (l : List Interval). Ok l) (sym kept)

pub returns-in-Wanting-clause-refused : goal.returns-in-Wanting-clause-refused
returns-in-Wanting-clause-refused c =
    let flavor = rw c.trimmed.ensures at c.in_ok-parts.ensures in
    let is : whole c.in_ok-parts.parts.now ≡ within_limit c.args.text.now = whole-text c.args.text.now c.in_ok-parts.parts.now c.if-text-gt-TEXT_LIMIT.false flavor in
    let r = read_all step 44 c.loop-rest.named c.loop-rest.rest (whole c.in_ok-parts.parts.now) c.in_default.not-Some c.loop-rest.invariant in
    (r.0, sym is ∙ r.1, subst (λ (n : Named). Keeps n r.0) c.in-Wanting.is r.2)
