use Rattle.std.proofs.Common.{◌≡◌, ◌≤◌, inl, inr, true, false, ◌∷◌, ◌++◌, [], sym, subst, ◌∙◌, arith}
use Rattle.pk_copy.specs.KeyValue.{KeyValue}
use Rattle.apply_core.specs.Private.Meeting.{clashes, NoneClash, IsFirstMet}
use Rattle.apply_core.proofs.FirstMetLaws.{none_more, first_is, first_stays, first_sooner, from_none, from_some}
use Rattle.apply_core.proofs.join_rows.keep_first.Goals as goal

pub returns-then-clash : goal.returns-then-clash
returns-then-clash c = λ seen h.
    let clash : clashes c.args.sides.now c.args.here c.args.there ≡ true = sym c.clashes-clash.ensures ∙ c.if-clash.true in
    subst (λ (k : KeyValue). IsFirstMet c.args.sides.now (seen ++ (c.args.key.now, (c.args.here, c.args.there)) ∷ []) k c.meet-met.result.later c.meet-met.result.lower) (sym c.meet-met.ensures.key)
    (first_is c.args.sides.now seen (c.args.key.now, (c.args.here, c.args.there)) c.meet-met.result.later c.meet-met.result.lower
    (from_none (NoneClash c.args.sides.now seen) (λ met. IsFirstMet c.args.sides.now seen met.key.now met.later met.lower) c.args.first c.in-None.is h) clash c.meet-met.ensures.order)

pub returns-else-clash : goal.returns-else-clash
returns-else-clash c = λ seen h.
    none_more c.args.sides.now seen (c.args.key.now, (c.args.here, c.args.there))
    (from_none (NoneClash c.args.sides.now seen) (λ met. IsFirstMet c.args.sides.now seen met.key.now met.later met.lower) c.args.first c.in-None.is h)
    (sym c.clashes-clash.ensures ∙ c.if-clash.false)

pub returns-then-not-clash : goal.returns-then-not-clash
returns-then-not-clash c = λ seen h.
    let none : clashes c.args.sides.now c.args.here c.args.there ≡ false = sym c.clashes-clash.ensures ∙ c.if-not-clash.true in
    first_stays c.args.sides.now seen (c.args.key.now, (c.args.here, c.args.there)) c.in-Some.earlier.key.now c.in-Some.earlier.later c.in-Some.earlier.lower
    (from_some (NoneClash c.args.sides.now seen) (λ met. IsFirstMet c.args.sides.now seen met.key.now met.later met.lower) c.args.first c.in-Some.earlier c.in-Some.is h)
    (λ e. absurd (let clash : false ≡ true = sym none ∙ e in cc))

pub returns-then-met-earlier : goal.returns-then-met-earlier
returns-then-met-earlier c = λ seen h.
    let clash : clashes c.args.sides.now c.args.here c.args.there ≡ true = sym c.clashes-clash.ensures ∙ c.if-not-clash.false in
    subst (λ (k : KeyValue). IsFirstMet c.args.sides.now (seen ++ (c.args.key.now, (c.args.here, c.args.there)) ∷ []) k c.meet-met.result.later c.meet-met.result.lower) (sym c.meet-met.ensures.key)
    (first_sooner c.args.sides.now seen (c.args.key.now, (c.args.here, c.args.there)) c.in-Some.earlier.key.now c.in-Some.earlier.later c.in-Some.earlier.lower
    (from_some (NoneClash c.args.sides.now seen) (λ met. IsFirstMet c.args.sides.now seen met.key.now met.later met.lower) c.args.first c.in-Some.earlier c.in-Some.is h)
    c.meet-met.result.later c.meet-met.result.lower clash c.meet-met.ensures.order c.if-met-earlier.true)

pub returns-else-met-earlier : goal.returns-else-met-earlier
returns-else-met-earlier c = λ seen h.
    let late : c.in-Some.earlier.later ≤ c.meet-met.result.later = c.if-met-earlier.false in
    first_stays c.args.sides.now seen (c.args.key.now, (c.args.here, c.args.there)) c.in-Some.earlier.key.now c.in-Some.earlier.later c.in-Some.earlier.lower
    (from_some (NoneClash c.args.sides.now seen) (λ met. IsFirstMet c.args.sides.now seen met.key.now met.later met.lower) c.args.first c.in-Some.earlier c.in-Some.is h)
    (λ _.
    elim c.meet-met.ensures.order [
      | inl o ↦ inl (let e : c.meet-met.result.later ≡ c.args.here = o.0 in omega (arith, e, late))
      | inr o ↦ inr (let e : c.meet-met.result.later ≡ c.args.there = o.0 in omega (arith, e, late))
    ])
