use Rattle.std.proofs.Common.{◌≡◌, ◌∷◌, ◌++◌, [], List, MatchOption, refl, sym, ap, subst, ◌∙◌, append-nil, append_assoc}
use Rattle.apply_core.specs.Private.Meeting.{Met, NoneClash, IsFirstMet}
use Rattle.apply_core.proofs.join_rows.first_met.Goals as goal

pub loop-key-init : goal.loop-key-init
loop-key-init c = ([], refl, tt)

pub loop-key-preserved : goal.loop-key-preserved
loop-key-preserved c =
    let met : Met = (c.in-Some.key.now, (c.in-Some.here, c.in-Some.there)) in
    let seen : List Met = c.loop-key.invariant.0 in (
      seen ++ met ∷ [],
      c.loop-key.invariant.1 ∙ ap (λ (l : List Met). seen ++ l) c.in-Some.ensures ∙ sym (append_assoc seen (met ∷ []) c.next_key.new.self),
      c.keep_first-first.ensures seen c.loop-key.invariant.2,
    )

pub returns : goal.returns
returns c =
    let seen : List Met = c.loop-key.invariant.0 in
    let all : c.args.keys ≡ seen = c.loop-key.invariant.1 ∙ ap (λ (l : List Met). seen ++ l) c.in_default.ensures ∙ append-nil seen in
    subst (λ (l : List Met). MatchOption c.loop-key.first (NoneClash c.args.sides.now l) (λ met. IsFirstMet c.args.sides.now l met.key.now met.later met.lower)) (sym all) c.loop-key.invariant.2
