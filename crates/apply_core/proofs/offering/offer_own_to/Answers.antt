use Rattle.std.proofs.Common.{◌≡◌, Option, Some, length, slice_get, refl, sym, ap, subst, ◌∙◌}
use Rattle.std.proofs.lemmas.Option.{slice_get_read}
use Rattle.std.specs.Prelude.{IfSome}
use Rattle.std.specs.Arc.{arc_value}
use Rattle.board_laws.specs.Meaning.{State}
use Rattle.apply_core.proofs.StepLaws.{step-at}
use Rattle.apply_core.proofs.offering.offer_own_to.Goals as goal

pub returns : goal.returns
returns c = step-at _ c.in_ok-place.place _ c.index-streams-place.result c.in_ok-place.ensures.place c.in_ok-place.ensures.within _ _ _ c.offer_own.ensures

pub offer_own-requires : goal.offer_own-requires
offer_own-requires c =
    let at : slice_get c.args.streams.now c.in_ok-place.place ≡ Some c.index-streams-place.result
    = slice_get_read c.args.streams.now (length c.args.streams.now) c.in_ok-place.place c.index-streams-place.result refl c.in_ok-place.ensures.within c.index-streams-place.is in
    subst (λ (state : State). (arc_value c.args.group).plan ≡ state.plan) c.index-streams-place.is
    (subst (λ (o : Option State). IfSome o (λ state. (arc_value c.args.group).plan ≡ state.plan))
    (ap (λ n. slice_get c.args.streams.now n) (sym c.in_ok-place.ensures.place) ∙ at) c.requires)
