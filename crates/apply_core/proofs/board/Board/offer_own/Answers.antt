use Rattle.std.proofs.Common.{◌≡◌, ◌∙◌, List, length, refl, sym, ap, subst, arith, slice_get}
use Rattle.std.specs.Prelude.{IfSome}
use Rattle.std.specs.Arc.{arc_value}
use Rattle.source_feed.specs.Prepared.{IsPrepared}
use Rattle.board_laws.specs.declared.answer.Answer.TheVariants.{Offered}
use Rattle.board_laws.specs.Event.{offer}
use Rattle.board_laws.specs.Meaning.{State, Meaning}
use Rattle.board_laws.specs.Step.{answered}
use Rattle.apply_core.proofs.BoardLaws.{lent-step, lent-lawful}
use Rattle.apply_core.proofs.board.Board.offer_own.Goals as goal

pub invariant_of-self : goal.invariant_of-self
invariant_of-self c =
    let same : length c.offer_own_to.new.streams ≡ c.self.inside.streams.len = omega (arith, c.offer_own_to.auto.streams, c.deref_mut.ensures.len) in
    lent-lawful c.steps_keep_boards_lawful.ensures.still c.self.inside.streams.items c.self.inside.rows.entries c.args.s (offer (arc_value c.args.group)) (answered Offered c.offer_own_to.result) c.deref_mut.result.now c.offer_own_to.new.streams
    c.deref_mut.ensures.value c.self.invariant (subst IsPrepared c.deref.ensures c.know_group.ensures) (λ state key. refl) c.offer_own_to.ensures c.self.inside.streams.len same

pub returns : goal.returns
returns c =
    let same : length c.offer_own_to.new.streams ≡ c.self.inside.streams.len = omega (arith, c.offer_own_to.auto.streams, c.deref_mut.ensures.len) in
    lent-step c.steps_keep_boards_lawful.ensures.still c.self.inside.streams.items c.self.inside.rows.entries c.args.s (offer (arc_value c.args.group)) (answered Offered c.offer_own_to.result) c.deref_mut.result.now c.offer_own_to.new.streams
    c.deref_mut.ensures.value c.self.invariant (subst IsPrepared c.deref.ensures c.know_group.ensures) (λ state key. refl) c.offer_own_to.ensures c.self.inside.streams.len same c.args.self.now c.self.view_is

pub offer_own_to-requires : goal.offer_own_to-requires
offer_own_to-requires c =
    let here : c.deref_mut.result.now ≡ c.args.self.now.streams = c.deref_mut.ensures.value ∙ ap (λ (m : Meaning). m.streams) c.self.view_is in
    subst (λ (xs : List State). IfSome (slice_get xs c.args.s) (λ state. (arc_value c.args.group).plan ≡ state.plan)) (sym here) c.requires
