use Rattle.std.proofs.Common.{List, refl, subst}
use Rattle.board_laws.specs.declared.answer.Answer.TheVariants.{Offered}
use Rattle.board_laws.specs.Meaning.{State, Meaning}
use Rattle.board_laws.specs.Event.{offer}
use Rattle.board_laws.specs.Step.{answered, IsStep}
use Rattle.apply_core.specs.Private.StreamStep.{IsStreamStep}
use Rattle.apply_core.proofs.BoardLaws.{still-step}
use Rattle.apply_core.proofs.board.Board.judge_offer.Goals as goal

pub returns : goal.returns
returns c =
    subst (λ (b : Meaning). IsStep c.args.self.now c.args.s (offer c.args.group.now) (answered Offered c.judge_offer_to.result) b) c.self.view_is
    (still-step c.steps_keep_boards_lawful.ensures.still c.self.inside.streams.items c.self.inside.streams.items c.self.inside.rows.entries c.args.self.now c.self.view_is c.args.s (offer c.args.group.now)
    (answered Offered c.judge_offer_to.result) c.self.invariant c.know_group.ensures (λ state key. refl)
    (subst (λ (xs : List State). IsStreamStep xs c.args.s (offer c.args.group.now) (answered Offered c.judge_offer_to.result) xs) c.deref.ensures.value c.judge_offer_to.ensures))
