use Rattle.std.proofs.Common.{◌∙◌, length, sym}
use Rattle.std.proofs.lemmas.Bool.{false≢true}
use Rattle.std.proofs.lemmas.List.{length-map}
use Rattle.std.specs.Arc.{arc_value}
use Rattle.board_laws.specs.Meaning.{State}
use Rattle.apply_core.proofs.adding.board_is_extended.Goals as goal

pub returns-then-not-are_as_many : goal.returns-then-not-are_as_many
returns-then-not-are_as_many c = (
  λ is. absurd (false≢true is),
  λ all.
      sym c.if-not-are_as_many.true
      ∙ c.are_as_many.ensures.1 (sym (length-map c.args.plans.now arc_value) ∙ all.count ∙ length-map c.args.board.now.streams (λ (state : State). state.plan)),
)
