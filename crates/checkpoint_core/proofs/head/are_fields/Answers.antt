use Rattle.std.proofs.Common.{◌∙◌, sym}
use Rattle.std.proofs.lemmas.Bool.{true≢false}
use Rattle.vevent.specs.ColumnView.{field_value}
use Rattle.checkpoint_core.proofs.Items.{some_left}
use Rattle.checkpoint_core.proofs.head.are_fields.Goals as goal

pub returns-in-None : goal.returns-in-None
returns-in-None c = (
  λ no. absurd (true≢false (sym no)),
  λ whole. absurd (some_left field_value c.args.wanted.now c.loop-other.other-index c.loop-other-test.true (sym c.in-None.ensures.steps.0 ∙ c.loop-other.invariant.1 whole)),
)
