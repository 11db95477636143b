-- The words of `step` (this profile).
use Rattle.std.specs.Prelude.{◌∷◌, [], List, Some, codes, map}
use Rattle.clap.specs.Words.{Row, Text}
use Rattle.vrepl_choices.specs.declared.feed_form.FeedForm.{FeedForm}
use Rattle.vrepl_words.specs.Arguments.{flag_rule, operand_rule, operands_rule, text_given, texts_given}
use Rattle.vrepl_words.specs.Choices.{feed_form_given}
use Rattle.vrepl_words.specs.Subcommand.{Subcommand}
use Rattle.vrepl_words.specs.declared.commands.step.Step.{Step}

-- `step`: a workflow, a feed for each of its streams, and how feeds are given
pub record StepValue : Type 0 where
  pub feed_form : FeedForm
  pub workflow : Text
  pub feeds : List Text

-- what was read of them, without its references
abbrev pub step_value : Step → StepValue
step_value step = record { feed_form = step.feed_form; workflow = step.workflow.now; feeds = map (λ feed. feed.now) step.feeds.items }

-- what is given to the arguments of `step`
abbrev pub step_given : List Row → StepValue
step_given given = record { feed_form = feed_form_given given; workflow = text_given (codes "workflow") given; feeds = texts_given (codes "feed") given }

-- `step [--hex] WORKFLOW FEED..`
abbrev pub step_subcommand : Subcommand StepValue
step_subcommand = record {
  name = codes "step";
  rules = flag_rule (codes "hex") ∷ operand_rule (codes "workflow") ∷ operands_rule (codes "feed") ∷ [];
  meaning = λ given. Some (step_given given);
}
