-- The words of `resume` (this profile).
use Rattle.std.specs.Prelude.{◌∷◌, [], List, Some, codes}
use Rattle.clap.specs.Words.{Row, Text}
use Rattle.vrepl_words.specs.Arguments.{flag_rule, needed_rule, operand_rule, operands_rule, text_given}
use Rattle.vrepl_words.specs.Choices.{telling_given}
use Rattle.vrepl_words.specs.Subcommand.{Subcommand}
use Rattle.vrepl_words.specs.commands.Step.{StepValue, step_given, step_value}
use Rattle.vrepl_words.specs.declared.choices.Telling.{Telling}
use Rattle.vrepl_words.specs.declared.commands.resume.Resume.{Resume}

-- `resume`: a checkpoint, whether it is told how far it is, and what `step` is given
pub record ResumeValue : Type 0 where
  pub checkpoint : Text
  pub telling : Telling
  pub step : StepValue

-- what was read of them, without its references
abbrev pub resume_value : Resume → ResumeValue
resume_value resume = record { checkpoint = resume.checkpoint.now; telling = resume.telling; step = step_value resume.step }

-- what is given to the arguments of `resume`
abbrev pub resume_given : List Row → ResumeValue
resume_given given = record { checkpoint = text_given (codes "checkpoint") given; telling = telling_given given; step = step_given given }

-- `resume [--hex] --checkpoint TEXT [--progress] [--quiet] WORKFLOW FEED..`
abbrev pub resume_subcommand : Subcommand ResumeValue
resume_subcommand = record {
  name = codes "resume";
  rules = flag_rule (codes "hex") ∷ needed_rule (codes "checkpoint") ∷ flag_rule (codes "progress") ∷ flag_rule (codes "quiet") ∷ operand_rule (codes "workflow") ∷ operands_rule (codes "feed") ∷ [];
  meaning = λ given. Some (resume_given given);
}
