-- The words of `check` (this profile).
use Rattle.std.specs.Prelude.{◌∷◌, [], Bool, List, Some, codes}
use Rattle.clap.specs.Words.{Row}
use Rattle.vrepl_choices.specs.declared.report_form.ReportForm.{ReportForm}
use Rattle.vrepl_words.specs.Arguments.{flag_rule, is_given, operand_rule, operands_rule}
use Rattle.vrepl_words.specs.Choices.{report_form_given, telling_given}
use Rattle.vrepl_words.specs.Subcommand.{Subcommand}
use Rattle.vrepl_words.specs.commands.Step.{StepValue, step_given, step_value}
use Rattle.vrepl_words.specs.declared.choices.Telling.{Telling}
use Rattle.vrepl_words.specs.declared.commands.check.Check.{Check}

-- `check`: how the report is printed, whether notes are as warnings, whether it is told how far it is, and what `step` is
-- given
pub record CheckValue : Type 0 where
  pub report_form : ReportForm
  pub strict : Bool
  pub telling : Telling
  pub step : StepValue

-- what was read of them, without its references
abbrev pub check_value : Check → CheckValue
check_value check = record { report_form = check.report_form; strict = check.strict; telling = check.telling; step = step_value check.step }

-- what is given to the arguments of `check`
abbrev pub check_given : List Row → CheckValue
check_given given = record { report_form = report_form_given given; strict = is_given (codes "strict") given; telling = telling_given given; step = step_given given }

-- `check [--hex] [--json] [--strict] [--progress] [--quiet] WORKFLOW FEED..`
abbrev pub check_subcommand : Subcommand CheckValue
check_subcommand = record {
  name = codes "check";
  rules = flag_rule (codes "hex") ∷ flag_rule (codes "json") ∷ flag_rule (codes "strict") ∷ flag_rule (codes "progress") ∷ flag_rule (codes "quiet") ∷ operand_rule (codes "workflow") ∷ operands_rule (codes "feed") ∷ [];
  meaning = λ given. Some (check_given given);
}
