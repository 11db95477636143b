-- The words of `status` (this profile).
use Rattle.std.specs.Prelude.{◌∷◌, [], List, Some, codes, map}
use Rattle.clap.specs.Words.{Row, Text}
use Rattle.vrepl_choices.specs.declared.report_form.ReportForm.{ReportForm}
use Rattle.vrepl_words.specs.Arguments.{flag_rule, operands_rule, texts_given}
use Rattle.vrepl_words.specs.Choices.{report_form_given}
use Rattle.vrepl_words.specs.Subcommand.{Subcommand}
use Rattle.vrepl_words.specs.declared.commands.status.Status.{Status}

-- `status`: how it is printed, and checkpoints
pub record StatusValue : Type 0 where
  pub report_form : ReportForm
  pub checkpoints : List Text

-- what was read of them, without its references
abbrev pub status_value : Status → StatusValue
status_value status = record { report_form = status.report_form; checkpoints = map (λ checkpoint. checkpoint.now) status.checkpoints.items }

-- what is given to the arguments of `status`
abbrev pub status_given : List Row → StatusValue
status_given given = record { report_form = report_form_given given; checkpoints = texts_given (codes "checkpoint") given }

-- `status [--json] CHECKPOINT..`
abbrev pub status_subcommand : Subcommand StatusValue
status_subcommand = record {
  name = codes "status";
  rules = flag_rule (codes "json") ∷ operands_rule (codes "checkpoint") ∷ [];
  meaning = λ given. Some (status_given given);
}
