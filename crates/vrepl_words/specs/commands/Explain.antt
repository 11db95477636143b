-- The words of `explain` (this profile).
use Rattle.std.specs.Prelude.{◌∷◌, [], List, Option, ℕ, codes, option_map}
use Rattle.clap.specs.Words.{Row}
use Rattle.vrepl_choices.specs.declared.report_form.ReportForm.{ReportForm}
use Rattle.vrepl_words.specs.Arguments.{flag_rule, optional_rule, refusal_given}
use Rattle.vrepl_words.specs.Choices.{report_form_given}
use Rattle.vrepl_words.specs.Subcommand.{Subcommand}
use Rattle.vrepl_words.specs.declared.commands.explain.Explain.{Explain}

-- `explain`: how it is printed, and a refusal's number, or none for all of them
pub record ExplainValue : Type 0 where
  pub report_form : ReportForm
  pub number : Option ℕ

-- what was read of them, without its references
abbrev pub explain_value : Explain → ExplainValue
explain_value explain = record { report_form = explain.report_form; number = explain.number }

-- what is given to the arguments of `explain`
abbrev pub explain_given : List Row → Option ℕ → ExplainValue
explain_given given number = record { report_form = report_form_given given; number = number }

-- `explain [--json] [NUMBER]`
abbrev pub explain_subcommand : Subcommand ExplainValue
explain_subcommand = record {
  name = codes "explain";
  rules = flag_rule (codes "json") ∷ optional_rule (codes "number") ∷ [];
  meaning = λ given. option_map (explain_given given) (refusal_given (codes "number") given);
}
