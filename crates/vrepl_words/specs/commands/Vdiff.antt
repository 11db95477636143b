-- The words of `vdiff` (this profile).
use Rattle.std.specs.Prelude.{◌∷◌, [], Bool, List, Option, ℕ, codes, option_map}
use Rattle.clap.specs.Words.{Row, Text, first_of}
use Rattle.vrepl_choices.specs.declared.report_form.ReportForm.{ReportForm}
use Rattle.vrepl_words.specs.Arguments.{count_given, flag_rule, is_given, operand_rule, option_rule, text_given}
use Rattle.vrepl_words.specs.Choices.{report_form_given, telling_given}
use Rattle.vrepl_words.specs.Subcommand.{Subcommand}
use Rattle.vrepl_words.specs.declared.choices.Telling.{Telling}
use Rattle.vrepl_words.specs.declared.commands.vdiff.Vdiff.{Vdiff}

-- `vdiff`: a workflow, the dumps of a source and of a target, whether the counts of each table are printed too, how many
-- differences are, where a number is given, how all is printed, whether differences are printed as a person reads them, the
-- schema whose rows are repaired, if one is, and whether it is told how far it is
pub record VdiffValue : Type 0 where
  pub tables : Bool
  pub first : Option ℕ
  pub report_form : ReportForm
  pub readable : Bool
  pub sql : Option Text
  pub telling : Telling
  pub workflow : Text
  pub source : Text
  pub target : Text

-- what was read of them, without its references
abbrev pub vdiff_value : Vdiff → VdiffValue
vdiff_value files = record {
  tables = files.tables;
  first = files.first;
  report_form = files.report_form;
  readable = files.readable;
  sql = option_map (λ name. name.now) files.sql;
  telling = files.telling;
  workflow = files.workflow.now;
  source = files.source.now;
  target = files.target.now;
}

-- what is given to the arguments of `vdiff`
abbrev pub vdiff_given : List Row → Option ℕ → VdiffValue
vdiff_given given first = record {
  tables = is_given (codes "tables") given;
  first = first;
  report_form = report_form_given given;
  readable = is_given (codes "text") given;
  sql = first_of (codes "sql") given;
  telling = telling_given given;
  workflow = text_given (codes "workflow") given;
  source = text_given (codes "source") given;
  target = text_given (codes "target") given;
}

-- `vdiff [--tables] [--first N] [--json] [--text] [--sql TEXT] [--progress] [--quiet] WORKFLOW SOURCE TARGET`
abbrev pub vdiff_subcommand : Subcommand VdiffValue
vdiff_subcommand = record {
  name = codes "vdiff";
  rules = flag_rule (codes "tables") ∷ option_rule (codes "first") ∷ flag_rule (codes "json") ∷ flag_rule (codes "text") ∷ option_rule (codes "sql") ∷ flag_rule (codes "progress") ∷ flag_rule (codes "quiet") ∷ operand_rule (codes "workflow") ∷ operand_rule (codes "source") ∷ operand_rule (codes "target") ∷ [];
  meaning = λ given. option_map (vdiff_given given) (count_given (codes "first") given);
}
