-- The words of `show` (this profile).
use Rattle.std.specs.Prelude.{◌∷◌, [], List, Some, codes}
use Rattle.clap.specs.Words.{Row, Text}
use Rattle.vrepl_choices.specs.declared.feed_form.FeedForm.{FeedForm}
use Rattle.vrepl_choices.specs.declared.report_form.ReportForm.{ReportForm}
use Rattle.vrepl_words.specs.Arguments.{flag_rule, operand_rule, option_rule, text_given}
use Rattle.vrepl_words.specs.Choices.{feed_form_given, report_form_given}
use Rattle.vrepl_words.specs.Subcommand.{Subcommand}
use Rattle.vrepl_words.specs.declared.commands.show.Show.{Show}

-- `show`: a feed, whose it is, how it is given, and how its groups are printed
pub record ShowValue : Type 0 where
  pub feed_form : FeedForm
  pub report_form : ReportForm
  pub keyspace : Text
  pub shard : Text
  pub feed : Text

-- what was read of them, without its references
abbrev pub show_value : Show → ShowValue
show_value show = record {
  feed_form = show.feed_form;
  report_form = show.report_form;
  keyspace = show.keyspace.now;
  shard = show.shard.now;
  feed = show.feed.now;
}

-- what is given to the arguments of `show`
abbrev pub show_given : List Row → ShowValue
show_given given = record {
  feed_form = feed_form_given given;
  report_form = report_form_given given;
  keyspace = text_given (codes "keyspace") given;
  shard = text_given (codes "shard") given;
  feed = text_given (codes "feed") given;
}

-- `show [--hex] [--json] [--keyspace TEXT] [--shard TEXT] FEED`
abbrev pub show_subcommand : Subcommand ShowValue
show_subcommand = record {
  name = codes "show";
  rules = flag_rule (codes "hex") ∷ flag_rule (codes "json") ∷ option_rule (codes "keyspace") ∷ option_rule (codes "shard") ∷ operand_rule (codes "feed") ∷ [];
  meaning = λ given. Some (show_given given);
}
