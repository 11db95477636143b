-- The words of `run` (this profile).
use Rattle.std.specs.Prelude.{◌∷◌, if◌then◌else◌, [], List, None, Option, codes, is_some, map, option_map}
use Rattle.clap.specs.Words.{Row, Text}
use Rattle.vrepl_choices.specs.UntilValue.{UntilValue, until_value}
use Rattle.vrepl_choices.specs.declared.feed_form.FeedForm.{FeedForm}
use Rattle.vrepl_choices.specs.declared.threading.Threading.{Threading}
use Rattle.vrepl_words.specs.Arguments.{flag_rule, further_rule, operand_rule, operands_rule, option_rule, text_given, texts_given}
use Rattle.vrepl_words.specs.Choices.{feed_form_given, telling_given, threading_given}
use Rattle.vrepl_words.specs.Portions.{PortionsValue, bad_portion, portions_given, portions_value}
use Rattle.vrepl_words.specs.Subcommand.{Subcommand}
use Rattle.vrepl_words.specs.Untils.{gives_untils, untils_given}
use Rattle.vrepl_words.specs.declared.choices.Telling.{Telling}
use Rattle.vrepl_words.specs.declared.commands.run.Run.{Run}
use Rattle.vrepl_words.specs.declared.commands.run.TheConstants.{UNTIL}

-- `run`: a workflow, a feed for each of its streams, how feeds are given, how the streams run, whether it is told how
-- far they are, in what portions, and up to which positions the feeds are read
pub record RunValue : Type 0 where
  pub feed_form : FeedForm
  pub threading : Threading
  pub telling : Telling
  pub portions : PortionsValue
  pub until : List UntilValue
  pub workflow : Text
  pub feeds : List Text

-- what was read of them, without its references
abbrev pub run_value : Run → RunValue
run_value run = record {
  feed_form = run.feed_form;
  threading = run.threading;
  telling = run.telling;
  portions = portions_value run.portions;
  until = map until_value run.until.items;
  workflow = run.workflow.now;
  feeds = map (λ feed. feed.now) run.feeds.items;
}

-- what is given to the arguments of `run`
abbrev pub run_given : List Row → PortionsValue → RunValue
run_given given portions = record {
  feed_form = feed_form_given given;
  threading = threading_given given;
  telling = telling_given given;
  portions = portions;
  until = untils_given (codes "until") given;
  workflow = text_given (codes "workflow") given;
  feeds = texts_given (codes "feed") given;
}

-- the portions, where each is a portion and each position's stream is a stream
abbrev pub run_numbers : List Row → Option PortionsValue
run_numbers given = if gives_untils (codes "until") given then portions_given given else None

-- `run [--hex] [--alone] [--progress] [--quiet] [--rows N] [--ahead N] [--chunks N] [--until TEXT].. WORKFLOW FEED..`
abbrev pub run_subcommand : Subcommand RunValue
run_subcommand = record {
  name = codes "run";
  rules = flag_rule (codes "hex") ∷ flag_rule (codes "alone") ∷ flag_rule (codes "progress") ∷ flag_rule (codes "quiet") ∷ option_rule (codes "rows") ∷ option_rule (codes "ahead") ∷ option_rule (codes "chunks") ∷ further_rule (codes "until")
      ∷ operand_rule (codes "workflow") ∷ operands_rule (codes "feed") ∷ [];
  meaning = λ given. option_map (run_given given) (run_numbers given);
}

-- what is told of the first number of `run` that is none
abbrev pub bad_run : List Row → Text
bad_run given = if is_some (portions_given given) then UNTIL.now else bad_portion given
