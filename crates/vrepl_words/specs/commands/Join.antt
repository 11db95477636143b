-- The words of `join` (this profile).
use Rattle.std.specs.Prelude.{◌∷◌, [], List, Option, Some, codes, map, option_map}
use Rattle.clap.specs.Words.{Row, Text, first_of}
use Rattle.vrepl_choices.specs.declared.feed_form.FeedForm.{FeedForm}
use Rattle.vrepl_words.specs.Arguments.{flag_rule, further_rule, operand_rule, operands_rule, option_rule, text_given, texts_given}
use Rattle.vrepl_words.specs.Choices.{feed_form_given, telling_given}
use Rattle.vrepl_words.specs.Subcommand.{Subcommand}
use Rattle.vrepl_words.specs.declared.choices.Telling.{Telling}
use Rattle.vrepl_words.specs.declared.commands.join.Join.{Join}

-- `join`: a workflow, two checkpoints, further ones, a feed for each of its streams, how feeds are given, whether it is told
-- how far it is, and the file of the new checkpoint, if there is one
pub record JoinValue : Type 0 where
  pub feed_form : FeedForm
  pub workflow : Text
  pub one : Text
  pub other : Text
  pub more : List Text
  pub save_to : Option Text
  pub telling : Telling
  pub feeds : List Text

-- what was read of them, without its references
abbrev pub join_value : Join → JoinValue
join_value join = record {
  feed_form = join.feed_form;
  workflow = join.workflow.now;
  one = join.one.now;
  other = join.other.now;
  more = map (λ name. name.now) join.more.items;
  save_to = option_map (λ name. name.now) join.save_to;
  telling = join.telling;
  feeds = map (λ feed. feed.now) join.feeds.items;
}

-- what is given to the arguments of `join`
abbrev pub join_given : List Row → JoinValue
join_given given = record {
  feed_form = feed_form_given given;
  workflow = text_given (codes "workflow") given;
  one = text_given (codes "one") given;
  other = text_given (codes "other") given;
  more = texts_given (codes "also") given;
  save_to = first_of (codes "save-to") given;
  telling = telling_given given;
  feeds = texts_given (codes "feed") given;
}

-- `join [--hex] [--also TEXT].. [--save-to TEXT] [--progress] [--quiet] WORKFLOW A B FEED..`
abbrev pub join_subcommand : Subcommand JoinValue
join_subcommand = record {
  name = codes "join";
  rules = flag_rule (codes "hex") ∷ further_rule (codes "also") ∷ option_rule (codes "save-to") ∷ flag_rule (codes "progress") ∷ flag_rule (codes "quiet") ∷ operand_rule (codes "workflow") ∷ operand_rule (codes "one") ∷ operand_rule (codes "other") ∷ operands_rule (codes "feed") ∷ [];
  meaning = λ given. Some (join_given given);
}
