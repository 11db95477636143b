-- The words of `compact` (this profile).
use Rattle.std.specs.Prelude.{◌∷◌, [], Bool, List, Option, ℕ, codes, map, option_map}
use Rattle.clap.specs.Words.{Row, Text, first_of}
use Rattle.vrepl_choices.specs.declared.feed_form.FeedForm.{FeedForm}
use Rattle.vrepl_words.specs.Arguments.{flag_rule, further_rule, is_given, operand_rule, option_rule, stream_given, text_given, texts_given}
use Rattle.vrepl_words.specs.Choices.{feed_form_given, telling_given}
use Rattle.vrepl_words.specs.Subcommand.{Subcommand}
use Rattle.vrepl_words.specs.declared.choices.Telling.{Telling}
use Rattle.vrepl_words.specs.declared.commands.compact.Compact.{Compact}

-- `compact`: a workflow and the feed of one of its streams, how it is given, up to which position it is compacted, if one is
-- named, which checkpoints are to go on, whether rows of other tables are left out, whether it is told how far it is, and
-- the file of the new feed, if there is one
pub record CompactValue : Type 0 where
  pub feed_form : FeedForm
  pub save_to : Option Text
  pub stream : ℕ
  pub at : Option Text
  pub checkpoints : List Text
  pub drop_unknown : Bool
  pub telling : Telling
  pub workflow : Text
  pub feed : Text

-- what was read of them, without its references
abbrev pub compact_value : Compact → CompactValue
compact_value compact = record {
  feed_form = compact.feed_form;
  save_to = option_map (λ name. name.now) compact.save_to;
  stream = compact.stream;
  at = option_map (λ text. text.now) compact.at;
  checkpoints = map (λ name. name.now) compact.checkpoints.items;
  drop_unknown = compact.drop_unknown;
  telling = compact.telling;
  workflow = compact.workflow.now;
  feed = compact.feed.now;
}

-- what is given to the arguments of `compact`
abbrev pub compact_given : List Row → ℕ → CompactValue
compact_given given stream = record {
  feed_form = feed_form_given given;
  save_to = first_of (codes "save-to") given;
  stream = stream;
  at = first_of (codes "at") given;
  checkpoints = texts_given (codes "checkpoint") given;
  drop_unknown = is_given (codes "drop-unknown") given;
  telling = telling_given given;
  workflow = text_given (codes "workflow") given;
  feed = text_given (codes "feed") given;
}

-- `compact [--hex] [--save-to TEXT] [--stream S] [--at TEXT] [--checkpoint TEXT].. [--drop-unknown] [--progress] [--quiet] WORKFLOW FEED`
abbrev pub compact_subcommand : Subcommand CompactValue
compact_subcommand = record {
  name = codes "compact";
  rules = flag_rule (codes "hex") ∷ option_rule (codes "save-to") ∷ option_rule (codes "stream") ∷ option_rule (codes "at") ∷ further_rule (codes "checkpoint") ∷ flag_rule (codes "drop-unknown") ∷ flag_rule (codes "progress") ∷ flag_rule (codes "quiet") ∷ operand_rule (codes "workflow") ∷ operand_rule (codes "feed") ∷ [];
  meaning = λ given. option_map (compact_given given) (stream_given (codes "stream") given);
}
