-- The words of `feed` (this profile).
use Rattle.std.specs.Prelude.{◌∷◌, [], List, Option, ℕ, codes, option_map}
use Rattle.clap.specs.Words.{Row, Text, first_of}
use Rattle.vrepl_words.specs.Arguments.{option_rule, optional_rule, stream_given}
use Rattle.vrepl_words.specs.Subcommand.{Subcommand}
use Rattle.vrepl_words.specs.declared.commands.feed.Feed.{Feed}

-- `feed`: the workflow and the stream whose feed is written, if there is one
pub record FeedValue : Type 0 where
  pub stream : ℕ
  pub workflow : Option Text

-- what was read of them, without its references
abbrev pub feed_value : Feed → FeedValue
feed_value feed = record { stream = feed.stream; workflow = option_map (λ name. name.now) feed.workflow }

-- what is given to the arguments of `feed`
abbrev pub feed_given : List Row → ℕ → FeedValue
feed_given given stream = record { stream = stream; workflow = first_of (codes "workflow") given }

-- `feed [--stream S] [WORKFLOW]`
abbrev pub feed_subcommand : Subcommand FeedValue
feed_subcommand = record {
  name = codes "feed";
  rules = option_rule (codes "stream") ∷ optional_rule (codes "workflow") ∷ [];
  meaning = λ given. option_map (feed_given given) (stream_given (codes "stream") given);
}
