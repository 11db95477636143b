-- The words of `live` (this profile).
use Rattle.std.specs.Prelude.{◌∷◌, [], List, Option, codes, map, option_map}
use Rattle.clap.specs.Words.{Row, Text, first_of}
use Rattle.vrepl_choices.specs.declared.threading.Threading.{Threading}
use Rattle.vrepl_words.specs.Arguments.{flag_rule, operand_rule, operands_rule, option_rule, text_given, texts_given}
use Rattle.vrepl_words.specs.Choices.{threading_given}
use Rattle.vrepl_words.specs.Portions.{PortionsValue, portions_given, portions_value}
use Rattle.vrepl_words.specs.Subcommand.{Subcommand}
use Rattle.vrepl_words.specs.declared.commands.live.Live.{Live}

-- `live`: a workflow, a feed for each of its streams, how the streams run, in what portions, the checkpoint to go on from, if
-- there is one, and the file of the checkpoints that are saved, if there is one
pub record LiveValue : Type 0 where
  pub threading : Threading
  pub portions : PortionsValue
  pub checkpoint : Option Text
  pub save_to : Option Text
  pub workflow : Text
  pub feeds : List Text

-- what was read of them, without its references
abbrev pub live_value : Live → LiveValue
live_value live = record {
  threading = live.threading;
  portions = portions_value live.portions;
  checkpoint = option_map (λ name. name.now) live.checkpoint;
  save_to = option_map (λ name. name.now) live.save_to;
  workflow = live.workflow.now;
  feeds = map (λ feed. feed.now) live.feeds.items;
}

-- what is given to the arguments of `live`
abbrev pub live_given : List Row → PortionsValue → LiveValue
live_given given portions = record {
  threading = threading_given given;
  portions = portions;
  checkpoint = first_of (codes "checkpoint") given;
  save_to = first_of (codes "save-to") given;
  workflow = text_given (codes "workflow") given;
  feeds = texts_given (codes "feed") given;
}

-- `live [--alone] [--rows N] [--ahead N] [--chunks N] [--checkpoint TEXT] [--save-to TEXT] WORKFLOW FEED..`
abbrev pub live_subcommand : Subcommand LiveValue
live_subcommand = record {
  name = codes "live";
  rules = flag_rule (codes "alone") ∷ option_rule (codes "rows") ∷ option_rule (codes "ahead") ∷ option_rule (codes "chunks") ∷ option_rule (codes "checkpoint") ∷ option_rule (codes "save-to") ∷ operand_rule (codes "workflow") ∷ operands_rule (codes "feed") ∷ [];
  meaning = λ given. option_map (live_given given) (portions_given given);
}
