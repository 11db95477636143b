-- The words of `transcribe` (this profile).
use Rattle.std.specs.Prelude.{◌∷◌, [], List, Option, Some, codes, map, option_map}
use Rattle.clap.specs.Words.{Row, Text, first_of}
use Rattle.vrepl_words.specs.Arguments.{needed_rule, operand_rule, operands_rule, option_rule, text_given, texts_given}
use Rattle.vrepl_words.specs.Subcommand.{Subcommand}
use Rattle.vrepl_words.specs.declared.commands.transcribe.Transcribe.{Transcribe}

-- `transcribe`: a workflow, the shard of one of its streams, the schema of its tables in a server's logs, if it is named, the
-- logs, the file of the new feed, if there is one, and the feed behind which to go on, if there is one
pub record TranscribeValue : Type 0 where
  pub save_to : Option Text
  pub after : Option Text
  pub shard : Text
  pub schema : Option Text
  pub workflow : Text
  pub logs : List Text

-- what was read of them, without its references
abbrev pub transcribe_value : Transcribe → TranscribeValue
transcribe_value transcribe = record {
  save_to = option_map (λ name. name.now) transcribe.save_to;
  after = option_map (λ name. name.now) transcribe.after;
  shard = transcribe.shard.now;
  schema = option_map (λ name. name.now) transcribe.schema;
  workflow = transcribe.workflow.now;
  logs = map (λ log. log.now) transcribe.logs.items;
}

-- what is given to the arguments of `transcribe`
abbrev pub transcribe_given : List Row → TranscribeValue
transcribe_given given = record {
  save_to = first_of (codes "save-to") given;
  after = first_of (codes "after") given;
  shard = text_given (codes "shard") given;
  schema = first_of (codes "schema") given;
  workflow = text_given (codes "workflow") given;
  logs = texts_given (codes "log") given;
}

-- `transcribe [--save-to TEXT] [--after TEXT] --shard TEXT [--schema TEXT] WORKFLOW LOG..`
abbrev pub transcribe_subcommand : Subcommand TranscribeValue
transcribe_subcommand = record {
  name = codes "transcribe";
  rules = option_rule (codes "save-to") ∷ option_rule (codes "after") ∷ needed_rule (codes "shard") ∷ option_rule (codes "schema") ∷ operand_rule (codes "workflow") ∷ operands_rule (codes "log") ∷ [];
  meaning = λ given. Some (transcribe_given given);
}
