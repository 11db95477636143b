-- The words of `tiles` (this profile).
use Rattle.std.specs.Prelude.{◌∷◌, [], List, Some, codes, map}
use Rattle.clap.specs.Words.{Row, Text}
use Rattle.vrepl_words.specs.Arguments.{operands_rule, texts_given}
use Rattle.vrepl_words.specs.Subcommand.{Subcommand}
use Rattle.vrepl_words.specs.declared.commands.tiles.Tiles.{Tiles}

-- `tiles`: the workflows of several targets
pub record TilesValue : Type 0 where
  pub workflows : List Text

-- what was read of them, without its references
abbrev pub tiles_value : Tiles → TilesValue
tiles_value tiles = record { workflows = map (λ workflow. workflow.now) tiles.workflows.items }

-- what is given to the arguments of `tiles`
abbrev pub tiles_given : List Row → TilesValue
tiles_given given = record { workflows = texts_given (codes "workflow") given }

-- `tiles WORKFLOW..`
abbrev pub tiles_subcommand : Subcommand TilesValue
tiles_subcommand = record {
  name = codes "tiles";
  rules = operands_rule (codes "workflow") ∷ [];
  meaning = λ given. Some (tiles_given given);
}
