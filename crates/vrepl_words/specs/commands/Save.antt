-- The words of `save` (this profile).
use Rattle.std.specs.Prelude.{◌∷◌, [], Bool, List, Option, Some, codes, option_map}
use Rattle.clap.specs.Words.{Row, Text, first_of}
use Rattle.vrepl_words.specs.Arguments.{flag_rule, is_given, operand_rule, operands_rule, option_rule}
use Rattle.vrepl_words.specs.Subcommand.{Subcommand}
use Rattle.vrepl_words.specs.commands.Step.{StepValue, step_given, step_value}
use Rattle.vrepl_words.specs.declared.commands.save.Save.{Save}

-- `save`: the file of the checkpoint, if there is one, whether refused steps are as a refusal, and what `step` is given
pub record SaveValue : Type 0 where
  pub save_to : Option Text
  pub strict : Bool
  pub step : StepValue

-- what was read of them, without its references
abbrev pub save_value : Save → SaveValue
save_value save = record { save_to = option_map (λ name. name.now) save.save_to; strict = save.strict; step = step_value save.step }

-- what is given to the arguments of `save`
abbrev pub save_given : List Row → SaveValue
save_given given = record { save_to = first_of (codes "save-to") given; strict = is_given (codes "strict") given; step = step_given given }

-- `save [--hex] [--save-to TEXT] [--strict] WORKFLOW FEED..`
abbrev pub save_subcommand : Subcommand SaveValue
save_subcommand = record {
  name = codes "save";
  rules = flag_rule (codes "hex") ∷ option_rule (codes "save-to") ∷ flag_rule (codes "strict") ∷ operand_rule (codes "workflow") ∷ operands_rule (codes "feed") ∷ [];
  meaning = λ given. Some (save_given given);
}
