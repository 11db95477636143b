-- What the builders of arguments and commands have built.
use Rattle.std.specs.Prelude.{◌∷◌, ◌≡◌, [], IfOk, List, Result, codes, false, true}
use Rattle.clap.specs.Words.{App, Rule, Shape, app_of, new_app, rule_of, with_subcommand}
use Rattle.clap.specs.Simple.{new_shape}
use Rattle.clap.specs.declared.builder.arg.Arg.{Arg}
use Rattle.clap.specs.declared.builder.command.Command.{Command}
use Rattle.clap.specs.declared.builder.command.Command.TheViews.{out-Command}
use Rattle.vrepl_words.specs.Subcommand.{Subcommand, shape_of_subcommand}

-- the argument is this one, for its own command alone
abbrev pub HasRule : Rule → Arg → Type 0
HasRule rule arg = (rule_of arg ≡ rule) × (arg.global ≡ false)

-- the command is this one, and no argument is for its subcommands too
abbrev pub HasApp : App → Command → Type 0
HasApp app command = (app_of command ≡ app) × ((out-Command command).has_globals ≡ false)

-- the command is this subcommand
abbrev pub IsSubcommand : {V : Type 0} → Subcommand V → Command → Type 0
IsSubcommand sub command = HasApp (record { top = shape_of_subcommand sub; subs = [] }) command

-- the program's command without its subcommands
abbrev pub bare_app : App
bare_app = record (new_app (codes "vrepl")) {
  top = record (new_shape (codes "vrepl")) { no_binary_name = true; has_version = true; subcommand_required = true };
}

-- the same with these subcommands, of which the last one stands first
abbrev pub app_with : List Shape → App
app_with [] = bare_app
app_with (sub ∷ before) = with_subcommand (app_with before) sub

-- what was built, unless memory ran out, is the program's command with these subcommands, of which the last one stands first
pub record HasSubcommands {E : Type 0} (subs : List Shape) (command : Result Command E) : Type 0 where
  pub has : IfOk command (HasApp (app_with subs))

-- what was built, unless memory ran out for one of the two, is this command with one more subcommand
pub record HasOneMore {E : Type 0} (command sub made : Result Command E) : Type 0 where
  pub has : (app leaf : App) → IfOk command (HasApp app) → IfOk sub (HasApp leaf) → IfOk made (HasApp (with_subcommand app leaf.top))
