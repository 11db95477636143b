-- What a builder's step makes of a command, or of an argument.
use Rattle.std.proofs.Common.{◌≡◌, ◌∙◌, ap, ap₂, ◌||◌, [], ◌∷◌, List, Option, Result}
use Rattle.std.specs.Prelude.{IfOk}
use Rattle.clap.specs.Words.{AddsArg, AddsSubcommand, App, Rule, Shape, app_of, rule_of, with_rule, with_subcommand}
use Rattle.clap.specs.Simple.{app_of_fields}
use Rattle.clap.specs.declared.builder.arg.Arg.{Arg}
use Rattle.clap.specs.declared.builder.range.ValueRange.{ValueRange}
use Rattle.clap.specs.declared.builder.command.Command.{Command}
use Rattle.clap.specs.declared.builder.command.Command.TheOpen.{Command-F}
use Rattle.clap.specs.declared.builder.command.Command.TheViews.{out-Command}
use Rattle.vrepl_words.specs.Built.{HasApp, HasOneMore, HasRule, HasSubcommands, app_with, bare_app}

-- a setting, which changes a field
pub sets : (f : App → App) (app : App) (old new : Command) (fields : Command-F Command) → out-Command new ≡ fields
    → app_of_fields fields ≡ f (app_of old) → fields.has_globals ≡ (out-Command old).has_globals
    → HasApp app old → HasApp (f app) new
sets f app old new fields e app_is globals has =
    (ap app_of_fields e ∙ app_is ∙ ap f has.0, ap (λ (x : Command-F Command). x.has_globals) e ∙ globals ∙ has.1)

pub adds_rule : (app : App) (rule : Rule) (old new : Command) (arg : Arg) → AddsArg old arg new → HasApp app old → HasRule rule arg
    → HasApp (with_rule app rule) new
adds_rule app rule old new arg adds has is =
    (adds.shape is.1 ∙ ap₂ with_rule has.0 is.0, adds.globals ∙ ap₂ ◌||◌ has.1 is.1)

pub adds_subcommand : (app leaf : App) (old new sub : Command) → AddsSubcommand old sub new → HasApp app old → HasApp leaf sub
    → HasApp (with_subcommand app leaf.top) new
adds_subcommand app leaf old new sub adds has is =
    (adds.shape is.1 ∙ ap₂ with_subcommand has.0 (ap (λ (a : App). a.top) is.0), adds.globals ∙ ap₂ ◌||◌ has.1 is.1)

-- an argument that is given a range
pub ranged : (old made : Arg) (range : Option ValueRange) → made ≡ record old { num_vals = range } → rule_of made ≡ record (rule_of old) { range = range }
ranged old made range is = ap rule_of is

pub ranged_alone : (old made : Arg) (range : Option ValueRange) → made ≡ record old { num_vals = range } → made.global ≡ old.global
ranged_alone old made range is = ap (λ (a : Arg). a.global) is

-- the program's command without its subcommands, and with one more
pub has_none : {E : Type 0} (command : Result Command E) → IfOk command (HasApp bare_app) → HasSubcommands [] command
has_none command is = record { has = is }

pub has_one_more : {E : Type 0} (command sub made : Result Command E) (before : List Shape) (shape : Shape) → HasOneMore command sub made → HasSubcommands before command → IfOk sub (HasApp (record { top = shape; subs = [] })) → HasSubcommands (shape ∷ before) made
has_one_more command sub made before shape more has is = record { has = more.has (app_with before) (record { top = shape; subs = [] }) has.has is }
