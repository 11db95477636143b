use Rattle.std.proofs.Common.{refl, true, codes}
use Rattle.clap.specs.Words.{App, new_app}
use Rattle.clap.specs.Simple.{Shape, on_top}
use Rattle.vrepl_words.specs.Built.{HasApp}
use Rattle.vrepl_words.proofs.Builders.{sets}
use Rattle.vrepl_words.proofs.commands.bare_program.Goals as goal

pub returns : goal.returns
returns c =
    let new : HasApp (new_app (codes "vrepl")) c.new.result = (c.new.ensures.app, c.new.ensures.local) in
    let named = sets (λ (a : App). a) _ c.new.result c.in_ok-command.command _ c.in_ok-command.ensures.0 refl refl new in
    let about = sets (λ (a : App). a) _ c.in_ok-command.command c.about.result _ c.about.ensures refl refl named in
    let after = sets (λ (a : App). a) _ c.about.result c.after_help.result _ c.after_help.ensures refl refl about in
    let version = sets (on_top (λ (s : Shape). record s { has_version = true })) _ c.after_help.result c.version.result _ c.version.ensures refl refl after in
    let words = sets (on_top (λ (s : Shape). record s { no_binary_name = true })) _ c.version.result c.no_binary_name.result _ c.no_binary_name.ensures refl refl version in
    sets (on_top (λ (s : Shape). record s { subcommand_required = true })) _ c.no_binary_name.result c.subcommand_required.result _ c.subcommand_required.ensures refl refl words
