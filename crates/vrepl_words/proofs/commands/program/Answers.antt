use Rattle.std.proofs.Common.{map, reverse}
use Rattle.vrepl_words.specs.Built.{HasSubcommands}
use Rattle.vrepl_words.specs.Subcommand.{shape_of_subcommand}
use Rattle.vrepl_words.specs.commands.{program_app, subcommands}
use Rattle.vrepl_words.proofs.Builders.{has_none, has_one_more}
use Rattle.vrepl_words.proofs.commands.program.Goals as goal

-- for 64 subcommands at most
pub returns : goal.returns
unfolding program_app
returns c =
    let all : HasSubcommands (reverse (map shape_of_subcommand subcommands)) c.with_subcommand.result = search (has_one_more, has_none) depth 64 fits 4000 in
    all.has
