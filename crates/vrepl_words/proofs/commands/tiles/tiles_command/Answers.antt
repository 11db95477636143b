use Rattle.std.proofs.Common.{codes}
use Rattle.clap.specs.Words.{new_app}
use Rattle.vrepl_words.proofs.commands.tiles.tiles_command.Goals as goal

pub returns : goal.returns
returns c = c.with_arg.ensures (new_app (codes "tiles")) _ c.bare.ensures c.operands.ensures
