use Rattle.std.proofs.Common.{List, ap}
use Rattle.clap.specs.Words.{Text}
use Rattle.vrepl_words.specs.commands.Tiles.{TilesValue}
use Rattle.vrepl_words.proofs.commands.tiles.tiles_words.Goals as goal

tiles : List Text → TilesValue
tiles workflows = record { workflows = workflows }

pub returns : goal.returns
unfolding tiles
returns c = ap tiles c.in_ok-workflows.ensures
