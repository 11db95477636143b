use Rattle.std.proofs.Common.{codes}
use Rattle.clap.specs.Words.{new_app}
use Rattle.vrepl_words.proofs.commands.save.save_command.Goals as goal

pub returns : goal.returns
returns c =
    let hex = c.with_arg-command.ensures (new_app (codes "save")) _ c.bare.ensures c.hex.ensures in
    let save_to = c.with_arg-command-2.ensures _ _ hex c.save_to.ensures in
    let strict = c.with_arg.ensures _ _ save_to c.flag.ensures in
    c.with_streams.ensures _ strict
