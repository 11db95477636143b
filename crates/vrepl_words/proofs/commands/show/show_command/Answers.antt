use Rattle.std.proofs.Common.{codes}
use Rattle.clap.specs.Words.{new_app}
use Rattle.vrepl_words.proofs.commands.show.show_command.Goals as goal

pub returns : goal.returns
returns c =
    let hex = c.with_arg-command.ensures (new_app (codes "show")) _ c.bare.ensures c.hex.ensures in
    let json = c.with_arg-command-2.ensures _ _ hex c.flag.ensures in
    let keyspace = c.with_arg-command-3.ensures _ _ json c.option.ensures in
    let shard = c.with_arg-command-4.ensures _ _ keyspace c.option-2.ensures in
    c.with_arg.ensures _ _ shard c.operand.ensures
