use Rattle.std.proofs.Common.{codes}
use Rattle.clap.specs.Words.{new_app}
use Rattle.vrepl_words.proofs.commands.status.status_command.Goals as goal

pub returns : goal.returns
returns c =
    let json = c.with_arg-command.ensures (new_app (codes "status")) _ c.bare.ensures c.flag.ensures in
    c.with_arg.ensures _ _ json c.operands.ensures
