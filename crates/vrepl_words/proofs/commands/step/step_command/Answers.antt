use Rattle.std.proofs.Common.{codes}
use Rattle.clap.specs.Words.{new_app}
use Rattle.vrepl_words.proofs.commands.step.step_command.Goals as goal

pub returns : goal.returns
returns c =
    let hex = c.with_arg.ensures (new_app (codes "step")) _ c.bare.ensures c.hex.ensures in
    c.with_streams.ensures _ hex
