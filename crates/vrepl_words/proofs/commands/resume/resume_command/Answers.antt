use Rattle.std.proofs.Common.{codes}
use Rattle.clap.specs.Words.{new_app}
use Rattle.vrepl_words.proofs.commands.resume.resume_command.Goals as goal

pub returns : goal.returns
returns c =
    let hex = c.with_arg-command.ensures (new_app (codes "resume")) _ c.bare.ensures c.hex.ensures in
    let checkpoint = c.with_arg-command-2.ensures _ _ hex c.needed-checkpoint.ensures in
    let telling = c.with_telling.ensures _ checkpoint in
    c.with_streams.ensures _ telling
