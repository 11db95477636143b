use Rattle.std.proofs.Common.{codes}
use Rattle.clap.specs.Words.{new_app}
use Rattle.vrepl_words.proofs.commands.check.check_command.Goals as goal

pub returns : goal.returns
returns c =
    let hex = c.with_arg-command.ensures (new_app (codes "check")) _ c.bare.ensures c.hex.ensures in
    let json = c.with_arg-command-2.ensures _ _ hex c.flag.ensures in
    let strict = c.with_arg-command-3.ensures _ _ json c.flag-2.ensures in
    let telling = c.with_telling.ensures _ strict in
    c.with_streams.ensures _ telling
