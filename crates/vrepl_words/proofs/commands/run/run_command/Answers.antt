use Rattle.std.proofs.Common.{codes}
use Rattle.clap.specs.Words.{new_app}
use Rattle.vrepl_words.proofs.commands.run.run_command.Goals as goal

pub returns : goal.returns
returns c =
    let hex = c.with_arg-command.ensures (new_app (codes "run")) _ c.bare.ensures c.hex.ensures in
    let alone = c.with_arg-command-2.ensures _ _ hex c.flag.ensures in
    let telling = c.with_telling-command.ensures _ alone in
    let rows = c.with_arg-command-3.ensures _ _ telling c.option.ensures in
    let ahead = c.with_arg-command-4.ensures _ _ rows c.option-2.ensures in
    let chunks = c.with_arg-command-5.ensures _ _ ahead c.option-3.ensures in
    let until = c.with_arg.ensures _ _ chunks c.until.ensures in
    c.with_streams.ensures _ until
