use Rattle.std.proofs.Common.{codes}
use Rattle.clap.specs.Words.{new_app}
use Rattle.vrepl_words.proofs.commands.follow.follow_command.Goals as goal

pub returns : goal.returns
returns c =
    let hex = c.with_arg-command.ensures (new_app (codes "follow")) _ c.bare.ensures c.hex.ensures in
    let alone = c.with_arg-command-2.ensures _ _ hex c.flag.ensures in
    let telling = c.with_telling-command.ensures _ alone in
    let dump = c.with_arg-command-3.ensures _ _ telling c.flag-2.ensures in
    let rows = c.with_arg-command-4.ensures _ _ dump c.option.ensures in
    let ahead = c.with_arg-command-5.ensures _ _ rows c.option-2.ensures in
    let chunks = c.with_arg-command-6.ensures _ _ ahead c.option-3.ensures in
    let until = c.with_arg-command-7.ensures _ _ chunks c.until.ensures in
    let only = c.with_arg-command-8.ensures _ _ until c.option-4.ensures in
    let checkpoint = c.with_arg-command-9.ensures _ _ only c.option-5.ensures in
    let save_to = c.with_arg.ensures _ _ checkpoint c.needed.ensures in
    c.with_streams.ensures _ save_to
