use Rattle.std.proofs.Common.{codes}
use Rattle.clap.specs.Words.{new_app}
use Rattle.vrepl_words.proofs.commands.live.live_command.Goals as goal

pub returns : goal.returns
returns c =
    let alone = c.with_arg-command.ensures (new_app (codes "live")) _ c.bare.ensures c.flag.ensures in
    let rows = c.with_arg-command-2.ensures _ _ alone c.option.ensures in
    let ahead = c.with_arg-command-3.ensures _ _ rows c.option-2.ensures in
    let chunks = c.with_arg-command-4.ensures _ _ ahead c.option-3.ensures in
    let checkpoint = c.with_arg-command-5.ensures _ _ chunks c.option-4.ensures in
    let save_to = c.with_arg.ensures _ _ checkpoint c.option-5.ensures in
    c.with_streams.ensures _ save_to
