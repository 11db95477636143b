use Rattle.std.proofs.Common.{codes}
use Rattle.clap.specs.Words.{new_app}
use Rattle.vrepl_words.proofs.commands.transcribe.transcribe_command.Goals as goal

pub returns : goal.returns
returns c =
    let save_to = c.with_arg-command.ensures (new_app (codes "transcribe")) _ c.bare.ensures c.option.ensures in
    let after = c.with_arg-command-2.ensures _ _ save_to c.option-2.ensures in
    let shard = c.with_arg-command-3.ensures _ _ after c.needed.ensures in
    let schema = c.with_arg-command-4.ensures _ _ shard c.option-3.ensures in
    let workflow = c.with_arg-command-5.ensures _ _ schema c.workflow.ensures in
    c.with_arg.ensures _ _ workflow c.operands.ensures
