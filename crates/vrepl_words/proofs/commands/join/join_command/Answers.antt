use Rattle.std.proofs.Common.{codes}
use Rattle.clap.specs.Words.{new_app}
use Rattle.vrepl_words.proofs.commands.join.join_command.Goals as goal

pub returns : goal.returns
returns c =
    let hex = c.with_arg-command.ensures (new_app (codes "join")) _ c.bare.ensures c.hex.ensures in
    let also = c.with_arg-command-2.ensures _ _ hex c.further.ensures in
    let save_to = c.with_arg-command-3.ensures _ _ also c.save_to.ensures in
    let telling = c.with_telling-command.ensures _ save_to in
    let workflow = c.with_arg-command-4.ensures _ _ telling c.workflow.ensures in
    let one = c.with_arg-command-5.ensures _ _ workflow c.operand-one.ensures in
    let other = c.with_arg-command-6.ensures _ _ one c.operand-other.ensures in
    c.with_arg.ensures _ _ other c.operands.ensures
