use Rattle.std.proofs.Common.{codes}
use Rattle.clap.specs.Words.{new_app}
use Rattle.vrepl_words.proofs.commands.compact.compact_command.Goals as goal

pub returns : goal.returns
returns c =
    let hex = c.with_arg-command.ensures (new_app (codes "compact")) _ c.bare.ensures c.hex.ensures in
    let save_to = c.with_arg-command-2.ensures _ _ hex c.option.ensures in
    let stream = c.with_arg-command-3.ensures _ _ save_to c.option-2.ensures in
    let at = c.with_arg-command-4.ensures _ _ stream c.option-3.ensures in
    let checkpoint = c.with_arg-command-5.ensures _ _ at c.further.ensures in
    let unknown = c.with_arg-command-6.ensures _ _ checkpoint c.flag.ensures in
    let telling = c.with_telling-command.ensures _ unknown in
    let workflow = c.with_arg-command-7.ensures _ _ telling c.workflow.ensures in
    c.with_arg.ensures _ _ workflow c.operand.ensures
