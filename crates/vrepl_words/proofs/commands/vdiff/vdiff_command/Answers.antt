use Rattle.std.proofs.Common.{codes}
use Rattle.clap.specs.Words.{new_app}
use Rattle.vrepl_words.proofs.commands.vdiff.vdiff_command.Goals as goal

pub returns : goal.returns
returns c =
    let tables = c.with_arg-command.ensures (new_app (codes "vdiff")) _ c.bare.ensures c.flag.ensures in
    let first = c.with_arg-command-2.ensures _ _ tables c.option.ensures in
    let json = c.with_arg-command-3.ensures _ _ first c.flag-2.ensures in
    let text = c.with_arg-command-4.ensures _ _ json c.flag-3.ensures in
    let sql = c.with_arg-command-5.ensures _ _ text c.option-2.ensures in
    let telling = c.with_telling-command.ensures _ sql in
    let workflow = c.with_arg-command-6.ensures _ _ telling c.workflow.ensures in
    let source = c.with_arg-command-7.ensures _ _ workflow c.operand-source.ensures in
    c.with_arg.ensures _ _ source c.operand.ensures
