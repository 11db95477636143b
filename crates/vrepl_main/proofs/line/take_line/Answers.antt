use Rattle.std.proofs.Common.{refl}
use Rattle.apply_core.specs.Shown.{all_rows}
use Rattle.vrepl_main.specs.ScriptRun.{answers, shows}
use Rattle.vrepl_main.proofs.line.take_line.Goals as goal

pub returns-in-Take-clause-replies : goal.returns-in-Take-clause-replies
returns-in-Take-clause-replies g c = rw c.in-Take.is (answers c.answer_to-answer.result, (c.answer_to-answer.result, c.answer_to-answer.ensures.reply, refl), c.print_answer_or_refusal.ensures)

pub returns-in-Dump-clause-replies : goal.returns-in-Dump-clause-replies
returns-in-Dump-clause-replies g c = rw c.in-Dump.is (shows (all_rows c.args.fed.now.board.rows), (refl, refl, c.shows.ensures), c.print_rows.ensures)
