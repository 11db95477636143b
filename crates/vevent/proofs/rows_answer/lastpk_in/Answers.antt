use Rattle.std.proofs.Common.{sym}
use Rattle.vevent.proofs.AnswerLaws.{lastpk_is}
use Rattle.vevent.proofs.rows_answer.lastpk_in.Goals as goal

pub of_row-requires : goal.of_row-requires
of_row-requires c = lastpk_is c.args.answer.now c.in_ok-row.row.now c.requires (sym c.in_ok-row.ensures)
