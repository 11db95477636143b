use Rattle.std.proofs.Common.{◌≡◌, ℕ, [], ◌∷◌, refl, sym, subst}
use Rattle.apply_core.specs.Shown.{all_rows}
use Rattle.step_script.specs.declared.script.ScriptStep.{ScriptStep}
use Rattle.vrepl_main.specs.ScriptRun.{ScriptReply, answers, shows, IsScriptStep, IsTold, refused_count, standing_in, standing_reply}
use Rattle.vrepl_main.proofs.ToldLaws.{both_on_ok, stands_told}
use Rattle.vrepl_main.proofs.saving.take_one.Goals as goal

pub returns-in-Take-clause-taken : goal.returns-in-Take-clause-taken
returns-in-Take-clause-taken c =
    rw c.in-Take.is
    (both_on_ok c.refused_of.result (λ told n counted. (answers c.answer_to-answer.result, (c.answer_to-answer.result, c.answer_to-answer.ensures.reply, refl), told, counted)) c.refused_of.ensures.told c.refused_of.ensures.refused)

pub returns-in-State-clause-taken : goal.returns-in-State-clause-taken
returns-in-State-clause-taken c =
    rw c.in-State.is
    (standing_reply c.in-State.stream (standing_in c.args.fed.now.board c.in-State.stream), (refl, refl), stands_told c.in-State.stream (standing_in c.args.fed.now.board c.in-State.stream), c.refused_if_none.ensures)

pub returns-in-Dump-clause-taken : goal.returns-in-Dump-clause-taken
returns-in-Dump-clause-taken c =
    rw c.in-Dump.is (shows (all_rows c.args.fed.now.board.rows), (refl, refl, c.shows.ensures), tt, refl)
