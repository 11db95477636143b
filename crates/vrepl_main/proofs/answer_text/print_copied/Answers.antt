use Rattle.std.proofs.Common.{[], ◌∷◌, ◌++◌}
use Rattle.std.proofs.lemmas.Result.{err_from_is_err_and}
use Rattle.std.specs.Prelude.{codes, decimal}
use Rattle.vrepl_main.specs.AnswerText.{done_text}
use Rattle.vrepl_main.proofs.AddLaws.{first_stops, then_prints, then_put, then_stops}
use Rattle.vrepl_main.proofs.answer_text.print_copied.Goals as goal

pub returns-in_err-put_named : goal.returns-in_err-put_named
returns-in_err-put_named g c =
    let copied = c.args.copied in
    let t1 = codes "copied " ++ decimal copied.rows in
    let p = err_from_is_err_and c.from_residual.result c.from_residual.ensures.1 in
    rw p.1 (first_stops _ _ (t1 ++ done_text copied.done) (10 ∷ []) (first_stops _ _ t1 (done_text copied.done) (rw c.from.ensures at c.in_err-put_named.ensures)))

pub returns-in_err-put_str : goal.returns-in_err-put_str
returns-in_err-put_str g c =
    let copied = c.args.copied in
    let t1 = codes "copied " ++ decimal copied.rows in
    let p = err_from_is_err_and c.from_residual-in_err-put_str.result c.from_residual-in_err-put_str.ensures.1 in
    rw p.1 (first_stops _ _ (t1 ++ done_text copied.done) (10 ∷ []) (then_stops _ _ _ t1 (done_text copied.done) (rw c.from.ensures at c.in_ok-put_named.ensures) (rw c.done_words.ensures at c.in_err-put_str.ensures)))

pub returns : goal.returns
returns g c =
    let copied = c.args.copied in
    let t1 = codes "copied " ++ decimal copied.rows in
    then_prints c.put_all.result _ _ _ (t1 ++ done_text copied.done) (10 ∷ []) (then_put _ _ _ t1 (done_text copied.done) (rw c.from.ensures at c.in_ok-put_named.ensures) (rw c.done_words.ensures at c.in_ok-put_str.ensures)) c.put_all.ensures
