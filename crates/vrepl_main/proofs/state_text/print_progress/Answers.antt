use Rattle.std.proofs.Common.{◌++◌}
use Rattle.std.proofs.lemmas.Result.{err_from_is_err_and}
use Rattle.std.specs.Prelude.{codes, decimal}
use Rattle.stream_core.specs.Standing.{phase_of}
use Rattle.vrepl_main.specs.AnswerText.{phase_text}
use Rattle.vrepl_main.proofs.AddLaws.{first_stops, then_prints, then_put, then_stops}
use Rattle.vrepl_main.proofs.state_text.print_progress.Goals as goal

pub returns-in_err-put_between : goal.returns-in_err-put_between
returns-in_err-put_between g c =
    let now = c.args.now.now in
    let t1 = codes "state " ++ decimal c.args.stream ++ codes " " in
    let t2 = t1 ++ phase_text (phase_of now) in
    let t3 = t2 ++ (codes " read " ++ decimal now.read) in
    let p = err_from_is_err_and c.from_residual.result c.from_residual.ensures.1 in
    rw p.1 (first_stops _ _ t3 (codes " applied " ++ decimal now.applied) (first_stops _ _ t2 (codes " read " ++ decimal now.read) (first_stops _ _ t1 (phase_text (phase_of now)) (rw c.from.ensures at c.in_err-put_between.ensures))))

pub returns-in_err-put_str : goal.returns-in_err-put_str
returns-in_err-put_str g c =
    let now = c.args.now.now in
    let t1 = codes "state " ++ decimal c.args.stream ++ codes " " in
    let t2 = t1 ++ phase_text (phase_of now) in
    let t3 = t2 ++ (codes " read " ++ decimal now.read) in
    let p = err_from_is_err_and c.from_residual-in_err-put_str.result c.from_residual-in_err-put_str.ensures.1 in
    rw p.1 (first_stops _ _ t3 (codes " applied " ++ decimal now.applied) (first_stops _ _ t2 (codes " read " ++ decimal now.read)
    (then_stops _ _ _ t1 (phase_text (phase_of now)) (rw c.from.ensures at c.in_ok-put_between.ensures) (rw (c.phase_word.ensures, c.phase.ensures) at c.in_err-put_str.ensures))))

pub returns-in_err-put_named : goal.returns-in_err-put_named
returns-in_err-put_named g c =
    let now = c.args.now.now in
    let t1 = codes "state " ++ decimal c.args.stream ++ codes " " in
    let t2 = t1 ++ phase_text (phase_of now) in
    let t3 = t2 ++ (codes " read " ++ decimal now.read) in
    let p = err_from_is_err_and c.from_residual-in_err-put_named.result c.from_residual-in_err-put_named.ensures.1 in
    let put = then_put _ _ _ t1 (phase_text (phase_of now)) (rw c.from.ensures at c.in_ok-put_between.ensures) (rw (c.phase_word.ensures, c.phase.ensures) at c.in_ok-put_str.ensures) in
    rw p.1 (first_stops _ _ t3 (codes " applied " ++ decimal now.applied) (then_stops _ _ _ t2 (codes " read " ++ decimal now.read) put (rw (c.from-2.ensures, c.read.ensures) at c.in_err-put_named.ensures)))

pub returns : goal.returns
returns g c =
    let now = c.args.now.now in
    let t1 = codes "state " ++ decimal c.args.stream ++ codes " " in
    let t2 = t1 ++ phase_text (phase_of now) in
    let t3 = t2 ++ (codes " read " ++ decimal now.read) in
    let put = then_put _ _ _ t1 (phase_text (phase_of now)) (rw c.from.ensures at c.in_ok-put_between.ensures) (rw (c.phase_word.ensures, c.phase.ensures) at c.in_ok-put_str.ensures) in
    then_prints c.put_named-2.result _ _ _ t3 (codes " applied " ++ decimal now.applied) (then_put _ _ _ t2 (codes " read " ++ decimal now.read) put (rw (c.from-2.ensures, c.read.ensures) at c.in_ok-put_named.ensures))
    (rw (c.from-3.ensures, c.applied.ensures) at c.put_named-2.ensures)
