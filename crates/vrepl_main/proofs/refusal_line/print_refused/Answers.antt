use Rattle.std.proofs.Common.{[], ◌∷◌, ◌++◌}
use Rattle.std.proofs.lemmas.Result.{err_from_is_err_and}
use Rattle.std.specs.Prelude.{codes, decimal}
use Rattle.vrepl_main.proofs.AddLaws.{first_stops, then_prints, then_put, then_stops}
use Rattle.vrepl_main.proofs.refusal_line.print_refused.Goals as goal

pub returns-in_err-put_named : goal.returns-in_err-put_named
returns-in_err-put_named g c =
    let details = g.T.Telling.told_details c.args.tables.now c.args.refusal.now in
    let t1 = codes "refused " ++ decimal (g.T.Telling.told_number c.args.refusal.now) in
    let t2 = t1 ++ details in
    let p = err_from_is_err_and c.from_residual.result c.from_residual.ensures.1 in
    rw p.1 (first_stops _ _ t2 (10 ∷ []) (first_stops _ _ t1 details (rw (c.from.ensures, c.told_number.ensures) at c.in_err-put_named.ensures)))

pub returns-in_err-tell_details : goal.returns-in_err-tell_details
returns-in_err-tell_details g c =
    let details = g.T.Telling.told_details c.args.tables.now c.args.refusal.now in
    let t1 = codes "refused " ++ decimal (g.T.Telling.told_number c.args.refusal.now) in
    let t2 = t1 ++ details in
    let p = err_from_is_err_and c.from_residual-in_err-tell_details.result c.from_residual-in_err-tell_details.ensures.1 in
    rw p.1 (first_stops _ _ t2 (10 ∷ []) (then_stops _ _ _ t1 details (rw (c.from.ensures, c.told_number.ensures) at c.in_ok-put_named.ensures) c.in_err-tell_details.ensures))

pub returns : goal.returns
returns g c =
    let details = g.T.Telling.told_details c.args.tables.now c.args.refusal.now in
    let t1 = codes "refused " ++ decimal (g.T.Telling.told_number c.args.refusal.now) in
    let t2 = t1 ++ details in
    then_prints c.put_all.result _ _ _ t2 (10 ∷ []) (then_put _ _ _ t1 details (rw (c.from.ensures, c.told_number.ensures) at c.in_ok-put_named.ensures) c.in_ok-tell_details.ensures) c.put_all.ensures
