use Rattle.std.proofs.lemmas.Result.{err_from_is_err_and}
use Rattle.source_feed.specs.FaultNumber.{cause_of}
use Rattle.vrepl_main.specs.Refusals.{cause_text, feed_place}
use Rattle.vrepl_main.proofs.AddLaws.{first_stops, then_prints}
use Rattle.vrepl_main.proofs.refusal.print_feed_details.Goals as goal

pub returns-in_err-print_cause : goal.returns-in_err-print_cause
returns-in_err-print_cause g c =
    let fault = c.args.fault.now in
    let p = err_from_is_err_and c.from_residual.result c.from_residual.ensures.1 in
    rw p.1 (first_stops _ _ (cause_text (cause_of fault)) (feed_place fault) (rw c.cause.ensures at c.in_err-print_cause.ensures))

pub returns : goal.returns
returns g c =
    let fault = c.args.fault.now in
    then_prints c.print_feed_place.result _ _ _ (cause_text (cause_of fault)) (feed_place fault) (rw c.cause.ensures at c.in_ok-print_cause.ensures) c.print_feed_place.ensures
