use Rattle.std.proofs.lemmas.Result.{err_from_is_err_and}
use Rattle.vrepl_main.specs.Comparison.{Compared}
use Rattle.vrepl_vdiff.specs.Shown.{by_form}
use Rattle.vrepl_vdiff.proofs.ShownLaws.{shown_json, shown_text, unwritten}
use Rattle.vrepl_vdiff.proofs.showing.print_comparison.Goals as goal

pub returns-in_err-put_all-in-Json : goal.returns-in_err-put_all-in-Json
returns-in_err-put_all-in-Json g c =
    let compared : Compared = record { plan = c.args.plan.now; source = c.args.source.now; target = c.args.target.now } in
    let p = err_from_is_err_and c.from_residual-in_err-put_all-in-Json.result c.from_residual-in_err-put_all-in-Json.ensures.1 in
    let line = c.in_ok-line-in-Json.ensures in
    rw p.1 (unwritten (by_form c.args.options.now.report_form c.args.options.now compared) p.0 _ _ _ (shown_json c.args.options.now compared _ _ c.in-Json.is c.unwrap_or-count.ensures (record { found = line.0; are_first = line.1; is_text = line.2 })) (rw c.as_bytes.ensures.value at c.in_err-put_all-in-Json.ensures) p.2)

pub returns-in_ok-put_all-in-Json : goal.returns-in_ok-put_all-in-Json
returns-in_ok-put_all-in-Json g c =
    let compared : Compared = record { plan = c.args.plan.now; source = c.args.source.now; target = c.args.target.now } in
    let line = c.in_ok-line-in-Json.ensures in
    (_, shown_json c.args.options.now compared _ _ c.in-Json.is c.unwrap_or-count.ensures (record { found = line.0; are_first = line.1; is_text = line.2 }), rw c.as_bytes.ensures.value at c.in_ok-put_all-in-Json.ensures)

pub returns-in_err-print_text-in-Lines : goal.returns-in_err-print_text-in-Lines
returns-in_err-print_text-in-Lines g c =
    let compared : Compared = record { plan = c.args.plan.now; source = c.args.source.now; target = c.args.target.now } in
    let p = err_from_is_err_and c.from_residual-in_err-print_text-in-Lines.result c.from_residual-in_err-print_text-in-Lines.ensures.1 in
    let text = rw c.deref.ensures.value at c.in_err-print_text-in-Lines.ensures in
    rw p.1 (unwritten (by_form c.args.options.now.report_form c.args.options.now compared) p.0 _ _ _ (shown_text c.args.options.now compared _ _ _ c.in-Lines.is c.in_ok-reports-in-Lines.ensures c.unwrap_or-count-in-Lines.ensures text.1) text.2 p.2)

pub returns-in_ok-print_text-in-Lines : goal.returns-in_ok-print_text-in-Lines
returns-in_ok-print_text-in-Lines g c =
    let compared : Compared = record { plan = c.args.plan.now; source = c.args.source.now; target = c.args.target.now } in
    let text = rw c.deref.ensures.value at c.in_ok-print_text-in-Lines.ensures in
    (text.0, shown_text c.args.options.now compared _ _ _ c.in-Lines.is c.in_ok-reports-in-Lines.ensures c.unwrap_or-count-in-Lines.ensures text.1, text.2)
