use Rattle.std.proofs.Common.{[], Err, Ok}
use Rattle.std.proofs.lemmas.Result.{err_from_is_err_and}
use Rattle.printing.specs.declared.writer.OutFailed.{OutFailed}
use Rattle.vrepl_main.specs.Adding.{at}
use Rattle.vrepl_main.specs.Comparison.{Compared, report_text}
use Rattle.vrepl_main.proofs.AddLaws.{first_stops, then_put, then_stops, then_finishes}
use Rattle.vrepl_main.proofs.VdiffLaws.{comparison_is, differ_at}
use Rattle.vrepl_main.proofs.comparing.print_comparison.Goals as goal

pub returns-in_err-print_report : goal.returns-in_err-print_report
returns-in_err-print_report g c =
    let compared : Compared = record { plan = c.args.plan.now; source = c.args.source.now; target = c.args.target.now } in
    let is = comparison_is c.first_difference-first.result (λ key. key.now) compared c.compare-report.result c.compare-report.ensures.report c.first_difference-first.ensures in
    let p = err_from_is_err_and c.from_residual.result c.from_residual.ensures.1 in
    rw p.1 (_, is, (first_stops (at _ []) _ (report_text c.compare-report.result) _ (rw c.new-text.ensures at c.in_err-print_report.ensures)).begun)

pub returns-in_err-print_first : goal.returns-in_err-print_first
returns-in_err-print_first g c =
    let compared : Compared = record { plan = c.args.plan.now; source = c.args.source.now; target = c.args.target.now } in
    let is = comparison_is c.first_difference-first.result (λ key. key.now) compared c.compare-report.result c.compare-report.ensures.report c.first_difference-first.ensures in
    let p = err_from_is_err_and c.from_residual-in_err-print_first.result c.from_residual-in_err-print_first.ensures.1 in
    rw p.1 (_, is, (then_stops (at _ []) _ _ (report_text c.compare-report.result) _ (rw c.new-text.ensures at c.in_ok-print_report.ensures) (rw c.tables.ensures.tables at c.in_err-print_first.ensures)).begun)

pub returns-in_err-finish : goal.returns-in_err-finish
returns-in_err-finish g c =
    let compared : Compared = record { plan = c.args.plan.now; source = c.args.source.now; target = c.args.target.now } in
    let is = comparison_is c.first_difference-first.result (λ key. key.now) compared c.compare-report.result c.compare-report.ensures.report c.first_difference-first.ensures in
    let p = err_from_is_err_and c.from_residual-in_err-finish.result c.from_residual-in_err-finish.ensures.1 in
    let put = then_put (at _ []) _ _ (report_text c.compare-report.result) _ (rw c.new-text.ensures at c.in_ok-print_report.ensures) (rw c.tables.ensures.tables at c.in_ok-print_first.ensures) in
    rw p.1 (_, is, then_finishes {X = Unit {0}} {E = OutFailed} (Err c.in_err-finish.field-0.0) (at _ []) (at _ c.print_first.new.text) _ _ put c.in_err-finish.ensures.printed)

pub returns-in-None : goal.returns-in-None
returns-in-None g c =
    let compared : Compared = record { plan = c.args.plan.now; source = c.args.source.now; target = c.args.target.now } in
    let is = comparison_is c.first_difference-first.result (λ key. key.now) compared c.compare-report.result c.compare-report.ensures.report c.first_difference-first.ensures in
    let put = then_put (at _ []) _ _ (report_text c.compare-report.result) _ (rw c.new-text.ensures at c.in_ok-print_report.ensures) (rw c.tables.ensures.tables at c.in_ok-print_first.ensures) in
    (rw c.in-None.is at c.first_difference-first.ensures, _, is, then_finishes {X = Unit {0}} {E = OutFailed} (Ok tt) (at _ []) (at _ c.print_first.new.text) _ _ put c.in_ok-finish.ensures.printed)

pub returns-in-Some : goal.returns-in-Some
returns-in-Some g c =
    let compared : Compared = record { plan = c.args.plan.now; source = c.args.source.now; target = c.args.target.now } in
    let is = comparison_is c.first_difference-first.result (λ key. key.now) compared c.compare-report.result c.compare-report.ensures.report c.first_difference-first.ensures in
    let put = then_put (at _ []) _ _ (report_text c.compare-report.result) _ (rw c.new-text.ensures at c.in_ok-print_report.ensures) (rw c.tables.ensures.tables at c.in_ok-print_first.ensures) in
    (differ_at _ _ _ (rw c.in-Some.is at c.first_difference-first.ensures), _, is, then_finishes {X = Unit {0}} {E = OutFailed} (Ok tt) (at _ []) (at _ c.print_first.new.text) _ _ put c.in_ok-finish.ensures.printed)
