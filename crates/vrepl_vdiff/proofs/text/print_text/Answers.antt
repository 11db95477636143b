use Rattle.std.proofs.Common.{◌++◌, [], map, refl}
use Rattle.std.proofs.lemmas.Result.{err_from_is_err_and}
use Rattle.std.specs.Option.{option_map}
use Rattle.vrepl_main.proofs.VdiffLaws.{comparison_is}
use Rattle.printing.proofs.PrintLaws.{adding_breaks, added_breaks, added_more, adds_then_prints}
use Rattle.vdiff.specs.NamedReports.{named_report}
use Rattle.vdiff.specs.Texts.{differences_text, tables_text}
use Rattle.vrepl_main.specs.Comparison.{Compared, first_text, report_text}
use Rattle.vrepl_vdiff.proofs.text.print_text.Goals as goal

pub returns-in_err-add_tables : goal.returns-in_err-add_tables
returns-in_err-add_tables g c =
    let compared : Compared = record { plan = c.args.plan.now; source = c.args.source.now; target = c.args.target.now } in
    let is = comparison_is c.first_difference-first.result (λ key. key.now) compared c.compare-report.result c.compare-report.ensures.report c.first_difference-first.ensures in
    let tables = tables_text (map named_report c.args.reports.now) in
    let counts = report_text c.compare-report.result in
    let first = first_text compared.plan.tables (option_map (λ key. key.now) c.first_difference-first.result) in
    let found = c.first_differences_are_there.ensures in
    let others = differences_text compared.plan.tables found.0 in
    let p = err_from_is_err_and c.from_residual.result c.from_residual.ensures.1 in
    rw p.1 (
      _,
      record { comparison = counts ++ first; is_comparison = is; found = found.0; are_first = found.1; is_text = refl },
      adding_breaks _ _ [] (tables ++ (counts ++ first)) others (adding_breaks _ _ [] tables (counts ++ first) (rw c.new-text.ensures at c.in_err-add_tables.ensures)),
    )

pub returns-in_err-add_counts : goal.returns-in_err-add_counts
returns-in_err-add_counts g c =
    let compared : Compared = record { plan = c.args.plan.now; source = c.args.source.now; target = c.args.target.now } in
    let is = comparison_is c.first_difference-first.result (λ key. key.now) compared c.compare-report.result c.compare-report.ensures.report c.first_difference-first.ensures in
    let tables = tables_text (map named_report c.args.reports.now) in
    let counts = report_text c.compare-report.result in
    let first = first_text compared.plan.tables (option_map (λ key. key.now) c.first_difference-first.result) in
    let found = c.first_differences_are_there.ensures in
    let others = differences_text compared.plan.tables found.0 in
    let p = err_from_is_err_and c.from_residual-in_err-add_counts.result c.from_residual-in_err-add_counts.ensures.1 in
    rw p.1 (
      _,
      record { comparison = counts ++ first; is_comparison = is; found = found.0; are_first = found.1; is_text = refl },
      adding_breaks _ _ [] (tables ++ (counts ++ first)) others (added_breaks _ _ _ _ _ tables (counts ++ first) (rw c.new-text.ensures at c.in_ok-add_tables.ensures) (adding_breaks _ _ _ counts first c.in_err-add_counts.ensures)),
    )

pub returns-in_err-add_first : goal.returns-in_err-add_first
returns-in_err-add_first g c =
    let compared : Compared = record { plan = c.args.plan.now; source = c.args.source.now; target = c.args.target.now } in
    let is = comparison_is c.first_difference-first.result (λ key. key.now) compared c.compare-report.result c.compare-report.ensures.report c.first_difference-first.ensures in
    let tables = tables_text (map named_report c.args.reports.now) in
    let counts = report_text c.compare-report.result in
    let first = first_text compared.plan.tables (option_map (λ key. key.now) c.first_difference-first.result) in
    let found = c.first_differences_are_there.ensures in
    let others = differences_text compared.plan.tables found.0 in
    let p = err_from_is_err_and c.from_residual-in_err-add_first.result c.from_residual-in_err-add_first.ensures.1 in
    rw p.1 (
      _,
      record { comparison = counts ++ first; is_comparison = is; found = found.0; are_first = found.1; is_text = refl },
      adding_breaks _ _ [] (tables ++ (counts ++ first)) others (added_breaks _ _ _ _ _ tables (counts ++ first) (rw c.new-text.ensures at c.in_ok-add_tables.ensures) (added_breaks _ _ _ _ _ counts first c.in_ok-add_counts.ensures (rw c.tables.ensures.tables at c.in_err-add_first.ensures))),
    )

pub returns-in_err-add_differences : goal.returns-in_err-add_differences
returns-in_err-add_differences g c =
    let compared : Compared = record { plan = c.args.plan.now; source = c.args.source.now; target = c.args.target.now } in
    let is = comparison_is c.first_difference-first.result (λ key. key.now) compared c.compare-report.result c.compare-report.ensures.report c.first_difference-first.ensures in
    let tables = tables_text (map named_report c.args.reports.now) in
    let counts = report_text c.compare-report.result in
    let first = first_text compared.plan.tables (option_map (λ key. key.now) c.first_difference-first.result) in
    let found = rw c.tables-2.ensures.tables at c.in_err-add_differences.ensures in
    let others = differences_text compared.plan.tables found.0 in
    let p = err_from_is_err_and c.from_residual-in_err-add_differences.result c.from_residual-in_err-add_differences.ensures.1 in
    rw p.1 (
      _,
      record { comparison = counts ++ first; is_comparison = is; found = found.0; are_first = found.1; is_text = refl },
      added_breaks _ _ _ _ _ (tables ++ (counts ++ first)) others (added_more _ _ _ _ _ _ tables (counts ++ first) (rw c.new-text.ensures at c.in_ok-add_tables.ensures) (added_more _ _ _ _ _ _ counts first c.in_ok-add_counts.ensures (rw c.tables.ensures.tables at c.in_ok-add_first.ensures))) found.2,
    )

pub returns : goal.returns
returns g c =
    let compared : Compared = record { plan = c.args.plan.now; source = c.args.source.now; target = c.args.target.now } in
    let is = comparison_is c.first_difference-first.result (λ key. key.now) compared c.compare-report.result c.compare-report.ensures.report c.first_difference-first.ensures in
    let tables = tables_text (map named_report c.args.reports.now) in
    let counts = report_text c.compare-report.result in
    let first = first_text compared.plan.tables (option_map (λ key. key.now) c.first_difference-first.result) in
    let found = rw c.tables-2.ensures.tables at c.in_ok-add_differences.ensures in
    let others = differences_text compared.plan.tables found.0 in (
      _,
      record { comparison = counts ++ first; is_comparison = is; found = found.0; are_first = found.1; is_text = refl },
      adds_then_prints c.finish.result _ [] _ c.add_differences.new.text _ ((tables ++ (counts ++ first)) ++ others) (added_more _ _ _ _ _ _ (tables ++ (counts ++ first)) others (added_more _ _ _ _ _ _ tables (counts ++ first) (rw c.new-text.ensures at c.in_ok-add_tables.ensures) (added_more _ _ _ _ _ _ counts first c.in_ok-add_counts.ensures (rw c.tables.ensures.tables at c.in_ok-add_first.ensures))) found.2) c.finish.ensures.printed,
    )
