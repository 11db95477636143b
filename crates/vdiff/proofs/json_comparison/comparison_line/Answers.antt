use Rattle.vdiff.specs.Report.{report_of}
use Rattle.vdiff.specs.Reports.{reports_from}
use Rattle.vdiff.proofs.JsonLaws.{comparison_no_float}
use Rattle.vdiff.proofs.json_comparison.comparison_line.Goals as goal

pub line_of-requires : goal.line_of-requires
line_of-requires c =
    let found = rw c.tables.ensures.tables at c.in_ok-differences.ensures in
    let is = rw (found.2, c.compare-report.ensures.report, c.in_ok-tables.ensures, c.deref.ensures.value, c.in_ok-reports.ensures) at c.in_ok-whole.ensures in
    rw is (comparison_no_float c.args.plan.now.tables (report_of c.args.source.now c.args.target.now) (reports_from 0 c.args.plan.now.tables c.args.source.now c.args.target.now) found.0)

pub returns : goal.returns
returns c =
    let found = rw c.tables.ensures.tables at c.in_ok-differences.ensures in
    let is = rw (found.2, c.compare-report.ensures.report, c.in_ok-tables.ensures, c.deref.ensures.value, c.in_ok-reports.ensures) at c.in_ok-whole.ensures in
    (found.0, found.1, rw is at c.in_ok-line.ensures)
