use Rattle.std.proofs.Common.{◌≡◌, ◌∙◌, ap, sym, List, map, take, arith}
use Rattle.std.proofs.lemmas.List.{take_all}
use Rattle.std.proofs.lemmas.Simd.{map-map}
use Rattle.serde_json.specs.Data.{Data, array}
use Rattle.serde_json.specs.View.{items_of}
use Rattle.serde_json.proofs.Views.{view-Array}
use Rattle.vdiff.specs.Json.{table_data}
use Rattle.vdiff.specs.NamedReports.{named_report}
use Rattle.vdiff.specs.declared.reports.TableReport.{TableReport}
use Rattle.vdiff.proofs.json_comparison.tables_value.Goals as goal

pub returns : goal.returns
returns c =
    let all : take c.loop-report.report-index c.args.reports.now ≡ c.args.reports.now = take_all c.loop-report.report-index c.args.reports.now (omega arith) in
    view-Array c.loop-report.tables
    ∙ ap (λ (l : List Data). array (items_of l))
    (c.loop-report.invariant ∙ ap (map (λ (report : TableReport). table_data (named_report report))) all ∙ sym (map-map table_data named_report c.args.reports.now))
