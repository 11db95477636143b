use Rattle.std.proofs.Common.{◌≡◌, map, take}
use Rattle.serde_json.specs.View.{view}
use Rattle.vdiff.specs.Json.{table_data}
use Rattle.vdiff.specs.NamedReports.{named_report}
use Rattle.vdiff.proofs.json_comparison.tables_value.Given as goal

-- the tables so far
abbrev pub invariant-loop-report : goal.invariant-loop-report
invariant-loop-report l = map view l.tables.items ≡ map (λ report. table_data (named_report report)) (take l.report-index l.reports)
