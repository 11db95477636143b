-- The counts of tables without their references.
use Rattle.vdiff.specs.Reports.{NamedReport}
use Rattle.vdiff.specs.declared.reports.TableReport.{TableReport}

abbrev pub named_report : TableReport → NamedReport
named_report table = record { name = table.name.now; report = table.report }
