use Rattle.std.proofs.Common.{map}
use Rattle.vdiff.specs.NamedReports.{named_report}
use Rattle.vdiff.proofs.TableLaws.{AreReportsTo}
use Rattle.vdiff.proofs.reports.table_reports.Given as goal

-- the reports so far, and those of the rows that are left
abbrev pub invariant-loop-t : goal.invariant-loop-t
invariant-loop-t l = AreReportsTo l.tables l.fn.source l.fn.target l.t l.left l.right (map named_report l.reports.items)
