use Rattle.std.proofs.Common.{drop, map}
use Rattle.printing.specs.Private.Progress.{IsAddedTo}
use Rattle.vdiff.specs.NamedReports.{named_report}
use Rattle.vdiff.specs.Texts.{tables_text}
use Rattle.vdiff.proofs.tables.add_tables.Given as goal

-- the lines that are added and those that are left are the whole
abbrev pub invariant-loop-table : goal.invariant-loop-table
invariant-loop-table g l = IsAddedTo (g.O.Out.written l.fn.out) l.fn.text (g.O.Out.written l.out) l.text (tables_text (map named_report l.fn.tables)) (tables_text (map named_report (drop l.table-index l.tables)))
