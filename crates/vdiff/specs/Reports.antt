-- A comparison of two sets of rows, table by table (this profile, after Vitess's VDiff).
use Rattle.std.specs.Prelude.{ℕ, ◌+◌, List, [], ◌∷◌}
use Rattle.filter_rule.specs.PlanTable.{TableValue}
use Rattle.dump.specs.Dump.{rows_of_table}
use Rattle.vdiff.specs.Report.{report_of}
use Rattle.dump.specs.DumpRowsValue.{DumpRowsValue}
use Rattle.vdiff.specs.declared.report.Report.{Report}

-- the counts of the rows of table t alone
abbrev pub report_of_table : ℕ → DumpRowsValue → DumpRowsValue → Report
report_of_table t source target = report_of (rows_of_table t source) (rows_of_table t target)

-- a table's name, and its counts
pub record NamedReport : Type 0 where
  pub name : List ℕ
  pub report : Report

-- those of a list of tables that begins with table t
abbrev pub reports_from : ℕ → List TableValue → DumpRowsValue → DumpRowsValue → List NamedReport
reports_from t [] source target = []
reports_from t (table ∷ tables) source target = record { name = table.name; report = report_of_table t source target } ∷ reports_from (t + 1) tables source target
