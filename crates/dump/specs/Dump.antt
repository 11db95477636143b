-- The dump of the rows of a target (this profile).
use Rattle.std.specs.Prelude.{ℕ, ◌+◌, ◌==◌, List, [], ◌∷◌, ◌++◌, codes}
use Rattle.std.specs.List.{filter, flat_map}
use Rattle.filter_rule.specs.PlanTable.{TableValue}
use Rattle.filter_rule.specs.PlanValue.{PlanValue}
use Rattle.dump.specs.Cells.{cell, cells}
use Rattle.dump.specs.DumpRowsValue.{RowValue, DumpRowsValue}

-- a row: its cells parted by one tab, and the end of the line
abbrev pub row_line : RowValue → List ℕ
row_line [] = 10 ∷ []
row_line (column ∷ others) = cell column ++ cells others ++ 10 ∷ []

-- the line of a table's name
abbrev pub table_line : List ℕ → List ℕ
table_line name = codes "table " ++ name ++ 10 ∷ []

-- the rows of table t
abbrev pub rows_of_table : ℕ → DumpRowsValue → DumpRowsValue
rows_of_table t rows = filter (λ row. row.0.table == t) rows

-- the lines of rows, in order
abbrev pub row_lines : DumpRowsValue → List ℕ
row_lines rows = flat_map (λ row. row_line row.1) rows

-- the lines of a list of tables that begins with table t
abbrev pub table_lines : ℕ → List TableValue → DumpRowsValue → List ℕ
table_lines t [] rows = []
table_lines t (table ∷ tables) rows = table_line table.name ++ row_lines (rows_of_table t rows) ++ table_lines (t + 1) tables rows

-- for each table in the plan's order the line of its name and then its rows, by key
abbrev pub dump_of : PlanValue → DumpRowsValue → List ℕ
dump_of plan rows = table_lines 0 plan.tables rows
