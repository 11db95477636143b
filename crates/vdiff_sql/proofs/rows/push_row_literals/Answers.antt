use Rattle.std.proofs.Common.{◌∙◌, ◌++◌, ap, eqb, ◌+◌, drop, List, ℕ}
use Rattle.std.specs.Prelude.{codes, Option}
use Rattle.row_view.specs.ColumnValue.{column_value}
use Rattle.row_view.specs.Row.{RowValue}
use Rattle.vdiff_sql.specs.Columns.{row_literals, row_column, type_of}
use Rattle.vdiff_sql.specs.Literals.{literal}
use Rattle.vdiff_sql.proofs.ListLaws.{listed_more, not_first, first_left}
use Rattle.vdiff_sql.proofs.rows.push_row_literals.Goals as goal

pub loop-i-preserved : goal.loop-i-preserved
loop-i-preserved c =
    let f = c.in_ok-push_literal.ensures in
    let g = c.in_ok-push_parting.ensures in
    let h = c.type_of.ensures ∙ ap type_of c.row_column.ensures in
    let value : Option (List ℕ) = column_value c.column.result in
    let left = first_left c.args.row.now c.loop-i.i value c.column.ensures in
    let table = c.args.table.now in
    let text = literal (type_of (row_column table c.loop-i.i)) value in
    listed_more c.loop-i.text.items (codes ", ") text (eqb c.loop-i.i 0) (eqb (c.loop-i.i + 1) 0) (row_literals table c.loop-i.i (drop c.loop-i.i c.args.row.now)) (row_literals table (c.loop-i.i + 1) (drop (c.loop-i.i + 1) c.args.row.now)) _ _
    (not_first c.loop-i.i)
    (ap (λ (l : RowValue). row_literals table c.loop-i.i l) left)
    (f ∙ ap (λ (t : ℕ). c.push_parting.new.text.items ++ literal t value) h ∙ ap (λ (l : List ℕ). l ++ text) g)
    c.loop-i.invariant
