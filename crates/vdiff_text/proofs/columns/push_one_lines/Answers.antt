use Rattle.std.proofs.Common.{◌∙◌, ◌++◌, ap, Option}
use Rattle.row_view.specs.ColumnValue.{column_value}
use Rattle.row_view.specs.FieldValue.{FieldValue}
use Rattle.vdiff_text.specs.ShownDifferences.{one_line}
use Rattle.vdiff_text.proofs.LineLaws.{text_more, one_left}
use Rattle.vdiff_text.proofs.columns.push_one_lines.Goals as goal

pub loop-i-preserved : goal.loop-i-preserved
loop-i-preserved c =
    let parts = one_left c.args.table.now c.args.row.now c.loop-i.i _ c.column.ensures in
    text_more _ _ _ _ _ _ parts
    (c.in_ok-push_one_line.ensures ∙ ap (λ (column : Option FieldValue). c.loop-i.text.items ++ one_line column (column_value c.column.result)) c.row_column.ensures)
    c.loop-i.invariant
