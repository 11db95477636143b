use Rattle.std.proofs.Common.{◌∙◌, ◌++◌, ap, sym, ℕ, List, Option, append-nil, arith}
use Rattle.row_view.specs.ColumnValue.{column_value}
use Rattle.row_view.specs.FieldValue.{FieldValue}
use Rattle.vdiff_text.specs.ShownDifferences.{line_if_other}
use Rattle.vdiff_text.proofs.LineLaws.{text_more, both_left, none_behind, behind_either}
use Rattle.vdiff_text.proofs.columns.push_both_lines.Goals as goal

pub loop-i-preserved : goal.loop-i-preserved
loop-i-preserved c =
    let parts = both_left c.args.table.now c.args.row.now c.args.there.now c.loop-i.i _ _ c.column.ensures c.column-in-loop-i.ensures in
    text_more _ _ _ _ _ _ parts
    (c.in_ok-push_line_if_other.ensures ∙ ap (λ (column : Option FieldValue). c.loop-i.text.items ++ line_if_other column (column_value c.column.result) (column_value c.column-in-loop-i.result)) c.row_column-column.ensures)
    c.loop-i.invariant

pub returns : goal.returns
returns c =
    let none = none_behind c.args.table.now c.args.row.now c.args.there.now c.loop-i.i (behind_either c.shorter-i-end.result _ _ c.loop-i.i c.shorter-i-end.ensures.either (omega arith)) in
    sym (append-nil c.loop-i.text.items) ∙ sym (ap (λ (l : List ℕ). c.loop-i.text.items ++ l) none) ∙ c.loop-i.invariant
