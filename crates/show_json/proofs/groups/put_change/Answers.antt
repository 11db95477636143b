use Rattle.std.proofs.Common.{◌∙◌, ◌++◌, List, ℕ, Option, ap, ap₂}
use Rattle.std.specs.Prelude.{codes}
use Rattle.json.specs.Print.{escape_byte, quoted}
use Rattle.row_view.specs.FieldValue.{FieldValue}
use Rattle.serde_json.specs.Written.{compact_text}
use Rattle.json_pieces.proofs.TellLaws.{same_text, then_tells}
use Rattle.show_json.specs.Private.Kept.{columns_in}
use Rattle.show_json.specs.Values.{side_data}
use Rattle.show_json.proofs.groups.put_change.Goals as goal

pub returns : goal.returns
unfolding escape_byte
returns g c =
    let tables = columns_in c.args.tables.now in
    let change = c.args.change.now in
    let text_of = λ (columns : List FieldValue) (row : Option (List (Option (List ℕ)))). compact_text (side_data columns row) in
    let after = ap₂ text_of (c.columns.ensures ∙ ap tables c.table-table.ensures) c.after_bytes.ensures in
    let before = ap₂ text_of (c.columns-2.ensures ∙ ap tables c.table-table.ensures) c.before_bytes.ensures in
    then_tells _ _ _ (codes "{\"after\":") _ c.put.ensures
    (then_tells _ _ _ (compact_text (side_data (tables change.table) change.after)) _ (same_text _ _ _ _ after c.put_side.ensures)
    (then_tells _ _ _ (codes ",\"before\":") _ c.put-2.ensures
    (then_tells _ _ _ (compact_text (side_data (tables change.table) change.before)) (codes ",\"table\":" ++ (quoted change.table ++ codes "}")) (same_text _ _ _ _ before c.put_side-2.ensures)
    (same_text _ _ _ _ (ap (λ (t : List ℕ). codes ",\"table\":" ++ (quoted t ++ codes "}")) c.table-table.ensures) c.put_pieces.ensures))))
