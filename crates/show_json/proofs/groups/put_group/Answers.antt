use Rattle.std.proofs.Common.{List, ap}
use Rattle.std.specs.Prelude.{codes, decimal}
use Rattle.gtid_set.specs.Printed.{printed_position}
use Rattle.json.specs.Print.{escape_byte, quoted}
use Rattle.serde_json.specs.Written.{compact_text}
use Rattle.source_feed.specs.GroupValue.{TableChangeValue}
use Rattle.json_pieces.specs.Pieces.{list_data}
use Rattle.json_pieces.proofs.TellLaws.{same_text, then_tells}
use Rattle.show_json.specs.Private.Kept.{columns_in}
use Rattle.show_json.specs.Private.Parts.{group_end}
use Rattle.show_json.specs.Text.{change_data}
use Rattle.show_json.proofs.ValueLaws.{line-text}
use Rattle.show_json.proofs.groups.put_group.Goals as goal

pub returns : goal.returns
unfolding escape_byte
returns g c =
    let group = c.args.group.now in
    let told = change_data (columns_in c.args.tables.now) in
    let changes = ap (λ (l : List TableChangeValue). compact_text (list_data told l)) c.changes.ensures in
    same_text _ _ _ _ (line-text (compact_text (list_data told group.changes)) (decimal group.number) (quoted (printed_position group.position)))
    (then_tells _ _ _ (codes "{\"changes\":") _ c.put.ensures
    (then_tells _ _ _ (compact_text (list_data told group.changes)) (group_end group) (same_text _ _ _ _ changes c.put_changes.ensures) (same_text _ _ _ _ c.end_pieces.ensures c.put_pieces.ensures)))
