-- The groups of a feed as lines of JSON (RFC 8259; this profile). An object has its members by their names, but a row its
-- columns in order.
use Rattle.std.specs.Prelude.{ℕ, List, [], ◌∷◌, ◌++◌, codes}
use Rattle.std.specs.List.{flat_map}
use Rattle.gtid_set.specs.Printed.{printed_position}
use Rattle.row_view.specs.FieldValue.{FieldValue}
use Rattle.serde_json.specs.Data.{Data, number, string, object, no_members, member, unsigned}
use Rattle.serde_json.specs.Written.{compact_text}
use Rattle.source_feed.specs.GroupValue.{TableChangeValue, GroupValue}
use Rattle.json_pieces.specs.Pieces.{list_data}
use Rattle.show_json.specs.Values.{side_data}

-- the columns by whose names the rows of each table are told
abbrev pub NamedTables : Type 0
NamedTables = List ℕ → List FieldValue

-- a change: the row after, the row before, and its table
abbrev pub change_data : NamedTables → TableChangeValue → Data
change_data tables change =
    object (
    member (codes "after") (side_data (tables change.table) change.after)
    (member (codes "before") (side_data (tables change.table) change.before)
    (member (codes "table") (string change.table) no_members))
    )

-- a group: its changes in order, its number and its position
abbrev pub group_data : NamedTables → GroupValue → Data
group_data tables group =
    object (
    member (codes "changes") (list_data (change_data tables) group.changes)
    (member (codes "group") (number (unsigned group.number))
    (member (codes "position") (string (printed_position group.position)) no_members))
    )

-- a line of JSON
abbrev pub json_line : Data → List ℕ
json_line line = compact_text line ++ 10 ∷ []

-- all groups in order, a line each
abbrev pub json_text_of : NamedTables → List GroupValue → List ℕ
json_text_of tables groups = flat_map (λ group. json_line (group_data tables group)) groups
