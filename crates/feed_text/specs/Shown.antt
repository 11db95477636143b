-- The text that `show` prints of a feed's groups (this profile).
use Rattle.std.specs.Prelude.{ℕ, List, [], ◌∷◌, ◌++◌, Option, None, Some, codes, decimal}
use Rattle.std.specs.List.{flat_map}
use Rattle.gtid_set.specs.Printed.{printed_position}
use Rattle.source_feed.specs.GroupValue.{TableChangeValue, GroupValue}
use Rattle.dump.specs.Cells.{cells}

-- the line of a row of a table behind its mark
abbrev pub shown_row_line : List ℕ → List ℕ → List (Option (List ℕ)) → List ℕ
shown_row_line mark table row = mark ++ table ++ cells row ++ 10 ∷ []

-- the line of a row, if there is one
abbrev pub shown_row_lines : List ℕ → List ℕ → Option (List (Option (List ℕ))) → List ℕ
shown_row_lines mark table None = []
shown_row_lines mark table (Some row) = shown_row_line mark table row

-- a change: the row before behind a `-`, then the row after behind a `+`
abbrev pub change_text : TableChangeValue → List ℕ
change_text change = shown_row_lines (codes "- ") change.table change.before ++ shown_row_lines (codes "+ ") change.table change.after

-- the lines of changes in order
abbrev pub changes_text : List TableChangeValue → List ℕ
changes_text changes = flat_map change_text changes

-- the first line of a group: its number and its position
abbrev pub group_line : GroupValue → List ℕ
group_line group = codes "group " ++ decimal group.number ++ codes " " ++ printed_position group.position ++ 10 ∷ []

-- a group: its first line and its changes in order
abbrev pub group_text : GroupValue → List ℕ
group_text group = group_line group ++ changes_text group.changes

-- all groups in order
abbrev pub shown : List GroupValue → List ℕ
shown groups = flat_map group_text groups
