-- Values as bytes that a caller walks over: a number in eight bytes, the least first; bytes behind their number; what
-- isn't there as the greatest number (this profile; include/vrepl.h has the walk).
use Rattle.std.specs.Prelude.{ℕ, ◌++◌, ◌-◌, ◌^◌, List, length, Option, Some, None}
use Rattle.std.specs.List.{flat_map}
use Rattle.std.specs.Int.{w64, to_le_bytes}
use Rattle.gtid_set.specs.Printed.{printed_position}
use Rattle.pk_copy.specs.KeyValue.{Part, KeyValue}
use Rattle.pk_copy.specs.Lastpk.{part_text}
use Rattle.source_feed.specs.GroupValue.{GroupValue, TableChangeValue}

-- a number below 2^64
abbrev pub eight : ℕ → List ℕ
eight number = to_le_bytes w64 number

-- what isn't there
abbrev pub absent : List ℕ
absent = eight (2 ^ 64 - 1)

abbrev pub bytes_behind : List ℕ → List ℕ
bytes_behind bytes = eight (length bytes) ++ bytes

-- a column's value
abbrev pub cell_bytes : Option (List ℕ) → List ℕ
cell_bytes None = absent
cell_bytes (Some bytes) = bytes_behind bytes

abbrev pub cells_bytes : List (Option (List ℕ)) → List ℕ
cells_bytes row = flat_map cell_bytes row

-- a row: the number of its columns, and each of them
abbrev pub row_bytes : Option (List (Option (List ℕ))) → List ℕ
row_bytes None = absent
row_bytes (Some row) = eight (length row) ++ cells_bytes row

-- a change: the name of its table, the row before and the row after
abbrev pub change_bytes : TableChangeValue → List ℕ
change_bytes change = bytes_behind change.table ++ (row_bytes change.before ++ row_bytes change.after)

abbrev pub changes_bytes : List TableChangeValue → List ℕ
changes_bytes changes = flat_map change_bytes changes

-- a group's number and its position's text
abbrev pub head_bytes : GroupValue → List ℕ
head_bytes group = eight group.number ++ bytes_behind (printed_position group.position)

-- the number of a group's changes, and each of them
abbrev pub body_bytes : List TableChangeValue → List ℕ
body_bytes changes = eight (length changes) ++ changes_bytes changes

abbrev pub group_bytes : GroupValue → List ℕ
group_bytes group = head_bytes group ++ body_bytes group.changes

abbrev pub groups_bytes : List GroupValue → List ℕ
groups_bytes groups = flat_map group_bytes groups

-- a part of a key: its bytes, or a number's shortest decimal text
abbrev pub part_bytes : Part → List ℕ
part_bytes part = bytes_behind (part_text part)

abbrev pub parts_bytes : List Part → List ℕ
parts_bytes parts = flat_map part_bytes parts

-- a key: the number of its parts, and each of them
abbrev pub key_bytes : KeyValue → List ℕ
key_bytes key = eight (length key.parts) ++ parts_bytes key.parts
