-- The text of a row's value and of a group, part by part.
use Rattle.std.specs.Prelude.{ℕ, List, ◌∷◌, ◌++◌, Bool, Option, codes, decimal}
use Rattle.gtid_set.specs.Printed.{printed_position}
use Rattle.json.specs.Print.{quoted}
use Rattle.serde_json.specs.Written.{comma_if, compact_text}
use Rattle.source_feed.specs.GroupValue.{GroupValue}
use Rattle.show_json.specs.Values.{value_data}

-- a value by a name, behind a comma where something stands before
abbrev pub member_part : Bool → List ℕ → Option (List ℕ) → List ℕ
member_part later name value = comma_if later ++ (quoted name ++ 58 ∷ compact_text (value_data value))

-- what stands behind the changes of a group
abbrev pub group_end : GroupValue → List ℕ
group_end group = codes ",\"group\":" ++ (decimal group.number ++ (codes ",\"position\":" ++ (quoted (printed_position group.position) ++ codes "}\n")))
