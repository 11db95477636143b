-- The line that tells what was compacted (this profile).
use Rattle.std.specs.Prelude.{ℕ, List, [], ◌∷◌, ◌++◌, codes, decimal}
use Rattle.gtid_set.specs.Printed.{printed_position}
use Rattle.source_feed.specs.GroupValue.{Position}

-- so many groups, up to this position
abbrev pub groups_text : ℕ → Position → List ℕ
groups_text groups position = codes "compacted " ++ decimal groups ++ codes " groups up to " ++ printed_position position

-- became so many rows, and so many bytes so many
abbrev pub sizes_text : ℕ → ℕ → ℕ → List ℕ
sizes_text rows old new = codes " into " ++ decimal rows ++ codes " rows: " ++ decimal old ++ codes " bytes to " ++ decimal new ++ 10 ∷ []

abbrev pub told_line : ℕ → Position → ℕ → ℕ → ℕ → List ℕ
told_line groups position rows old new = groups_text groups position ++ sizes_text rows old new
