-- Names in a feed that no table of the workflow has (this profile).
use Rattle.std.specs.Prelude.{ℕ, ◌||◌, is_some, Bool, List, [], ◌∷◌, ◌++◌, if◌then◌else◌}
use Rattle.std.specs.List.{list_any}
use Rattle.std.specs.Str.{bytes_eq}
use Rattle.filter_rule.specs.PlanValue.{PlanValue, table_of_name}
use Rattle.source_feed.specs.GroupValue.{TableChangeValue, GroupValue}

-- the names so far know this one: it is a table's, or it was told
abbrev pub is_known : PlanValue → List (List ℕ) → List ℕ → Bool
is_known plan told name = is_some (table_of_name plan name) || list_any (bytes_eq name) told

-- the names so far and this one, where it isn't known
abbrev pub with_name : PlanValue → List (List ℕ) → List ℕ → List (List ℕ)
with_name plan told name = if is_known plan told name then told else told ++ name ∷ []

-- behind some names those of changes, each once
abbrev pub unknown_in : PlanValue → List (List ℕ) → List TableChangeValue → List (List ℕ)
unknown_in plan told [] = told
unknown_in plan told (change ∷ later) = unknown_in plan (with_name plan told change.table) later

-- and those of groups
abbrev pub unknown_behind : PlanValue → List (List ℕ) → List GroupValue → List (List ℕ)
unknown_behind plan told [] = told
unknown_behind plan told (group ∷ later) = unknown_behind plan (unknown_in plan told group.changes) later

-- the unknown names of a feed's changes, in the order in which they first stand
abbrev pub unknown_tables : PlanValue → List GroupValue → List (List ℕ)
unknown_tables plan groups = unknown_behind plan [] groups
