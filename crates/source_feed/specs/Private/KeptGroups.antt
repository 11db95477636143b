-- Groups as they are kept: a change has its table's place among the feed's tables, and no name.
use Rattle.std.specs.Prelude.{◌≡◌, ◌||◌, ◌-◌, ℕ, List, [], ◌∷◌, ◌++◌, length, slice_get, Option, None, map, get_or, is_some, if◌then◌else◌}
use Rattle.std.specs.List.{filter_map}
use Rattle.std.specs.Option.{option_map, option_map_or}
use Rattle.vevent.specs.EventValue.{ChangeValue}
use Rattle.source_feed.specs.GroupValue.{Position, TableChangeValue, GroupValue}
use Rattle.source_feed.specs.Planned.{PlannedChangeValue, PlannedGroupValue}

-- a change with its table's place
pub record KeptChangeValue : Type 0 where
  pub place : ℕ
  pub rows : ChangeValue

pub record KeptGroupValue : Type 0 where
  pub number : ℕ
  pub position : Position
  pub changes : List KeptChangeValue

-- a row change of the table at a place, if it has a row
abbrev pub kept_in : ℕ → ChangeValue → List KeptChangeValue
kept_in place change = if is_some change.before || is_some change.after then record { place = place; rows = change } ∷ [] else []

-- the changes of a ROW event of that table, in order
abbrev pub all_kept : ℕ → List ChangeValue → List KeptChangeValue
all_kept place [] = []
all_kept place (change ∷ more) = kept_in place change ++ all_kept place more

-- the place of the last change's table; 0 where there is no change
abbrev pub last_table : List KeptChangeValue → ℕ
last_table changes = option_map_or (λ change. change.place) (slice_get changes (length changes - 1)) 0

-- ---- what they say

-- a change, where the tables have these names
abbrev pub named : List (List ℕ) → KeptChangeValue → TableChangeValue
named names change = record { table = get_or names change.place []; before = change.rows.before; after = change.rows.after }

abbrev pub named_group : List (List ℕ) → KeptGroupValue → GroupValue
named_group names group = record { number = group.number; position = group.position; changes = map (named names) group.changes }

-- groups whose changes are all of these tables: they say the same, whatever tables follow
abbrev pub AreOfTables : List (List ℕ) → List KeptGroupValue → Type 0
AreOfTables names groups = (later : List (List ℕ)) → map (named_group (names ++ later)) groups ≡ map (named_group names) groups

-- a change under a plan, where the tables have these numbers in it
abbrev pub numbered : List (Option ℕ) → KeptChangeValue → Option PlannedChangeValue
numbered numbers change = option_map (λ t. record { table = t; before = change.rows.before; after = change.rows.after }) (get_or numbers change.place None)

abbrev pub numbered_group : List (Option ℕ) → KeptGroupValue → PlannedGroupValue
numbered_group numbers group = record { number = group.number; position = group.position; changes = filter_map (numbered numbers) group.changes }
