-- The rows that a history leaves, whether or not they pass, and the group that inserts them (this profile).
use Rattle.std.specs.Prelude.{◌≡◌, ℕ, List, map, Option, None, Some}
use Rattle.std.specs.List.{AllByRecursion}
use Rattle.std.specs.Map.{lookup}
use Rattle.std.specs.Option.{option_map}
use Rattle.std.specs.Ordering.{eq_by_cmp}
use Rattle.filter_rule.specs.PlanValue.{PlanValue}
use Rattle.pk_copy.specs.KeyOrder.{key_cmp}
use Rattle.pk_copy.specs.KeyValue.{KeyValue}
use Rattle.target_tables.specs.Rising.{IsRising}
use Rattle.source_feed.specs.GroupValue.{Position}
use Rattle.source_feed.specs.History.{RowValue, row_at}
use Rattle.source_feed.specs.Image.{ImageRows}
use Rattle.source_feed.specs.Planned.{PlannedChangeValue, PlannedGroupValue}
use Rattle.source_feed.specs.Prepared.{IsTouchUnder}
use Rattle.source_feed.specs.Touches.{PreparedValue}

-- the row that the first n groups leave at a key
abbrev pub left_at : List PreparedValue → ℕ → KeyValue → Option RowValue
left_at history n key = option_map (λ put. put.row) (row_at history n key)

-- rows by rising key that are just those which the first n groups leave
pub record IsLeft (history : List PreparedValue) (n : ℕ) (rows : ImageRows) : Type 0 where
  pub rising : IsRising key_cmp rows
  pub each_key : (key : KeyValue) → lookup (eq_by_cmp key_cmp key) rows ≡ left_at history n key

-- a row as a change that inserts it
abbrev pub insert_of : KeyValue × RowValue → PlannedChangeValue
insert_of row = record { table = row.0.table; before = None; after = Some row.1 }

-- the first group of a feed, which inserts the rows
abbrev pub base_group : Position → ImageRows → PlannedGroupValue
base_group position rows = record { number = 1; position = position; changes = map insert_of rows }

-- the groups are ones under a plan: each touch is of a row of one of its tables, which has the key and the filter's answer
abbrev pub AreGroupsUnder : PlanValue → List PreparedValue → Type 0
AreGroupsUnder plan history = AllByRecursion (λ group. AllByRecursion (IsTouchUnder plan) group.touches) history
