-- A feed under a plan: the columns of planned tables must be the plan's, and changes of other tables
-- are dropped (this profile).
use Rattle.std.specs.Prelude.{◌≡◌, ℕ, ◌^◌, ◌<◌, List, Bool, false, not, ◌==◌, ◌&&◌, Option, Some, None, IsTrue, Result, Ok, Err, length, map, slice_get, if◌then◌else◌}
use Rattle.std.specs.List.{list_any, filter_map}
use Rattle.std.specs.Option.{option_map}
use Rattle.std.specs.Str.{bytes_eq}
use Rattle.std.specs.Cmp.Lexicographic.{pointwise}
use Rattle.row_view.specs.FieldValue.{FieldValue}
use Rattle.filter_rule.specs.PlanValue.{PlanValue, table_of_name, columns_of}
use Rattle.filter_rule.specs.WellFormed.{IsPlan}
use Rattle.vevent.specs.Columns.{has_columns}
use Rattle.vevent.specs.EventValue.{EventValue, Field}
use Rattle.source_feed.specs.declared.fault.FeedFault.{FeedFault}
use Rattle.source_feed.specs.declared.fault.FeedFault.TheVariants.{FieldsDiffer}
use Rattle.source_feed.specs.GroupValue.{Position, TableChangeValue, GroupValue}
use Rattle.source_feed.specs.GroupOrder.{AreInOrder}
use Rattle.source_feed.specs.SourceValue.{SourceValue, table_in_source}
use Rattle.source_feed.specs.EventList.{events_of_feed}
use Rattle.source_feed.specs.Groups.{groups}

-- the source that a plan is for
abbrev pub source_of : PlanValue → SourceValue
source_of plan = record { keyspace = plan.keyspace; shard = plan.shard }

-- ---- columns

-- a column of a FIELD event is one of the plan: the same name and the same type
abbrev pub same_column : FieldValue → FieldValue → Bool
same_column column field = bytes_eq column.name field.name && column.type_number == field.type_number

-- the same columns in the same order
abbrev pub same_columns : List FieldValue → List FieldValue → Bool
same_columns columns fields = pointwise same_column columns fields

-- the columns of a table that the plan may have aren't the plan's
abbrev pub differs_at : PlanValue → Option ℕ → List FieldValue → Bool
differs_at plan None fields = false
differs_at plan (Some t) fields = not (same_columns (columns_of plan t) fields)

-- a FIELD event of a planned table whose columns aren't the plan's
abbrev pub differs : PlanValue → EventValue → Bool
differs plan (Field name fields) = differs_at plan (table_of_name plan (table_in_source (source_of plan) name)) fields
differs plan event = false

-- the same, where there is a plan to agree with
abbrev pub differs_from : Option PlanValue → EventValue → Bool
differs_from None event = false
differs_from (Some plan) event = differs plan event

-- ---- changes

-- a change of a planned table: the table's number in the plan, and the rows
pub record PlannedChangeValue : Type 0 where
  pub table : ℕ
  pub before : Option (List (Option (List ℕ)))
  pub after : Option (List (Option (List ℕ)))

-- a group with the changes of planned tables alone
pub record PlannedGroupValue : Type 0 where
  pub number : ℕ
  pub position : Position
  pub changes : List PlannedChangeValue

-- a change under a plan, where its table is one of the plan's
abbrev pub planned_change : PlanValue → TableChangeValue → Option PlannedChangeValue
planned_change plan change = option_map (λ t. record { table = t; before = change.before; after = change.after }) (table_of_name plan change.table)

-- a group under a plan: the changes of other tables are dropped
abbrev pub planned_group : PlanValue → GroupValue → PlannedGroupValue
planned_group plan group = record { number = group.number; position = group.position; changes = filter_map (planned_change plan) group.changes }

-- the groups under a plan: refused where the feed's groups are, and else where a FIELD event differs,
-- wherever it stands
abbrev pub planned_groups : PlanValue → List EventValue → Result (List GroupValue) FeedFault → Result (List PlannedGroupValue) FeedFault
planned_groups plan events (Err fault) = Err fault
planned_groups plan events (Ok all) = if list_any (differs plan) events then Err FieldsDiffer else Ok (map (planned_group plan) all)

-- the groups of a feed under a plan, or its fault
abbrev pub groups_under : List ℕ → PlanValue → Result (List PlannedGroupValue) FeedFault
groups_under feed plan = planned_groups plan (events_of_feed feed).items (groups feed (source_of plan))

-- ---- what is true of every feed under a plan

-- a feed that was opened
pub record FeedValue : Type 0 where
  pub plan : PlanValue
  pub groups : List PlannedGroupValue

-- a change's table is one of the plan's, and its rows have that table's width
pub record IsChangeUnder (plan : PlanValue) (change : PlannedChangeValue) : Type 0 where
  pub table : change.table < length plan.tables
  pub before : IsTrue (has_columns (length (columns_of plan change.table)) change.before)
  pub after : IsTrue (has_columns (length (columns_of plan change.table)) change.after)

-- a feed under a plan, whole: the plan is one, the feed's groups are in order, there are fewer than 2^31, and
-- each change is one under the plan
pub record IsFeed (feed : FeedValue) : Type 0 where
  pub plan : IsPlan feed.plan
  pub order : AreInOrder (λ (group : PlannedGroupValue). group.number) (λ (group : PlannedGroupValue). group.position) feed.groups
  pub few : length feed.groups < 2 ^ 31
  pub changes : (i j : ℕ) (group : PlannedGroupValue) (change : PlannedChangeValue) → slice_get feed.groups i ≡ Some group → slice_get group.changes j ≡ Some change
      → IsChangeUnder feed.plan change
