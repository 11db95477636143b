-- The changes of a feed's groups to the tables of a plan, each with the keys of its rows (this profile).
use Rattle.std.specs.Prelude.{ℕ, ◌+◌, ◌==◌, List, [], ◌∷◌, ◌++◌, length, Option, Some, None, Result, Ok, Err, if◌then◌else◌}
use Rattle.std.specs.List.{flat_map}
use Rattle.std.specs.Option.{option_and_then}
use Rattle.filter_rule.specs.PlanValue.{PlanValue, columns_of, table_of_name}
use Rattle.pk_copy.specs.KeyOf.{key_of}
use Rattle.pk_copy.specs.KeyValue.{KeyValue}
use Rattle.pk_copy.specs.declared.fault.KeyFault.{KeyFault}
use Rattle.source_feed.specs.GroupValue.{TableChangeValue, GroupValue}
use Rattle.source_feed.specs.History.{RowValue}

-- a row with its key
abbrev pub KeyedRowValue : Type 0
KeyedRowValue = KeyValue × RowValue

-- a change of a row: its group's number, its place in the group from 1, the row before and the row after
pub record KeyedChangeValue : Type 0 where
  pub group : ℕ
  pub place : ℕ
  pub before : Option KeyedRowValue
  pub after : Option KeyedRowValue

-- a row with the key that it has, if it has one
abbrev pub keyed_row_of : RowValue → Result KeyValue KeyFault → Option KeyedRowValue
keyed_row_of row (Ok key) = Some (key, row)
keyed_row_of row (Err fault) = None

-- a row of table t with its key: it has one where it has the table's columns, as each row of an opened feed,
-- and where they give one, as each row of a sound group
abbrev pub keyed_row : PlanValue → ℕ → RowValue → Option KeyedRowValue
keyed_row plan t row = if length row == length (columns_of plan t) then keyed_row_of row (key_of plan t row) else None

-- the same of a row that there may be
abbrev pub keyed_image : PlanValue → ℕ → Option RowValue → Option KeyedRowValue
keyed_image plan t row = option_and_then (keyed_row plan t) row

-- a change at its place in its group, if its table is one of the plan's
abbrev pub keyed_at : PlanValue → ℕ → ℕ → TableChangeValue → Option ℕ → List KeyedChangeValue
keyed_at plan group place change None = []
keyed_at plan group place change (Some t) =
    record { group = group; place = place; before = keyed_image plan t change.before; after = keyed_image plan t change.after } ∷ []

-- the changes of a group from a place on, those to other tables left out
abbrev pub keyed_from : PlanValue → ℕ → ℕ → List TableChangeValue → List KeyedChangeValue
keyed_from plan group place [] = []
keyed_from plan group place (change ∷ later) = keyed_at plan group place change (table_of_name plan change.table) ++ keyed_from plan group (place + 1) later

abbrev pub keyed_in : PlanValue → GroupValue → List KeyedChangeValue
keyed_in plan group = keyed_from plan group.number 1 group.changes

-- the changes of all groups, in order
abbrev pub keyed_changes : PlanValue → List GroupValue → List KeyedChangeValue
keyed_changes plan groups = flat_map (keyed_in plan) groups
