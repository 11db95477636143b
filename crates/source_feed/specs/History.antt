-- What a history of groups leaves of a source's rows: for each key what touched it last, found by looking
-- back at the whole of it; and what of these rows a target keeps (this profile).
use Rattle.std.specs.Prelude.{◌≡◌, ℕ, List, take, Option, Some, None, if◌then◌else◌}
use Rattle.std.specs.List.{flat_map}
use Rattle.std.specs.Map.{lookup}
use Rattle.std.specs.Option.{option_map, option_and_then}
use Rattle.std.specs.Ordering.{eq_by_cmp}
use Rattle.filter_rule.specs.PlanValue.{PlanValue, kept_columns_of}
pub use Rattle.row_view.specs.Picked.{picked}
pub use Rattle.row_view.specs.Row.{RowValue}
use Rattle.pk_copy.specs.KeyOrder.{key_cmp}
use Rattle.pk_copy.specs.KeyValue.{KeyValue}
use Rattle.target_tables.specs.Rising.{IsRising}
use Rattle.target_tables.specs.Touches.{last_at}
use Rattle.source_feed.specs.Touches.{PutValue, TouchValue, PreparedValue}

-- the touches of a list of groups, in order
abbrev pub touches_in : List PreparedValue → List TouchValue
touches_in history = flat_map (λ group. group.touches) history

-- what the last touch of a key among the first n groups left there; none if none touched it or it left nothing
abbrev pub row_at : List PreparedValue → ℕ → KeyValue → Option PutValue
row_at history n key = option_and_then (λ put. put) (last_at key_cmp (touches_in (take n history)) key)

-- a row that passes the filter
abbrev pub passing : PutValue → Option RowValue
passing put = if put.passes then Some put.row else None

-- the row that the first n groups left at a key, if it passes the filter
abbrev pub passed_at : List PreparedValue → ℕ → KeyValue → Option RowValue
passed_at history n key = option_and_then passing (row_at history n key)

-- ---- what a target keeps of the rows that pass

-- a row of kept columns, in kept order; a row of a source has all columns of its table
abbrev pub KeptRow : Type 0
KeptRow = RowValue

-- the kept columns of a row at a key
abbrev pub kept_of : PlanValue → KeyValue → RowValue → KeptRow
kept_of plan key row = picked (kept_columns_of plan key.table) row

-- the kept columns of the row that the first n groups left at a key, if it passes the filter
abbrev pub kept_at : PlanValue → List PreparedValue → ℕ → KeyValue → Option KeptRow
kept_at plan history n key = option_map (kept_of plan key) (passed_at history n key)

-- ---- the rows that pass, as a list

-- rows by rising key that are just those which the first n groups left and which pass the filter
pub record IsPassed (history : List PreparedValue) (n : ℕ) (rows : List (KeyValue × RowValue)) : Type 0 where
  pub rising : IsRising key_cmp rows
  pub each_key : (key : KeyValue) → lookup (eq_by_cmp key_cmp key) rows ≡ passed_at history n key
