-- What is true of every group with its touches, and when two of them are the same group (this profile).
use Rattle.std.specs.Prelude.{◌≡◌, ℕ, ◌^◌, ◌<◌, List, [], Bool, Option, IfSome, Ok, length, nat_lt}
use Rattle.std.specs.List.{AllByRecursion, filter}
use Rattle.filter_rule.specs.PlanValue.{PlanValue, columns_of, passes_of}
use Rattle.gtid_set.specs.Position.{IsCanonical}
use Rattle.pk_copy.specs.KeyOf.{key_of}
use Rattle.pk_copy.specs.KeyValue.{AreParts}
use Rattle.source_feed.specs.GroupOrder.{IsProperPart}
use Rattle.source_feed.specs.Touches.{TouchValue, PreparedValue}

-- A touch is of a row of one of the plan's tables, of the table's width: it has the row's key, and where it
-- puts a row, that is this one, with what the plan's filter answers of it.
pub record IsTouchUnder (plan : PlanValue) (touch : TouchValue) : Type 0 where
  pub table : touch.0.table < length plan.tables
  pub row : List (Option (List ℕ))
  pub width : length row ≡ length (columns_of plan touch.0.table)
  pub key : key_of plan touch.0.table row ≡ Ok touch.0
  pub parts : AreParts touch.0.parts
  pub put : IfSome touch.1 (λ put. (put.row ≡ row) × (passes_of plan touch.0.table row ≡ Ok put.passes))

-- a group of some feed: it has a number from 1 and below 2^31, a position that is merged and not empty, and
-- each touch is one under its plan
pub record IsPrepared (group : PreparedValue) : Type 0 where
  pub from_one : 0 < group.number
  pub few : group.number < 2 ^ 31
  pub canonical : IsCanonical group.position
  pub from_empty : IsProperPart [] group.position
  pub touches : AllByRecursion (IsTouchUnder group.plan) group.touches

-- Two groups are the same: their numbers, their positions and their touches are, rows by their columns.
-- Their plans don't count.
pub record IsSameGroup (one other : PreparedValue) : Type 0 where
  pub number : one.number ≡ other.number
  pub position : one.position ≡ other.position
  pub touches : one.touches ≡ other.touches

-- a touch of one of the first so many tables
abbrev pub is_on : ℕ → TouchValue → Bool
is_on tables touch = nat_lt touch.0.table tables

-- Two groups are the same on the first so many tables: their numbers, their positions and their touches of
-- these tables are, rows by their columns. Their plans and their other touches don't count.
pub record IsSameOn (tables : ℕ) (one other : PreparedValue) : Type 0 where
  pub number : one.number ≡ other.number
  pub position : one.position ≡ other.position
  pub touches : filter (is_on tables) one.touches ≡ filter (is_on tables) other.touches
