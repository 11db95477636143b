-- What a group says, without where it lies in memory.
use Rattle.std.specs.Prelude.{ℕ, List, Option}
use Rattle.gtid_set.specs.declared.interval.Interval.{Interval}

-- a position: a GTID set (MySQL manual, 'GTID Sets')
abbrev pub Position : Type 0
Position = List Interval

-- A change of one row: the row before and the row after, one of which is there. Only `after` is an
-- insert, both an update, only `before` a delete.
pub record TableChangeValue : Type 0 where
  pub table : List ℕ
  pub before : Option (List (Option (List ℕ)))
  pub after : Option (List (Option (List ℕ)))

-- a group of changes that are applied together: its number from 1, the position after it, the changes in order
pub record GroupValue : Type 0 where
  pub number : ℕ
  pub position : Position
  pub changes : List TableChangeValue

-- the groups of a feed, in order
pub record GroupsValue : Type 0 where
  pub items : List GroupValue
