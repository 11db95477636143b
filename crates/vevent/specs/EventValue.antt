-- What an event says, without where it lies in memory: texts are their bytes, a row is the list of
-- its columns, NULL as nothing (`binlogdata.proto`, VEvent).
use Rattle.std.specs.Prelude.{ℕ, List, Option}
use Rattle.row_view.specs.FieldValue.{FieldValue}
use Rattle.vevent.specs.declared.ignored.IgnoredEvent.{IgnoredEvent}

-- the row before a change and the row after it, where there is one
pub record ChangeValue : Type 0 where
  pub before : Option (List (Option (List ℕ)))
  pub after : Option (List (Option (List ℕ)))

-- the position of one shard
pub record ShardGtidValue : Type 0 where
  pub keyspace : List ℕ
  pub shard : List ℕ
  pub gtid : List ℕ

-- changes of one table's rows
pub record RowEventValue : Type 0 where
  pub table_name : List ℕ
  pub changes : List ChangeValue

-- the columns of one table
pub record FieldEventValue : Type 0 where
  pub table_name : List ℕ
  pub fields : List FieldValue

-- an event by its type: a position, the ends of a transaction, changes of a table's rows, the
-- columns of a table, the positions of shards, or an event that this profile ignores
pub data EventValue : Type 0 where
  Gtid : List ℕ → EventValue
  Begin : EventValue
  Commit : EventValue
  Rollback : EventValue
  Row : List ℕ → List ChangeValue → EventValue
  Field : List ℕ → List FieldValue → EventValue
  Vgtid : List ShardGtidValue → EventValue
  Ignored : IgnoredEvent → EventValue
