-- Whose feed is made of logs, and what its tables have to be (this profile).
use Rattle.std.specs.Prelude.{◌≡◌, ℕ, ◌≤◌, true, List, length}
use Rattle.std.specs.List.{AllByRecursion}
use Rattle.std.specs.Str.{is_utf8}
use Rattle.vevent.specs.WrittenEvent.{IsColumn}
use Rattle.source_feed.specs.SourceValue.{SourceValue, table_in_source}
use Rattle.log_feed.specs.Table.{TableValue, field_of}

-- the keyspace and the shard, and the tables, which the logs have in a schema
pub record SourceTables : Type 0 where
  pub keyspace : List ℕ
  pub shard : List ℕ
  pub schema : List ℕ
  pub tables : List TableValue

-- the source that a feed's reader asks for
abbrev pub source_of : SourceTables → SourceValue
source_of s = record { keyspace = s.keyspace; shard = s.shard }

-- A table that a feed of the source can have: its name is UTF-8 and stays as it is in the feed; it has 256 columns at most,
-- whose names are UTF-8.
pub record IsTable (source : SourceValue) (table : TableValue) : Type 0 where
  pub name : is_utf8 table.name ≡ true
  pub own : table_in_source source table.name ≡ table.name
  pub few : length table.columns ≤ 256
  pub columns : AllByRecursion (λ w. IsColumn (field_of w)) table.columns

pub record IsSource (s : SourceTables) : Type 0 where
  pub keyspace : is_utf8 s.keyspace ≡ true
  pub shard : is_utf8 s.shard ≡ true
  pub tables : AllByRecursion (IsTable (source_of s)) s.tables
