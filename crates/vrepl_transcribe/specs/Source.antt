-- Whose feed `transcribe` makes: the stream of a shard, with the tables of its workflow (this profile).
use Rattle.std.specs.Prelude.{ℕ, not, List, map, position, Option, slice_get, option_and_then}
use Rattle.std.specs.Option.{option_map_or}
use Rattle.std.specs.Str.{bytes_eq}
use Rattle.row_view.specs.FieldValue.{FieldValue}
use Rattle.filter_rule.specs.PlanTable.{TableValue}
use Rattle.filter_rule.specs.PlanValue.{PlanValue}
use Rattle.log_feed.specs.Table as feed
use Rattle.log_feed.specs.Words.{is_plain_name}
use Rattle.log_laws.specs.Source.{SourceTables}
use Rattle.log_tables.specs.Column.{WantedValue}

-- the place of the first stream of a shard
abbrev pub place_of_shard : List PlanValue → List ℕ → Option ℕ
place_of_shard plans shard = position (λ plan. bytes_eq plan.shard shard) plans

-- its plan
abbrev pub plan_of_shard : List PlanValue → List ℕ → Option PlanValue
plan_of_shard plans shard = option_and_then (slice_get plans) (place_of_shard plans shard)

-- the place of the first table whose name has another byte than ASCII's letters, digits, `_` and `$`
abbrev pub first_unplain : List TableValue → Option ℕ
first_unplain tables = position (λ table. not (is_plain_name table.name)) tables

-- a column, and a table, as the logs have to have them
abbrev pub wanted_of : FieldValue → WantedValue
wanted_of column = record { name = column.name; type_number = column.type_number }

abbrev pub feed_table_of : TableValue → feed.TableValue
feed_table_of table = record { name = table.name; columns = map wanted_of table.columns }

-- The feed's source: the stream's keyspace and shard, and all tables of the workflow, which the logs have in this schema, or in
-- one of the keyspace's name.
abbrev pub source_in : PlanValue → Option (List ℕ) → SourceTables
source_in plan schema = record { keyspace = plan.keyspace; shard = plan.shard; schema = option_map_or (λ name. name) schema plan.keyspace; tables = map feed_table_of plan.tables }
