-- Which rows stand there. `key_cmp` is the order of pk_copy/specs/KeyOrder.antt, `last_at` that of target_tables.
use Rattle.std.specs.Prelude.{◌≡◌, ◌↔◌, ℕ, List, Some, true, slice_get}
use Rattle.row_view.specs.Row.{RowValue}
use Rattle.row_view.specs.Picked.{picked}
use Rattle.filter_rule.specs.PlanValue.{PlanValue, kept_columns_of}
use Rattle.pk_copy.specs.KeyOrder.{key_cmp}
use Rattle.pk_copy.specs.KeyValue.{KeyValue}
use Rattle.target_tables.specs.Rising.{IsRising}
use Rattle.target_tables.specs.Touches.{last_at}
use Rattle.source_feed.specs.Touches.{PutValue, TouchValue}
use Rattle.dump.specs.DumpRowsValue.{DumpRowsValue, row_with_key}

-- a stream: which rows and columns it keeps, and what its feed's changes do, in order
pub record Stream : Type 0 where
  pub plan : PlanValue
  pub touches : List TouchValue

-- Stream s keeps this row at the key: the last change that touches the key leaves a row there that passes the stream's filter,
-- and these are its kept columns.
pub record Keeps (streams : List Stream) (s : ℕ) (key : KeyValue) (row : RowValue) : Type 0 where
  pub stream : Stream
  pub there : slice_get streams s ≡ Some stream
  pub put : PutValue
  pub last : last_at key_cmp stream.touches key ≡ Some (Some put)
  pub passes : put.passes ≡ true
  pub kept : row ≡ picked (kept_columns_of stream.plan key.table) put.row

-- By rising key; a row stands there exactly where some stream keeps it; no two streams keep one at the same key.
pub record AreKeptRows (streams : List Stream) (rows : DumpRowsValue) : Type 0 where
  pub rising : IsRising key_cmp rows
  pub each_key : (key : KeyValue) (row : RowValue) → (row_with_key rows key ≡ Some row) ↔ ((s : ℕ) × Keeps streams s key row)
  pub apart : (s t : ℕ) (key : KeyValue) (row other : RowValue) → Keeps streams s key row → Keeps streams t key other → s ≡ t
