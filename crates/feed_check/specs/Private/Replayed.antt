-- The rows of a replay: each row under one stream, by the number 0; and what a replay has behind some changes.
use Rattle.std.specs.Prelude.{◌≡◌, ℕ, List, map, Option, IfSome}
use Rattle.std.specs.Map.{lookup}
use Rattle.std.specs.Ordering.{eq_by_cmp}
use Rattle.pk_copy.specs.KeyOrder.{key_cmp}
use Rattle.pk_copy.specs.KeyValue.{KeyValue}
use Rattle.target_tables.specs.Contents.{value_at}
use Rattle.feed_check.specs.KeyedChanges.{KeyedRowValue, KeyedChangeValue}
use Rattle.feed_check.specs.Replay.{row_left}
use Rattle.feed_check.specs.Findings.{FindingValue, findings_in}

abbrev pub Entries : Type 0 → Type 0
Entries R = List (KeyValue × (ℕ × R))

-- the rows, without their stream
abbrev pub rows_of : {R : Type 0} → Entries R → List (KeyValue × R)
rows_of entries = map (λ e. (e.0, e.1.1)) entries

-- what stands at each key is of stream 0
abbrev pub AreOwn : {R : Type 0} → Entries R → Type 0
AreOwn entries = (key : KeyValue) → IfSome (value_at key_cmp entries key) (λ there. there.0 ≡ 0)

-- the row at a key
abbrev pub row_in : {R : Type 0} → List (KeyValue × R) → KeyValue → Option R
row_in rows key = lookup (eq_by_cmp key_cmp key) rows

-- the rows and findings behind a history of changes, the latest first
pub record IsReplayed (past : List KeyedChangeValue) (rows : List KeyedRowValue) (findings : List FindingValue) : Type 0 where
  pub standing : (key : KeyValue) → row_in rows key ≡ row_left past key
  pub found : findings ≡ findings_in past
