-- Two sets of rows behind what they have in common.
use Rattle.std.specs.Prelude.{◌≡◌, ◌≢◌, ◌∷◌}
use Rattle.pk_copy.specs.KeyOrder.{key_cmp}
use Rattle.pk_copy.specs.KeyValue.{KeyValue}
use Rattle.target_tables.specs.Rising.{IsRising}
use Rattle.vdiff.specs.Report.{IsFirstDifference}
use Rattle.dump.specs.DumpRowsValue.{DumpRowsValue, row_with_key}
use Rattle.vdiff.specs.Differences.{rows_past}

abbrev pub Differ : DumpRowsValue → DumpRowsValue → KeyValue → Type 0
Differ left right key = row_with_key left key ≡ row_with_key right key → ⊥

-- what is left of the two behind rows that both begin with: they differ where the two do
pub record IsBehindSame (source target left right : DumpRowsValue) : Type 0 where
  pub same : left ≡ right → source ≡ target
  pub first : (key : KeyValue) → IsFirstDifference left right key → IsFirstDifference source target key
  pub source_row : (key : KeyValue) → Differ left right key → row_with_key source key ≡ row_with_key left key
  pub target_row : (key : KeyValue) → Differ left right key → row_with_key target key ≡ row_with_key right key
  pub source_behind : (key : KeyValue) → Differ left right key → rows_past key source ≡ rows_past key left
  pub target_behind : (key : KeyValue) → Differ left right key → rows_past key target ≡ rows_past key right
  pub left_rises : IsRising key_cmp left
  pub right_rises : IsRising key_cmp right

-- both have a first row, and these aren't the same; or one has none
abbrev pub HeadsDiffer : DumpRowsValue → DumpRowsValue → Type 0
HeadsDiffer (row ∷ lefts) (other ∷ rights) = row ≢ other
HeadsDiffer _ _ = Unit {0}
