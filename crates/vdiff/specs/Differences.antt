-- The first keys at which two sets of rows differ (this profile, after Vitess's VDiff).
use Rattle.std.specs.Prelude.{◌≡◌, ℕ, zero, suc, List, [], ◌∷◌, Option}
use Rattle.std.specs.List.{filter}
use Rattle.std.specs.Ordering.{is_lt}
use Rattle.pk_copy.specs.KeyOrder.{key_cmp}
use Rattle.pk_copy.specs.KeyValue.{KeyValue}
use Rattle.vdiff.specs.Report.{IsFirstDifference}
use Rattle.dump.specs.DumpRowsValue.{RowValue, DumpRowsValue, row_with_key}

-- a key, and the rows that stand there, if any do
pub record Difference : Type 0 where
  pub key : KeyValue
  pub source : Option RowValue
  pub target : Option RowValue

-- the least key at which the two differ, with the rows that stand there
pub record IsLeast (source target : DumpRowsValue) (least : Difference) : Type 0 where
  pub first : IsFirstDifference source target least.key
  pub source_row : least.source ≡ row_with_key source least.key
  pub target_row : least.target ≡ row_with_key target least.key

-- the rows at greater keys
abbrev pub rows_past : KeyValue → DumpRowsValue → DumpRowsValue
rows_past key rows = filter (λ row. is_lt (key_cmp key row.0)) rows

-- the first n differences by rising key, or all where there are fewer: the least one, and those behind it
abbrev pub AreFirstDifferences : ℕ → DumpRowsValue → DumpRowsValue → List Difference → Type 0
AreFirstDifferences zero source target [] = Unit {0}
AreFirstDifferences zero source target (least ∷ others) = ⊥
AreFirstDifferences (suc n) source target [] = source ≡ target
AreFirstDifferences (suc n) source target (least ∷ others) = IsLeast source target least × AreFirstDifferences n (rows_past least.key source) (rows_past least.key target) others
