-- What a comparison of two sets of rows says (this profile, after Vitess's VDiff).
use Rattle.std.specs.Prelude.{◌≡◌, ◌≢◌, ℕ, ◌+◌, Bool, true, false, not, List, length, Option, Some, None}
use Rattle.std.specs.List.{count_by}
use Rattle.std.specs.Option.{option_or}
use Rattle.std.specs.Str.{bytes_eq}
use Rattle.std.specs.Cmp.Lexicographic.{pointwise}
use Rattle.std.specs.declared.cmp.Ordering.TheVariants.{Less}
use Rattle.pk_copy.specs.KeyOrder.{key_cmp}
use Rattle.pk_copy.specs.KeyValue.{KeyValue}
use Rattle.target_tables.specs.Rising.{IsRising}
use Rattle.vdiff.specs.declared.report.Report.{Report}
use Rattle.dump.specs.DumpRowsValue.{RowValue, DumpRowsValue, row_with_key}

-- whether two columns are equal, NULL and the empty value told apart
abbrev pub column_eq : Option (List ℕ) → Option (List ℕ) → Bool
column_eq None None = true
column_eq (Some value) (Some other) = bytes_eq value other
column_eq _ _ = false

-- whether two rows have equal columns
abbrev pub row_eq : RowValue → RowValue → Bool
row_eq = pointwise column_eq

-- a row beside what there is at its key in the other: the same row, another one, or none
abbrev pub is_matched : Option RowValue → RowValue → Bool
is_matched None row = false
is_matched (Some other) row = row_eq row other

abbrev pub is_mismatched : Option RowValue → RowValue → Bool
is_mismatched None row = false
is_mismatched (Some other) row = not (row_eq row other)

abbrev pub is_missing : Option RowValue → RowValue → Bool
is_missing None row = true
is_missing (Some other) row = false

-- how many rows meet this beside what there is at their key in others
abbrev pub count_beside : (Option RowValue → RowValue → Bool) → DumpRowsValue → DumpRowsValue → ℕ
count_beside test others rows = count_by (λ row. test (row_with_key others row.0) row.1) rows

-- how many keys are in both with equal columns, in both with others, in the source alone and in the target
-- alone, and how many there are in either
abbrev pub report_of : DumpRowsValue → DumpRowsValue → Report
report_of source target =
    let matching = count_beside is_matched target source in
    let mismatched = count_beside is_mismatched target source in
    let extra_source = count_beside is_missing target source in
    let extra_target = count_beside is_missing source target in
    record { processed = matching + mismatched + extra_source + extra_target; matching = matching; mismatched = mismatched; extra_source = extra_source; extra_target = extra_target }

-- the least key at which the two differ: there they do, and at no lesser key
pub record IsFirstDifference (source target : DumpRowsValue) (key : KeyValue) : Type 0 where
  pub differ : row_with_key source key ≢ row_with_key target key
  pub same_before : (lesser : KeyValue) → key_cmp lesser key ≡ Less → row_with_key source lesser ≡ row_with_key target lesser

-- ---- the sum

-- the rows of both together, each key once: at a key the source's row, or else the target's
pub record AreTogether (source target both : DumpRowsValue) : Type 0 where
  pub rising : IsRising key_cmp both
  pub each_key : (key : KeyValue) → row_with_key both key ≡ option_or (row_with_key source key) (row_with_key target key)

-- so many keys stand in either
abbrev pub HaveKeys : DumpRowsValue → DumpRowsValue → ℕ → Type 0
HaveKeys source target count = (both : DumpRowsValue) × AreTogether source target both × (count ≡ length both)
