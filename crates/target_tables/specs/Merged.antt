-- One map made of the rows of two, by their streams.
use Rattle.std.specs.Prelude.{◌≡◌, ℕ, Bool, true, false, not, List, Option, Some, None, slice_get, if◌then◌else◌}
use Rattle.std.specs.declared.cmp.Ordering.{Ordering}
use Rattle.std.specs.List.{filter}
use Rattle.std.specs.Option.{option_or}
use Rattle.target_tables.specs.declared.merge_side.MergeSide.{MergeSide}
use Rattle.target_tables.specs.declared.merge_side.MergeSide.TheVariants.{First, Second}
use Rattle.target_tables.specs.Contents.{value_at}
use Rattle.target_tables.specs.Rising.{IsRising}

-- whether a stream comes from the second map, by its side; one without a side comes from the first
abbrev pub is_second : Option MergeSide → Bool
is_second None = false
is_second (Some First) = false
is_second (Some Second) = true

-- the stream's rows come from this side
abbrev pub comes_from : List MergeSide → MergeSide → ℕ → Bool
comes_from sides Second stream = is_second (slice_get sides stream)
comes_from sides First stream = not (is_second (slice_get sides stream))

-- the entries of the streams that pass a test
abbrev pub part_of : {K R : Type 0} → (ℕ → Bool) → List (K × (ℕ × R)) → List (K × (ℕ × R))
part_of test entries = filter (λ e. test e.1.0) entries

-- what stands at a key, if its stream passes the test
abbrev pub of_part : {R : Type 0} → (ℕ → Bool) → Option (ℕ × R) → Option (ℕ × R)
of_part test None = None
of_part test (Some there) = if test there.0 then Some there else None

-- each key has the row of a stream that comes from the first map from there, or else that of one that comes from the second
pub record AreMerged {K R : Type 0} (cmp : K → K → Ordering) (sides : List MergeSide) (one other merged : List (K × (ℕ × R))) : Type 0 where
  pub rising : IsRising cmp merged
  pub values : (k : K) → value_at cmp merged k ≡ option_or (of_part (comes_from sides First) (value_at cmp one k)) (of_part (comes_from sides Second) (value_at cmp other k))
