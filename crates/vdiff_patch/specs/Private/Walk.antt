-- The walk to the first difference.
use Rattle.std.specs.Prelude.{◌≡◌, ◌≢◌, ◌∷◌}
use Rattle.pk_copy.specs.KeyOrder.{key_cmp}
use Rattle.target_tables.specs.Rising.{IsRising}
use Rattle.dump.specs.DumpRowsValue.{DumpRowsValue}
use Rattle.vdiff_patch.specs.AllDifferences.{differences_of}
use Rattle.vdiff.specs.Differences.{Difference}
use Rattle.vdiff.specs.Found.{difference_of}
use Rattle.vdiff.specs.declared.walk.Found.{Found}

-- this one and those of what is left behind it are all
pub record IsFirst (source target : DumpRowsValue) (first : Difference) (source_left target_left : DumpRowsValue) : Type 0 where
  pub whole : differences_of source target ≡ first ∷ differences_of source_left target_left
  pub source_rises : IsRising key_cmp source_left
  pub target_rises : IsRising key_cmp target_left

abbrev pub IsFirstFound : DumpRowsValue → DumpRowsValue → Found → Type 0
IsFirstFound source target found = IsFirst source target (difference_of found) found.source_left.now found.target_left.now

-- what is left of the two behind rows that both begin with has the same differences
pub record IsBehindSame (source target left right : DumpRowsValue) : Type 0 where
  pub same : differences_of source target ≡ differences_of left right
  pub left_rises : IsRising key_cmp left
  pub right_rises : IsRising key_cmp right

-- both have a first row, and these aren't the same; or one has none
abbrev pub HeadsDiffer : DumpRowsValue → DumpRowsValue → Type 0
HeadsDiffer (row ∷ lefts) (other ∷ rights) = row ≢ other
HeadsDiffer _ _ = Unit {0}
