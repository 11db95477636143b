-- The walk from one difference to the next.
use Rattle.std.specs.Prelude.{◌≡◌, option_copied}
use Rattle.dump.specs.DumpRowsValue.{DumpRowsValue}
use Rattle.vdiff.specs.Differences.{Difference, IsLeast, rows_past}
use Rattle.vdiff.specs.declared.walk.Found.{Found}

-- the difference that was found
abbrev pub difference_of : Found → Difference
difference_of found = record { key = found.key.now; source = option_copied found.source; target = option_copied found.target }

-- this is the least one, and these are the rows at greater keys
pub record IsNextDifference (source target : DumpRowsValue) (least : Difference) (source_left target_left : DumpRowsValue) : Type 0 where
  pub is_least : IsLeast source target least
  pub source_behind : source_left ≡ rows_past least.key source
  pub target_behind : target_left ≡ rows_past least.key target

abbrev pub IsFound : DumpRowsValue → DumpRowsValue → Found → Type 0
IsFound source target found = IsNextDifference source target (difference_of found) found.source_left.now found.target_left.now
