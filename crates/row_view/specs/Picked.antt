-- Some columns of a row, in an order of their own.
use Rattle.std.specs.Prelude.{◌≡◌, ℕ, ◌<◌, List, map, length, None, Some, slice_get, slice_index_or}
use Rattle.std.specs.List.{AllByRecursion}
use Rattle.row_view.specs.Row.{RowValue}

-- the columns at these places, in the order of the places
abbrev pub picked : List ℕ → RowValue → RowValue
picked places row = map (λ place. slice_index_or row place None) places

-- each is the place of a column
abbrev pub ArePlaces : List ℕ → RowValue → Type 0
ArePlaces places row = AllByRecursion (λ place. place < length row) places

-- no place stands twice
abbrev pub AreApart : List ℕ → Type 0
AreApart places = (i j place : ℕ) → slice_get places i ≡ Some place → slice_get places j ≡ Some place → i ≡ j
