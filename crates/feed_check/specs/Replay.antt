-- The rows that the first changes of a feed leave: at each key what the latest change that has the key left
-- there (this profile). A history of changes has the latest first.
use Rattle.std.specs.Prelude.{List, [], ◌∷◌, ◌++◌, Option, Some, None}
use Rattle.pk_copy.specs.KeyOrder.{key_cmp}
use Rattle.pk_copy.specs.KeyValue.{KeyValue}
use Rattle.target_tables.specs.Touches.{last_at}
use Rattle.source_feed.specs.History.{RowValue}
use Rattle.feed_check.specs.KeyedChanges.{KeyedRowValue, KeyedChangeValue}

-- nothing is left at the key of the row before; the row after is put at its key
abbrev pub removal : Option KeyedRowValue → List (KeyValue × Option RowValue)
removal None = []
removal (Some image) = (image.0, None) ∷ []

abbrev pub put : Option KeyedRowValue → List (KeyValue × Option RowValue)
put None = []
put (Some image) = (image.0, Some image.1) ∷ []

-- what a change does to keys: first the row before, then the row after
abbrev pub touches_of_keyed : KeyedChangeValue → List (KeyValue × Option RowValue)
touches_of_keyed change = removal change.before ++ put change.after

-- what a last touch leaves at a key: without a touch what stood there
abbrev pub left_at : {R : Type 0} → Option (Option R) → Option R → Option R
left_at None there = there
left_at (Some left) there = left

-- the row that a history of changes leaves at a key; before the first change no row stands
abbrev pub row_left : List KeyedChangeValue → KeyValue → Option RowValue
row_left [] key = None
row_left (change ∷ earlier) key = left_at (last_at key_cmp (touches_of_keyed change) key) (row_left earlier key)
