-- What an event needs that lends its texts and rows without looking at them again.
use Rattle.std.specs.Prelude.{◌≡◌, ℕ, true, false, List, None}
use Rattle.std.specs.List.{list_any}
use Rattle.vevent.specs.declared.kind.EventKind.{EventKind}
use Rattle.vevent.specs.Fault.{are_texts, row_changes, repeats_a_row, first_row_fault}

-- the texts and the rows that an event of this type lends can be read, and no row occurs twice in a
-- row change
pub record IsSound (kind : EventKind) (event : List ℕ) : Type 0 where
  pub alone : list_any repeats_a_row (row_changes event) ≡ false
  pub texts : are_texts kind event ≡ true
  pub rows : first_row_fault (row_changes event) ≡ None
