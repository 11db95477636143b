-- Rows as a feed has them: the numbers that their lengths travel as, packed, and their values.
use Rattle.std.specs.Prelude.{◌≡◌, ℕ, List, [], ◌∷◌, ◌++◌, Bool, true, false, Option, Some, None, Result, Ok, Err}
use Rattle.item_readers.specs.Reading.{Reading}
use Rattle.row_view.specs.WrittenRow.{written_lengths, written_values}
use Rattle.log_values.specs.declared.fault.ValueFault.{ValueFault}
use Rattle.log_rows.specs.declared.fault.RowError.{RowError}
use Rattle.log_rows.specs.declared.fault.RowError.TheVariants.{Memory, Fault}
use Rattle.log_rows.specs.declared.row.WrittenCells as written_cells
use Rattle.log_rows.specs.Change.{Change}

-- the lengths and the values of a row, as they are written
pub record Cells : Type 0 where
  pub lengths : List ℕ
  pub values : List ℕ

-- how those of the program are seen
abbrev pub cells_value : written_cells.WrittenCells → Cells
cells_value c = record { lengths = c.lengths.items; values = c.values.items }

-- those of a row
abbrev pub cells_of : List (Option (List ℕ)) → Cells
cells_of row = record { lengths = written_lengths row; values = written_values row }

-- those of no column
abbrev pub no_cells : Cells
no_cells = record { lengths = []; values = [] }

-- those of a row or of none
abbrev pub cells_of_either : Option (List (Option (List ℕ))) → Cells
cells_of_either None = no_cells
cells_of_either (Some row) = cells_of row

-- cells behind others
abbrev pub with_row : Cells → List (Option (List ℕ)) → Cells
with_row cells row = record { lengths = cells.lengths ++ written_lengths row; values = cells.values ++ written_values row }

-- What a call leaves that writes what a definition reads, where it answers the bytes after it. Of want of memory
-- nothing is told.
abbrev pub PutsCells : {A : Type 0} → (A → List (Option (List ℕ))) → Result (A × List ℕ) ValueFault → Cells → Cells → Result (List ℕ) RowError → Type 0
PutsCells {A} row_of definition old new (Ok rest) = (read : A) × (definition ≡ Ok (read, rest)) × (new ≡ with_row old (row_of read))
PutsCells row_of definition old new (Err Memory) = Unit {0}
PutsCells row_of definition old new (Err (Fault fault)) = definition ≡ Err fault

-- The same of both rows of a change.
abbrev pub PutsChange : Result (Change × List ℕ) ValueFault → Cells → Cells → Result (List ℕ) RowError → Type 0
PutsChange definition before after (Ok rest) =
    (change : Change) × (definition ≡ Ok (change, rest)) × (before ≡ cells_of_either change.before) × (after ≡ cells_of_either change.after)
PutsChange definition before after (Err Memory) = Unit {0}
PutsChange definition before after (Err (Fault fault)) = definition ≡ Err fault

-- What a call that reads the next change answers and leaves: the change is taken off the front, and its rows stand in
-- `before` and `after`; at the end and at a fault nothing is taken, so the next call answers the same.
abbrev pub NextChange : Reading Change ValueFault → Result Bool RowError → Reading Change ValueFault → Cells → Cells → Type 0
NextChange old (Ok true) new before after =
    (change : Change) × (old.items ≡ change ∷ new.items) × (old.fault ≡ new.fault) × (before ≡ cells_of_either change.before) × (after ≡ cells_of_either change.after)
NextChange old (Ok false) new before after = (old.items ≡ []) × (old.fault ≡ None) × (new ≡ old)
NextChange old (Err Memory) new before after = new ≡ old
NextChange old (Err (Fault fault)) new before after = (old.items ≡ []) × (old.fault ≡ Some fault) × (new ≡ old)
