-- A change of a row, by what its rows are.
use Rattle.std.proofs.Common.{◌≡◌, ◌≢◌, ℕ, List, [], Option, None, Some, Result, Ok, Err, refl, ap, ◌∙◌}
use Rattle.item_readers.specs.Reading.{Reading, reading_of}
use Rattle.item_readers.proofs.ReadingLaws.{next_err}
use Rattle.log_values.specs.declared.fault.ValueFault.{ValueFault}
use Rattle.log_tables.specs.Column.{ColumnValue}
use Rattle.log_rows.specs.declared.fault.RowError.{RowError}
use Rattle.log_rows.specs.declared.fault.RowError.TheVariants.{Memory, Fault}
use Rattle.log_rows.specs.declared.change.RowsKind.TheVariants.{Write, Update, Delete}
use Rattle.log_rows.specs.Image.{image_at}
use Rattle.log_rows.specs.Change.{Change, change_at}
use Rattle.log_rows.specs.Written.{Cells, no_cells, with_row, PutsCells, PutsChange, NextChange}

pub write_change : (columns : List ColumnValue) (bytes : List ℕ) (old before after : Cells) (r : Result (List ℕ) RowError) → old ≡ no_cells → before ≡ no_cells
    → PutsCells (λ (row : List (Option (List ℕ))). row) (image_at columns bytes) old after r → PutsChange (change_at Write columns bytes) before after r
write_change columns bytes old before after (Ok rest) old_is none (row, read, put) = (record { before = None; after = Some row }, rw read refl, none, put ∙ ap (λ (c : Cells). with_row c row) old_is)
write_change columns bytes old before after (Err Memory) old_is none put = tt
write_change columns bytes old before after (Err (Fault fault)) old_is none put = rw put refl

pub delete_change : (columns : List ColumnValue) (bytes : List ℕ) (old before after : Cells) (r : Result (List ℕ) RowError) → old ≡ no_cells → after ≡ no_cells
    → PutsCells (λ (row : List (Option (List ℕ))). row) (image_at columns bytes) old before r → PutsChange (change_at Delete columns bytes) before after r
delete_change columns bytes old before after (Ok rest) old_is none (row, read, put) = (record { before = Some row; after = None }, rw read refl, put ∙ ap (λ (c : Cells). with_row c row) old_is, none)
delete_change columns bytes old before after (Err Memory) old_is none put = tt
delete_change columns bytes old before after (Err (Fault fault)) old_is none put = rw put refl

pub update_change : (columns : List ColumnValue) (bytes between : List ℕ) (old before old_after after : Cells) (r : Result (List ℕ) RowError) → old ≡ no_cells → old_after ≡ no_cells
    → PutsCells (λ (row : List (Option (List ℕ))). row) (image_at columns bytes) old before (Ok between) → PutsCells (λ (row : List (Option (List ℕ))). row) (image_at columns between) old_after after r
    → PutsChange (change_at Update columns bytes) before after r
update_change columns bytes between old before old_after after (Ok rest) old_is none (row, read, put) (new, read_new, put_new) =
    (record { before = Some row; after = Some new }, rw (read, read_new) refl, put ∙ ap (λ (c : Cells). with_row c row) old_is, put_new ∙ ap (λ (c : Cells). with_row c new) none)
update_change columns bytes between old before old_after after (Err Memory) old_is none first put = tt
update_change columns bytes between old before old_after after (Err (Fault fault)) old_is none (row, read, put) refused = rw (read, refused) refl

pub update_refused : (columns : List ColumnValue) (bytes : List ℕ) (old before after : Cells) (error : RowError)
    → PutsCells (λ (row : List (Option (List ℕ))). row) (image_at columns bytes) old before (Err error) → PutsChange (change_at Update columns bytes) before after (Err error)
update_refused columns bytes old before after Memory put = tt
update_refused columns bytes old before after (Fault fault) put = rw put refl

pub next_refused : (at : List ℕ → Result (Change × List ℕ) ValueFault) (bytes : List ℕ) (old : Reading Change ValueFault) (before after : Cells) (error : RowError) → bytes ≢ [] → reading_of at bytes ≡ old
    → PutsChange (at bytes) before after (Err error) → NextChange old (Err error) old before after
next_refused at bytes old before after Memory some seen put = refl
next_refused at bytes old before after (Fault fault) some seen put = next_err at bytes old fault some put seen
