-- The changes of a row event, one behind another.
use Rattle.std.specs.Prelude.{ℕ, List, Option, Some, None, Result, Ok}
use Rattle.list_laws.specs.Outcome.{◌>>=◌}
use Rattle.item_readers.specs.Reading.{Reading, reading_of}
use Rattle.log_values.specs.declared.fault.ValueFault.{ValueFault}
use Rattle.log_tables.specs.Column.{ColumnValue}
use Rattle.log_rows.specs.declared.change.RowsKind.{RowsKind}
use Rattle.log_rows.specs.declared.change.RowsKind.TheVariants.{Write, Update, Delete}
use Rattle.log_rows.specs.Image.{image_at}

-- a change of a row: none stands before a row that is written, and none after one that is deleted
pub record Change : Type 0 where
  pub before : Option (List (Option (List ℕ)))
  pub after : Option (List (Option (List ℕ)))

-- the change at the front, and what stands behind it
abbrev pub change_at : RowsKind → List ColumnValue → List ℕ → Result (Change × List ℕ) ValueFault
change_at Write columns bytes = image_at columns bytes >>= λ row. Ok (record { before = None; after = Some row.0 }, row.1)
change_at Update columns bytes = image_at columns bytes >>= λ row. image_at columns row.1 >>= λ new. Ok (record { before = Some row.0; after = Some new.0 }, new.1)
change_at Delete columns bytes = image_at columns bytes >>= λ row. Ok (record { before = Some row.0; after = None }, row.1)

-- the changes of some bytes, and the fault that ends them
abbrev pub changes_of : RowsKind → List ColumnValue → List ℕ → Reading Change ValueFault
changes_of kind columns bytes = reading_of (change_at kind columns) bytes
