-- A row in the log (MySQL internals manual, "ROWS_EVENT"): a bit for each column, and the values of those that
-- aren't NULL.
use Rattle.std.specs.Prelude.{ℕ, ◌+◌, ◌/◌, ◌%◌, ◌^◌, ◌==◌, if◌then◌else◌, nat_lt, Bool, true, false, List, [], ◌∷◌, length, take, drop, slice_index, Option, Some, None, Result, Ok, Err}
use Rattle.list_laws.specs.Outcome.{◌>>=◌}
use Rattle.log_values.specs.declared.fault.ValueFault.{ValueFault}
use Rattle.log_values.specs.declared.fault.ValueFault.TheVariants.{CutValue}
use Rattle.log_values.specs.Value.{value_at}
use Rattle.log_tables.specs.Column.{ColumnValue}

-- a bit of some bytes, the lowest of a byte first
abbrev pub bit_of : List ℕ → ℕ → Bool
bit_of bits n = slice_index bits (n / 8) / 2 ^ (n % 8) % 2 == 1

-- how many bytes a bit for each of so many columns takes
abbrev pub bits_size : ℕ → ℕ
bits_size count = (count + 7) / 8

-- the text of a column, or nothing where its bit says NULL, and what stands behind it
abbrev pub cell_at : Bool → ColumnValue → List ℕ → Result (Option (List ℕ) × List ℕ) ValueFault
cell_at true column bytes = Ok (None, bytes)
cell_at false column bytes = value_at column.kind column.labels bytes >>= λ x. Ok (Some x.0, x.1)

-- the texts of columns, the first of which has this bit, and what stands behind them
unfoldable pub cells_at : List ℕ → ℕ → List ColumnValue → List ℕ → Result (List (Option (List ℕ)) × List ℕ) ValueFault
cells_at nulls n [] bytes = Ok ([], bytes)
cells_at nulls n (c ∷ columns) bytes = cell_at (bit_of nulls n) c bytes >>= λ x. cells_at nulls (n + 1) columns x.1 >>= λ others. Ok (x.0 ∷ others.0, others.1)

-- a row, and what stands behind it
unfoldable pub image_at : List ColumnValue → List ℕ → Result (List (Option (List ℕ)) × List ℕ) ValueFault
image_at columns bytes =
    if nat_lt (length bytes) (bits_size (length columns)) then Err CutValue
    else cells_at (take (bits_size (length columns)) bytes) 0 columns (drop (bits_size (length columns)) bytes)
