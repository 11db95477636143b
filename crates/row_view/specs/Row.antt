-- The columns of a row message (`query.proto`, Row). The limits are this profile's.
use Rattle.std.specs.Prelude.{◌≡◌, ℕ, ℤ, pos, negsuc, ◌+◌, ◌^◌, ◌≤◌, List, [], ◌∷◌, length, take, drop, Option, Some, None, Result, Ok, Err, nat_lt, slice_get, if◌then◌else◌}
use Rattle.std.specs.List.{AllByRecursion}
use Rattle.proto_wire.specs.declared.fault.WireFault.{WireFault}
use Rattle.proto_wire.specs.Field.{fields_of}
use Rattle.row_view.specs.declared.fault.RowFault.{RowFault}
use Rattle.row_view.specs.declared.fault.RowFault.TheVariants.{RowTooLong, Wire, TooManyColumns, LengthsPastValues}
use Rattle.row_view.specs.RowFields.{packed_fault_at, row_lengths, row_values, row_wire_fault}

-- a row: the bytes of each column, or `None` for NULL
abbrev pub RowValue : Type 0
RowValue = List (Option (List ℕ))

-- how many bytes a column of this length takes: NULL, a negative length, takes none
abbrev pub size_of : ℤ → ℕ
size_of (pos n) = n
size_of (negsuc n) = 0

-- how many bytes columns of these lengths take together
abbrev pub size_of_all : List ℤ → ℕ
size_of_all [] = 0
size_of_all (n ∷ ns) = size_of n + size_of_all ns

-- ---- as a relation

-- a column of this length: NULL where it is negative, else that slice of the values
abbrev pub column_from : List ℕ → ℕ → ℤ → Option (List ℕ)
column_from values start (pos n) = Some (take n (drop start values))
column_from values start (negsuc n) = None

-- as many columns as lengths, each starting at the sum of the earlier lengths that aren't negative
pub record AreColumns (values : List ℕ) (lengths : List ℤ) (columns : RowValue) : Type 0 where
  pub count : length columns ≡ length lengths
  pub each : (i : ℕ) (n : ℤ) → slice_get lengths i ≡ Some n → slice_get columns i ≡ Some (column_from values (size_of_all (take i lengths)) n)

-- the bytes are a list of fields, in which each packed part is a list of varints
pub record IsWhole (bytes : List ℕ) : Type 0 where
  pub fields : (fields_of bytes).fault ≡ None
  pub packed : AllByRecursion (λ f. packed_fault_at f ≡ None) (fields_of bytes).items

-- the bytes are a row of these columns
pub record IsRow (bytes : List ℕ) (columns : RowValue) : Type 0 where
  pub size : length bytes ≤ 2 ^ 24
  pub whole : IsWhole bytes
  pub few : length (row_lengths bytes) ≤ 256
  pub within : size_of_all (row_lengths bytes) ≤ length (row_values bytes)
  pub columns_are : AreColumns (row_values bytes) (row_lengths bytes) columns

-- ---- as a function

-- the columns of these lengths, where the values begin with the first one's
abbrev pub columns_over : List ℕ → List ℤ → RowValue
columns_over values [] = []
columns_over values (pos n ∷ ns) = Some (take n values) ∷ columns_over (drop n values) ns
columns_over values (negsuc n ∷ ns) = None ∷ columns_over values ns

-- the columns of a message whose lengths and values are right
abbrev pub columns_in : List ℕ → RowValue
columns_in bytes = columns_over (row_values bytes) (row_lengths bytes)

-- the row of these values and lengths
unfoldable pub row_with : List ℕ → List ℤ → Result RowValue RowFault
row_with values lengths =
    if nat_lt 256 (length lengths) then Err TooManyColumns else
    if nat_lt (length values) (size_of_all lengths) then Err LengthsPastValues else
    Ok (columns_over values lengths)

-- the wire's fault, or the row where there is none
abbrev pub unless_broken : Option WireFault → Result RowValue RowFault → Result RowValue RowFault
unless_broken (Some fault) row = Err (Wire fault)
unless_broken None row = row

-- the columns of the message, or its first fault: its size, the wire's, the count, the sum
unfoldable pub row_of_message : List ℕ → Result RowValue RowFault
row_of_message bytes =
    if nat_lt (2 ^ 24) (length bytes) then Err RowTooLong else
    unless_broken (row_wire_fault bytes) (row_with (row_values bytes) (row_lengths bytes))
