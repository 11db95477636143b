-- What a server may tell of a table's columns beyond their types: parts, each with its kind, one behind another
-- (MySQL internals manual, "TABLE_MAP_EVENT", optional metadata).
use Rattle.std.specs.Prelude.{ℕ, zero, suc, ◌-◌, ◌/◌, ◌%◌, ◌^◌, ◌==◌, ◌&&◌, if◌then◌else◌, Bool, false, List, [], ◌∷◌, length, slice_index, Option, Some, None, Result, Ok, Err}
use Rattle.std.specs.Str.{bytes_eq}
use Rattle.list_laws.specs.Outcome.{◌>>=◌}
use Rattle.item_readers.specs.Reading.{reading_of}
use Rattle.log_events.specs.Number.{number}
use Rattle.log_tables.specs.declared.fault.TableFault.{TableFault}
use Rattle.log_tables.specs.declared.fault.TableFault.TheVariants.{OtherType}
use Rattle.log_tables.specs.Part.{front_at, packed_at, counted_at}

-- ---- the parts

pub record ExtraPart : Type 0 where
  pub kind : ℕ
  pub value : List ℕ

-- a part: its kind in a byte, and its value behind its size
unfoldable pub part_at : List ℕ → Result (ExtraPart × List ℕ) TableFault
part_at bytes = front_at 1 bytes >>= λ kind. counted_at kind.1 >>= λ value. Ok (record { kind = number 0 1 kind.0; value = value.0 }, value.1)

-- the value of the last part of a kind, else this one
abbrev pub last_part : ℕ → List ℕ → List ExtraPart → Option TableFault → Result (List ℕ) TableFault
last_part kind found [] None = Ok found
last_part kind found [] (Some fault) = Err fault
last_part kind found (p ∷ parts) end = last_part kind (if p.kind == kind then p.value else found) parts end

-- the value of the part of a kind; none has no bytes
abbrev pub part_of : ℕ → List ℕ → Result (List ℕ) TableFault
part_of kind bytes = let parts = reading_of part_at bytes in last_part kind [] parts.items parts.fault

-- ---- their values

-- whether something is read, and a test holds of it
abbrev pub holds_of : {A F : Type 0} → Result A F → (A → Bool) → Bool
holds_of (Ok x) test = test x
holds_of (Err fault) test = false

-- the names of columns are these, each behind its size
unfoldable pub are_names : List (List ℕ) → List ℕ → Bool
are_names [] bytes = length bytes == 0
are_names (name ∷ names) bytes = holds_of (counted_at bytes) (λ x. bytes_eq x.0 name && are_names names x.1)

-- so many labels, each behind its size, and what stands behind them
unfoldable pub texts_at : ℕ → List ℕ → Result (List (List ℕ) × List ℕ) TableFault
texts_at zero bytes = Ok ([], bytes)
texts_at (suc n) bytes = counted_at bytes >>= λ x. texts_at n x.1 >>= λ others. Ok (x.0 ∷ others.0, others.1)

-- the labels of a column behind their count, and those of the other columns; where none are told the column can't be read
unfoldable pub labels_at : List ℕ → Result (List (List ℕ) × List ℕ) TableFault
labels_at [] = Err OtherType
labels_at (b ∷ bytes) = packed_at (b ∷ bytes) >>= λ count. texts_at count.0 count.1

-- whether a column of numbers has no sign: a bit each, the highest first
abbrev pub has_no_sign : List ℕ → ℕ → Bool
has_no_sign signs n = slice_index signs (n / 8) / 2 ^ (7 - n % 8) % 2 == 1
