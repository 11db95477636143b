-- What a plan's filter answers of a row (the Vitess documents on vindexes and key ranges).
use Rattle.std.specs.Prelude.{◌≡◌, ℕ, pos, List, Bool, true, false, Some}
use Rattle.std.specs.Int.{w64, to_be_bytes, reverse_bits}
use Rattle.md5.specs.Md5.{md5}
use Rattle.des.specs.Des.{enciphered}
use Rattle.vindex.specs.Bounds.{in_range}
use Rattle.vindex.specs.NumberText.{number_of_text}
use Rattle.vindex.specs.declared.vindexes.Vindex.{Vindex}
use Rattle.vindex.specs.declared.vindexes.Vindex.TheVariants.{Numeric, ReverseBits, Binary, BinaryMd5, Hash}
use Rattle.row_view.specs.Row.{RowValue}
use Rattle.filter_rule.specs.PlanValue.{column_at}
use Rattle.filter_rule.specs.declared.decision.Decision.{Decision}
use Rattle.filter_rule.specs.declared.decision.Decision.TheVariants.{NoRule, EveryRow, InRange}

-- The keyspace id of a value. `numeric`: the number in eight bytes, high first. `reverse_bits`: its 64 bits the other way
-- round. `binary`: the bytes. `binary_md5`: their MD5. `hash`: its 64 bits enciphered under the key of zeros (FIPS 46-3).
abbrev pub IsId : Vindex → List ℕ → List ℕ → Type 0
IsId Numeric value id = (n : ℕ) × (number_of_text value ≡ Some (pos n)) × (id ≡ to_be_bytes w64 n)
IsId ReverseBits value id = (n : ℕ) × (number_of_text value ≡ Some (pos n)) × (id ≡ to_be_bytes w64 (reverse_bits w64 n))
IsId Binary value id = id ≡ value
IsId BinaryMd5 value id = id ≡ md5 value
IsId Hash value id = (n : ℕ) × (number_of_text value ≡ Some (pos n)) × (id ≡ to_be_bytes w64 (enciphered 0 n))

-- whether a row passes: under a range, whether the range has the id of the column at a place
abbrev pub Answers : Decision → RowValue → Bool → Type 0
Answers NoRule row passes = passes ≡ false
Answers (EveryRow kept) row passes = passes ≡ true
Answers (InRange place vindex range kept) row passes = (value id : List ℕ) × (column_at row place ≡ Some value) × IsId vindex value id × (passes ≡ in_range range id)
