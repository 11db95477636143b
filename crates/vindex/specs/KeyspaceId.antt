-- Vindexes, which give a column's value its keyspace id (the Vitess documents on vindexes).
use Rattle.std.specs.Prelude.{◌≡◌, ℕ, List, [], ◌∷◌, Bool, Option, None, Some, Result, Ok, Err, ℤ, pos, negsuc, codes, find}
use Rattle.std.specs.Int.{w64, to_be_bytes, reverse_bits}
use Rattle.std.specs.Option.{option_map, ok_or}
use Rattle.std.specs.Str.{bytes_eq}
use Rattle.md5.specs.Md5.{md5}
use Rattle.des.specs.Des.{enciphered}
use Rattle.vindex.specs.Bounds.{Bounds, in_range}
use Rattle.vindex.specs.NumberText.{number_of_text}
use Rattle.vindex.specs.declared.faults.VindexFault.{VindexFault}
use Rattle.vindex.specs.declared.faults.VindexFault.TheVariants.{NullValue, NotANumber}
use Rattle.vindex.specs.declared.ids.Id.{Id}
use Rattle.vindex.specs.declared.ids.Id.TheVariants.{Slice, Eight, Sixteen}
use Rattle.vindex.specs.declared.vindexes.Vindex.{Vindex}
use Rattle.vindex.specs.declared.vindexes.Vindex.TheVariants.{Numeric, ReverseBits, Binary, BinaryMd5, Hash}

-- the name of a vindex
abbrev pub vindex_name : Vindex → List ℕ
vindex_name Numeric = codes "numeric"
vindex_name ReverseBits = codes "reverse_bits"
vindex_name Binary = codes "binary"
vindex_name BinaryMd5 = codes "binary_md5"
vindex_name Hash = codes "hash"

-- the vindex that a name stands for
abbrev pub vindex_of_name : List ℕ → Option Vindex
vindex_of_name name = find (λ vindex. bytes_eq name (vindex_name vindex)) (Numeric ∷ ReverseBits ∷ Binary ∷ BinaryMd5 ∷ Hash ∷ [])

-- the bytes of an id
abbrev pub id_bytes : Id → List ℕ
id_bytes (Slice bytes) = bytes.now
id_bytes (Eight bytes) = bytes
id_bytes (Sixteen bytes) = bytes

-- a number, if it is 0 or more
abbrev pub unsigned : Option ℤ → Option ℕ
unsigned None = None
unsigned (Some (pos n)) = Some n
unsigned (Some (negsuc n)) = None

-- the id of a value that is to be a number from 0 to 2^64 - 1
abbrev pub id_of_number : (ℕ → List ℕ) → List ℕ → Result (List ℕ) VindexFault
id_of_number bytes_of text = ok_or (option_map bytes_of (unsigned (number_of_text text))) NotANumber

-- the value of a number vindex is no such number
abbrev pub IsNoUnsigned : Vindex → Option (List ℕ) → Type 0
IsNoUnsigned vindex None = ⊥
IsNoUnsigned Numeric (Some text) = unsigned (number_of_text text) ≡ None
IsNoUnsigned ReverseBits (Some text) = unsigned (number_of_text text) ≡ None
IsNoUnsigned Binary (Some bytes) = ⊥
IsNoUnsigned BinaryMd5 (Some bytes) = ⊥
IsNoUnsigned Hash (Some text) = unsigned (number_of_text text) ≡ None

-- The id of a column's value. `numeric`: the number in eight bytes, high first. `reverse_bits`: its 64
-- bits in reverse order, in eight bytes, high first. `binary`: the value's bytes. `binary_md5`: their
-- MD5. `hash`: the number's 64 bits enciphered under the key of zeros (FIPS PUB 46-3), in eight bytes,
-- high first.
unfoldable pub id_of : Vindex → Option (List ℕ) → Result (List ℕ) VindexFault
id_of vindex None = Err NullValue
id_of Numeric (Some text) = id_of_number (λ n. to_be_bytes w64 n) text
id_of ReverseBits (Some text) = id_of_number (λ n. to_be_bytes w64 (reverse_bits w64 n)) text
id_of Binary (Some bytes) = Ok bytes
id_of BinaryMd5 (Some bytes) = Ok (md5 bytes)
id_of Hash (Some text) = id_of_number (λ n. to_be_bytes w64 (enciphered 0 n)) text

-- whether a range has an id, where there is one
abbrev pub id_in : Bounds → Result (List ℕ) VindexFault → Result Bool VindexFault
id_in range (Ok id) = Ok (in_range range id)
id_in range (Err fault) = Err fault
