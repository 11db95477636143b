-- The types of columns by name and number (`query.proto`, Type), as far as a key or a vindex has them.
use Rattle.std.specs.Prelude.{ℕ, ◌==◌, List, [], ◌∷◌, Bool, Option, find, codes}
use Rattle.std.specs.List.{list_any}
use Rattle.std.specs.Option.{option_map}
use Rattle.std.specs.Str.{bytes_eq}

pub record TypeName : Type 0 where
  pub name : List ℕ
  pub number : ℕ

abbrev pub named_type : List ℕ → ℕ → TypeName
named_type name number = record { name = name; number = number }

-- whole numbers, which travel as decimal text
abbrev pub whole_numbers : List ℕ
whole_numbers = 257 ∷ 259 ∷ 261 ∷ 263 ∷ 265 ∷ 770 ∷ 772 ∷ 774 ∷ 776 ∷ 778 ∷ []

-- VARCHAR, CHAR, VARBINARY and BINARY
abbrev pub short_texts : List ℕ
short_texts = 6165 ∷ 6167 ∷ 10262 ∷ 10264 ∷ []

-- TEXT and BLOB
abbrev pub long_texts : List ℕ
long_texts = 6163 ∷ 10260 ∷ []

abbrev pub type_names : List TypeName
type_names =
    named_type (codes "INT8") 257 ∷ named_type (codes "INT16") 259 ∷ named_type (codes "INT24") 261 ∷ named_type (codes "INT32") 263 ∷ named_type (codes "INT64") 265
    ∷ named_type (codes "UINT8") 770 ∷ named_type (codes "UINT16") 772 ∷ named_type (codes "UINT24") 774 ∷ named_type (codes "UINT32") 776 ∷ named_type (codes "UINT64") 778
    ∷ named_type (codes "TEXT") 6163 ∷ named_type (codes "VARCHAR") 6165 ∷ named_type (codes "CHAR") 6167
    ∷ named_type (codes "BLOB") 10260 ∷ named_type (codes "VARBINARY") 10262 ∷ named_type (codes "BINARY") 10264 ∷ []

abbrev pub type_of_name : List ℕ → Option ℕ
type_of_name name = option_map (λ t. t.number) (find (λ t. bytes_eq name t.name) type_names)

abbrev pub is_one_of : List ℕ → ℕ → Bool
is_one_of numbers n = list_any (λ m. n == m) numbers

abbrev pub is_whole_number : ℕ → Bool
is_whole_number n = is_one_of whole_numbers n

abbrev pub is_short_text : ℕ → Bool
is_short_text n = is_one_of short_texts n

abbrev pub is_long_text : ℕ → Bool
is_long_text n = is_one_of long_texts n
