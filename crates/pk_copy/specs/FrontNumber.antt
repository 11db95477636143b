-- A key's front as one number of 64 bits, which keeps the order of keys as far as it tells them apart (this profile).
use Rattle.std.specs.Prelude.{ℕ, ◌+◌, ◌-◌, ◌*◌, ◌/◌, ◌^◌, List, [], ◌∷◌, pos, negsuc, min}
use Rattle.key_front.specs.FirstBytes.{first_bytes}
use Rattle.pk_copy.specs.KeyValue.{Part, number, bytes, KeyValue}
use Rattle.pk_copy.specs.KeyFront.{lead_of}

-- what 54 bits have of a first part: a number from 0 up to the greatest of these, one below 0 as what it is above the
-- least, and the first bits of a byte string
abbrev pub head_number : List Part → ℕ
head_number [] = 0
head_number (number (negsuc below) ∷ parts) = 2 ^ 54 - 1 - below
head_number (number (pos value) ∷ parts) = min value (2 ^ 54 - 1)
head_number (bytes text ∷ parts) = first_bytes 8 text / 2 ^ 10

-- the table and the kind, and below them what 54 bits have of the first part
abbrev pub front_number : KeyValue → ℕ
front_number key = lead_of key * 2 ^ 54 + head_number key.parts
