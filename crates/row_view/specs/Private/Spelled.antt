-- Bytes that are just what a row is written as.
use Rattle.std.specs.Prelude.{◌≡◌, ℕ, ◌%◌, ◌<◌, ◌⊎◌, List, length}
use Rattle.std.specs.List.{AllByRecursion}
use Rattle.proto_wire.specs.Writing.{written_fields, text_field}

-- each byte is the length of a value below 64 or of NULL, as it is written
abbrev pub AreShort : List ℕ → Type 0
AreShort lengths = AllByRecursion (λ b. (b < 128) × ((b % 2 ≡ 0) ⊎ (b ≡ 1))) lengths

-- the bytes are a text of this size under a number, as it is written
pub record IsTextOf (number size : ℕ) (bytes : List ℕ) : Type 0 where
  pub text : List ℕ
  pub long : length text ≡ size
  pub is : bytes ≡ written_fields (text_field number text)
