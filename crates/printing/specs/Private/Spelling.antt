-- How far the digits of bytes are written.
use Rattle.std.specs.Prelude.{◌≡◌, ℕ, ◌*◌, List, take}
use Rattle.hex.specs.Hex.{encode_lower}

-- the digits of the first bytes stand at the front of the room for all
abbrev pub IsSpelled : List ℕ → List ℕ → ℕ → Type 0
IsSpelled piece room count = take (2 * count) room ≡ encode_lower (take count piece)
