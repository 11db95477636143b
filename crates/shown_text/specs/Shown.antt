-- Texts of a file as they are printed for a person (this profile): a name can neither forge a line nor speak to a terminal.
use Rattle.std.specs.Prelude.{ℕ, ◌&&◌, nat_le, List, map, take, if◌then◌else◌}

-- a byte as it is printed: one that isn't printable in ASCII as a question mark
abbrev pub printable_byte : ℕ → ℕ
printable_byte byte = if nat_le 32 byte && nat_le byte 126 then byte else 63

-- each byte of a text so
unfoldable pub printable : List ℕ → List ℕ
printable text = map printable_byte text

-- the first 200 bytes so
unfoldable pub shown : List ℕ → List ℕ
shown text = map printable_byte (take 200 text)
