-- Signed numbers as unsigned ones: 0, -1, 1, -2 are 0, 1, 2, 3 (protobuf encoding guide, "Signed Integers").
use Rattle.std.specs.Prelude.{ℕ, ℤ, pos, negsuc, ◌+◌, ◌*◌, ◌/◌, ◌%◌, ◌==◌, if◌then◌else◌, List, Result, Ok}
use Rattle.list_laws.specs.Outcome.{◌>>=◌}
use Rattle.proto_wire.specs.declared.fault.WireFault.{WireFault}
use Rattle.proto_wire.specs.Varint.{varint_at}

-- the number that a signed one travels as
abbrev pub zigzag_of : ℤ → ℕ
zigzag_of (pos n) = 2 * n
zigzag_of (negsuc n) = 2 * n + 1

-- the signed number that travels as this one
abbrev pub unzigzag_of : ℕ → ℤ
unzigzag_of n = if n % 2 == 0 then pos (n / 2) else negsuc (n / 2)

-- the signed number at the front, and the bytes after it
unfoldable pub sint64_at : List ℕ → Result (ℤ × List ℕ) WireFault
sint64_at bytes = varint_at bytes >>= λ v. Ok (unzigzag_of v.0, v.1)
