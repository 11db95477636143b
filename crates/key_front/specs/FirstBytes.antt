-- The number that the first bytes of a text spell (this profile).
use Rattle.std.specs.Prelude.{ℕ, zero, suc, ◌+◌, ◌-◌, ◌*◌, ◌^◌, List, [], ◌∷◌, nat_lt, if◌then◌else◌}

-- the number of the first n bytes, the first byte the highest; zeros stand behind a shorter text, and from a place on
-- that has no byte the greatest number there is
abbrev pub first_bytes : ℕ → List ℕ → ℕ
first_bytes zero text = 0
first_bytes (suc n) [] = 0
first_bytes (suc n) (byte ∷ text) = if nat_lt byte 256 then byte * 256 ^ n + first_bytes n text else 255 * 256 ^ n + (256 ^ n - 1)
