-- Whole numbers as text.
use Rattle.std.specs.Prelude.{ℕ, ◌-◌, ◌*◌, List, ◌∷◌, if◌then◌else◌, nat_lt, decimal}
use Rattle.log_events.specs.declared.number.Size.{Size}
use Rattle.log_events.specs.declared.number.Size.TheVariants.{One, Two, Three, Four, Six, Eight}

-- the number from which on the bytes of a signed number mean one below 0
abbrev pub half : Size → ℕ
half One = 0x80
half Two = 0x8000
half Three = 0x800000
half Four = 0x80000000
half Six = 0x800000000000
half Eight = 0x8000000000000000

-- the text of a number in two's complement
abbrev pub signed_text : Size → ℕ → List ℕ
signed_text size n = if nat_lt n (half size) then decimal n else 45 ∷ decimal (2 * half size - n)
