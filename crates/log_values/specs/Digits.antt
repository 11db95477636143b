-- Decimal digits.
use Rattle.std.specs.Prelude.{ℕ, Bool, if◌then◌else◌, ◌+◌, ◌/◌, ◌%◌, List, [], ◌∷◌}
use Rattle.log_values.specs.declared.kind.Fraction.{Fraction}
use Rattle.log_values.specs.declared.kind.Fraction.TheVariants.{Whole, One, Two, Three, Four, Five, Six}

-- the digit of a number that counts so many
abbrev pub digit : ℕ → ℕ → ℕ
digit n unit = 48 + n / unit % 10

-- the last two digits of a number, and the last four
abbrev pub two : ℕ → List ℕ
two n = digit n 10 ∷ digit n 1 ∷ []

abbrev pub four : ℕ → List ℕ
four n = digit n 1000 ∷ digit n 100 ∷ digit n 10 ∷ digit n 1 ∷ []

-- the last nine digits of a number
abbrev pub nine : ℕ → List ℕ
nine n = digit n 100000000 ∷ digit n 10000000 ∷ digit n 1000000 ∷ digit n 100000 ∷ digit n 10000 ∷ digit n 1000 ∷ digit n 100 ∷ digit n 10 ∷ digit n 1 ∷ []

-- the sign of a number below 0
abbrev pub minus_text : Bool → List ℕ
minus_text minus = if minus then 45 ∷ [] else []

-- ---- what stands behind the point of a time

-- how many bytes of the log it takes: one for two digits
abbrev pub fraction_size : Fraction → ℕ
fraction_size Whole = 0
fraction_size One = 1
fraction_size Two = 1
fraction_size Three = 2
fraction_size Four = 2
fraction_size Five = 3
fraction_size Six = 3

-- the number from which on it isn't one: as many digits as its bytes have
abbrev pub fraction_limit : Fraction → ℕ
fraction_limit Whole = 1
fraction_limit One = 100
fraction_limit Two = 100
fraction_limit Three = 10000
fraction_limit Four = 10000
fraction_limit Five = 1000000
fraction_limit Six = 1000000

-- the point and the digits; of an odd number of them the last that the bytes have isn't printed
abbrev pub fraction_text : Fraction → ℕ → List ℕ
fraction_text Whole n = []
fraction_text One n = 46 ∷ digit n 10 ∷ []
fraction_text Two n = 46 ∷ digit n 10 ∷ digit n 1 ∷ []
fraction_text Three n = 46 ∷ digit n 1000 ∷ digit n 100 ∷ digit n 10 ∷ []
fraction_text Four n = 46 ∷ digit n 1000 ∷ digit n 100 ∷ digit n 10 ∷ digit n 1 ∷ []
fraction_text Five n = 46 ∷ digit n 100000 ∷ digit n 10000 ∷ digit n 1000 ∷ digit n 100 ∷ digit n 10 ∷ []
fraction_text Six n = 46 ∷ digit n 100000 ∷ digit n 10000 ∷ digit n 1000 ∷ digit n 100 ∷ digit n 10 ∷ digit n 1 ∷ []
