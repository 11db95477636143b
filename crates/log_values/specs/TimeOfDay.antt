-- TIME as it stands in the log: three bytes and the fraction as one number, the highest byte first, from which
-- half of all such numbers is taken; of its size 10 bits of the hours, 6 of the minutes, 6 of the seconds.
use Rattle.std.specs.Prelude.{ℕ, ◌+◌, ◌-◌, ◌*◌, ◌/◌, ◌%◌, ◌&&◌, Bool, if◌then◌else◌, nat_lt, nat_le, List, ◌∷◌, ◌++◌}
use Rattle.log_values.specs.declared.kind.Fraction.{Fraction}
use Rattle.log_values.specs.declared.kind.Fraction.TheVariants.{Whole, One, Two, Three, Four, Five, Six}
use Rattle.log_values.specs.Digits.{digit, two, minus_text, fraction_size, fraction_limit, fraction_text}
use Rattle.log_values.specs.Big.{big}

-- how many fractions a second has in the log
abbrev pub fraction_unit : Fraction → ℕ
fraction_unit Whole = 1
fraction_unit One = 0x100
fraction_unit Two = 0x100
fraction_unit Three = 0x10000
fraction_unit Four = 0x10000
fraction_unit Five = 0x1000000
fraction_unit Six = 0x1000000

-- half of all numbers of these bytes
abbrev pub time_half : Fraction → ℕ
time_half f = 0x800000 * fraction_unit f

abbrev pub time_number : Fraction → List ℕ → ℕ
time_number f bytes = big 0 (3 + fraction_size f) bytes

abbrev pub is_minus : Fraction → ℕ → Bool
is_minus f n = nat_lt n (time_half f)

abbrev pub time_size : Fraction → ℕ → ℕ
time_size f n = if is_minus f n then time_half f - n else n - time_half f

-- hours have two digits at least
abbrev pub hours_text : ℕ → List ℕ
hours_text hours = if nat_lt hours 100 then two hours else digit hours 100 ∷ two hours

-- of a size in fractions
abbrev pub clock_fits : Fraction → ℕ → Bool
clock_fits f size = nat_le (size / fraction_unit f / 4096) 838 && nat_lt (size / fraction_unit f / 64 % 64) 60 && nat_lt (size / fraction_unit f % 64) 60 && nat_lt (size % fraction_unit f) (fraction_limit f)

abbrev pub clock_text : Fraction → ℕ → List ℕ
clock_text f size =
    hours_text (size / fraction_unit f / 4096) ++ ((58 ∷ two (size / fraction_unit f / 64 % 64)) ++ (58 ∷ two (size / fraction_unit f % 64)) ++ fraction_text f (size % fraction_unit f))

abbrev pub time_fits : Fraction → List ℕ → Bool
time_fits f bytes = clock_fits f (time_size f (time_number f bytes))

abbrev pub time_in : Fraction → List ℕ → List ℕ
time_in f bytes = minus_text (is_minus f (time_number f bytes)) ++ clock_text f (time_size f (time_number f bytes))
