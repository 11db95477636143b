-- DATE, YEAR and DATETIME as they stand in the log (MySQL internals manual, "Date and Time Data Type
-- Representation").
use Rattle.std.specs.Prelude.{ℕ, ◌+◌, ◌/◌, ◌%◌, ◌==◌, ◌&&◌, Bool, if◌then◌else◌, nat_lt, nat_le, List, ◌∷◌, ◌++◌}
use Rattle.log_events.specs.Number.{number}
use Rattle.log_values.specs.declared.kind.Fraction.{Fraction}
use Rattle.log_values.specs.declared.date.Moment as moment
use Rattle.log_values.specs.Digits.{two, four, fraction_size, fraction_limit, fraction_text}
use Rattle.log_values.specs.Big.{big}

-- a day and a time of it
pub record Moment : Type 0 where
  pub year : ℕ
  pub month : ℕ
  pub day : ℕ
  pub hour : ℕ
  pub minute : ℕ
  pub second : ℕ

-- how a moment of the program is seen
abbrev pub moment_value : moment.Moment → Moment
moment_value m = record { year = m.year; month = m.month; day = m.day; hour = m.hour; minute = m.minute; second = m.second }

-- ---- as text

abbrev pub date_text : ℕ → ℕ → ℕ → List ℕ
date_text year month day = four year ++ (45 ∷ two month) ++ (45 ∷ two day)

abbrev pub moment_text : Moment → List ℕ
moment_text m = date_text m.year m.month m.day ++ (32 ∷ two m.hour) ++ (58 ∷ two m.minute) ++ (58 ∷ two m.second)

-- whether they are numbers of a date and of a time of day; a month and a day may be 0
abbrev pub is_date : ℕ → ℕ → ℕ → Bool
is_date year month day = nat_le year 9999 && nat_le month 12 && nat_le day 31

abbrev pub is_moment : Moment → Bool
is_moment m = is_date m.year m.month m.day && nat_lt m.hour 24 && nat_lt m.minute 60 && nat_lt m.second 60

-- ---- DATE: three bytes, the lowest first; 15 bits of the year, 4 of the month, 5 of the day

abbrev pub date_fits : List ℕ → Bool
date_fits bytes = let n = number 0 3 bytes in is_date (n / 512) (n / 32 % 16) (n % 32)

abbrev pub date_in : List ℕ → List ℕ
date_in bytes = let n = number 0 3 bytes in date_text (n / 512) (n / 32 % 16) (n % 32)

-- ---- YEAR: one byte, from 1901 on; 0 is the year 0

abbrev pub year_in : List ℕ → List ℕ
year_in bytes = let n = number 0 1 bytes in if n == 0 then four 0 else four (1900 + n)

-- ---- DATETIME: five bytes, the highest first; a bit that is 1, 17 bits of months, 13 to a year, 5 of the
-- day, 5 of the hour, 6 of the minute, 6 of the second. Behind them stands the fraction.

abbrev pub moment_of : ℕ → Moment
moment_of n = record {
  year = n / 4194304 % 131072 / 13;
  month = n / 4194304 % 131072 % 13;
  day = n / 131072 % 32;
  hour = n / 4096 % 32;
  minute = n / 64 % 64;
  second = n % 64;
}

abbrev pub datetime_fits : Fraction → List ℕ → Bool
datetime_fits f bytes = nat_le 0x8000000000 (big 0 5 bytes) && is_moment (moment_of (big 0 5 bytes)) && nat_lt (big 5 (fraction_size f) bytes) (fraction_limit f)

abbrev pub datetime_in : Fraction → List ℕ → List ℕ
datetime_in f bytes = moment_text (moment_of (big 0 5 bytes)) ++ fraction_text f (big 5 (fraction_size f) bytes)
