-- TIMESTAMP as it stands in the log: seconds of Unix time, in UTC. The days of the Gregorian calendar.
use Rattle.std.specs.Prelude.{ℕ, zero, suc, ◌+◌, ◌-◌, ◌/◌, ◌%◌, ◌==◌, ◌&&◌, ◌||◌, not, Bool, if◌then◌else◌, nat_lt, List, ◌++◌}
use Rattle.log_values.specs.declared.kind.Fraction.{Fraction}
use Rattle.log_values.specs.Digits.{fraction_size, fraction_limit, fraction_text}
use Rattle.log_values.specs.Big.{big}
use Rattle.log_values.specs.Moment.{Moment, moment_text}

-- whether a year has a day more
abbrev pub is_leap : ℕ → Bool
is_leap year = (year % 4 == 0) && (not (year % 100 == 0) || (year % 400 == 0))

abbrev pub days_of_year : ℕ → ℕ
days_of_year year = if is_leap year then 366 else 365

abbrev pub days_of_month : ℕ → ℕ → ℕ
days_of_month year month =
    if month == 2 then (if is_leap year then 29 else 28)
    else if (month == 4) || (month == 6) || (month == 9) || (month == 11) then 30 else 31

-- of so many days from the first of a year on: the year in which they end, and the days of it before; `more`
-- years later at most
unfoldable pub year_from : ℕ → ℕ → ℕ → ℕ × ℕ
year_from zero year days = (year, days)
year_from (suc more) year days = if nat_lt days (days_of_year year) then (year, days) else year_from more (year + 1) (days - days_of_year year)

-- the same of months
unfoldable pub month_from : ℕ → ℕ → ℕ → ℕ → ℕ × ℕ
month_from zero year month days = (month, days)
month_from (suc more) year month days = if nat_lt days (days_of_month year month) then (month, days) else month_from more year (month + 1) (days - days_of_month year month)

-- the moment of so many seconds
unfoldable pub moment_at : ℕ → Moment
moment_at seconds =
    let year = year_from 140 1970 (seconds / 86400) in
    let month = month_from 11 year.0 1 year.1 in
    record {
      year = year.0;
      month = month.0;
      day = month.1 + 1;
      hour = seconds / 3600 % 24;
      minute = seconds / 60 % 60;
      second = seconds % 60;
    }

-- the moment that a TIMESTAMP of so many seconds means, with so much behind them: none at all is no moment
abbrev pub zero_moment : Moment
zero_moment = record { year = 0; month = 0; day = 0; hour = 0; minute = 0; second = 0 }

abbrev pub timestamp_moment : ℕ → ℕ → Moment
timestamp_moment seconds part = if (seconds == 0) && (part == 0) then zero_moment else moment_at seconds

abbrev pub timestamp_fits : Fraction → List ℕ → Bool
timestamp_fits f bytes = nat_lt (big 4 (fraction_size f) bytes) (fraction_limit f)

abbrev pub timestamp_in : Fraction → List ℕ → List ℕ
timestamp_in f bytes =
    let part = big 4 (fraction_size f) bytes in
    moment_text (timestamp_moment (big 0 4 bytes) part) ++ fraction_text f part
