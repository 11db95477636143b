-- Years and months, one on.
use Rattle.std.proofs.Common.{◌≡◌, ℕ, zero, suc, ◌+◌, ◌-◌, ◌<◌, ◌≤◌, true, false, ltb, refl, sym, arith}
use Rattle.std.proofs.lemmas.Bool.{lt-ltb, le-ltb}
use Rattle.log_values.specs.Civil.{days_of_year, days_of_month, year_from, month_from}

pub year_here : (n year days : ℕ) → 0 < n → days < days_of_year year → year_from n year days ≡ (year, days)
unfolding year_from
year_here zero year days some less = absurd (omega arith)
year_here (suc more) year days some less = let test : ltb days (days_of_year year) ≡ true = lt-ltb _ _ less in rw test refl

year_on : (more year days : ℕ) → days_of_year year ≤ days → year_from (suc more) year days ≡ year_from more (year + 1) (days - days_of_year year)
unfolding year_from
year_on more year days le = let test : ltb days (days_of_year year) ≡ false = le-ltb _ _ le in rw test refl

pub year_later : (n k year days size : ℕ) → n ≡ suc k → size ≡ days_of_year year → size ≤ days → year_from k (year + 1) (days - size) ≡ year_from n year days
year_later n k year days size e s le = rw (e, s) (sym (year_on k year days (rw (← s) le)))

pub year_last : (year days : ℕ) → year_from 0 year days ≡ (year, days)
unfolding year_from
year_last year days = refl

pub month_here : (n year month days : ℕ) → 0 < n → days < days_of_month year month → month_from n year month days ≡ (month, days)
unfolding month_from
month_here zero year month days some less = absurd (omega arith)
month_here (suc more) year month days some less = let test : ltb days (days_of_month year month) ≡ true = lt-ltb _ _ less in rw test refl

month_on : (more year month days : ℕ) → days_of_month year month ≤ days → month_from (suc more) year month days ≡ month_from more year (month + 1) (days - days_of_month year month)
unfolding month_from
month_on more year month days le = let test : ltb days (days_of_month year month) ≡ false = le-ltb _ _ le in rw test refl

pub month_later : (n k year month days size : ℕ) → n ≡ suc k → size ≡ days_of_month year month → size ≤ days → month_from k year (month + 1) (days - size) ≡ month_from n year month days
month_later n k year month days size e s le = rw (e, s) (sym (month_on k year month days (rw (← s) le)))

pub month_last : (year month days : ℕ) → month_from 0 year month days ≡ (month, days)
unfolding month_from
month_last year month days = refl
