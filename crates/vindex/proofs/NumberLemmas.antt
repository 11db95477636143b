-- What decimal digits write, as a loop over them goes on.
use Rattle.std.proofs.Common.{◌≡◌, ℕ, ◌+◌, ◌*◌, ◌-◌, ◌<◌, ◌≤◌, true, false, List, [], ◌∷◌, ◌++◌, length, get_or, take, drop, None, Some, refl, sym, ◌∙◌, ap, arith}
use Rattle.std.proofs.lemmas.Bool.Decides.{nat_tests}
use Rattle.std.proofs.lemmas.Int.Digits.{digits_value_more}
use Rattle.std.proofs.lemmas.List.{take-append-drop, take_all}
use Rattle.std.proofs.lemmas.List.Folds.{list_all_at, list_all_more}
use Rattle.std.specs.Char.{is_ascii_digit, digit_value}
use Rattle.std.specs.List.{list_all}
use Rattle.std.specs.Str.Parse.{digits_value, digits_value_after}
use Rattle.vindex.specs.NumberText.{decimal_below}

not-lt-le : (m n : ℕ) → ¬ (m < n) → n ≤ m
not-lt-le m n h = omega arith

pub digit_value-ascii : (c : ℕ) → is_ascii_digit c ≡ true → digit_value c ≡ c - 48
digit_value-ascii c h = grind (arith, nat_tests)

-- digits behind others don't make less of the number
pub value_after-ge : (n : ℕ) (ds : List ℕ) → n ≤ digits_value_after 10 n ds
value_after-ge n [] = omega arith
value_after-ge n (d ∷ ds) = omega (arith, value_after-ge (n * 10 + digit_value d) ds)

pub value_after-append : (n : ℕ) (xs ys : List ℕ) → digits_value_after 10 n (xs ++ ys) ≡ digits_value_after 10 (digits_value_after 10 n xs) ys
value_after-append n [] ys = refl
value_after-append n (x ∷ xs) ys = value_after-append (n * 10 + digit_value x) xs ys

pub value-take-le : (i : ℕ) (ds : List ℕ) → digits_value 10 (take i ds) ≤ digits_value 10 ds
value-take-le i ds =
    let whole : digits_value 10 (take i ds ++ drop i ds) ≡ digits_value_after 10 (digits_value 10 (take i ds)) (drop i ds) = value_after-append 0 (take i ds) (drop i ds) in
    let same : digits_value 10 (take i ds ++ drop i ds) ≡ digits_value 10 ds = ap (λ xs. digits_value 10 xs) (take-append-drop i ds) in
    omega (arith, value_after-ge (digits_value 10 (take i ds)) (drop i ds))

pub decimal_below-large : (limit : ℕ) (ds : List ℕ) → limit ≤ digits_value 10 ds → decimal_below limit ds ≡ None
decimal_below-large limit [] large = refl
decimal_below-large limit (d ∷ ds) large = grind (arith, nat_tests)

pub decimal_below-stray : (limit : ℕ) (ds : List ℕ) → list_all is_ascii_digit ds ≡ false → decimal_below limit ds ≡ None
decimal_below-stray limit [] stray = refl
decimal_below-stray limit (d ∷ ds) stray = grind (arith, nat_tests)

pub decimal_below-all : (limit : ℕ) (ds : List ℕ) → 0 < length ds → list_all is_ascii_digit ds ≡ true → digits_value 10 ds < limit → decimal_below limit ds ≡ Some (digits_value 10 ds)
decimal_below-all limit [] some all small = grind arith
decimal_below-all limit (d ∷ ds) some all small = grind (arith, nat_tests)

-- all digits
pub decimal_below-done : (limit : ℕ) (ds : List ℕ) (i m : ℕ) → 0 < length ds → length ds ≤ i → list_all is_ascii_digit (take i ds) ≡ true → m ≡ digits_value 10 (take i ds) → m < limit → decimal_below limit ds ≡ Some m
decimal_below-done limit ds i m some done digits value small =
    let all : take i ds ≡ ds = take_all i ds done in
    let value' : m ≡ digits_value 10 ds = rw all at value in
    let digits' : list_all is_ascii_digit ds ≡ true = rw all at digits in
    let small' : digits_value 10 ds < limit = omega arith in
    decimal_below-all limit ds some digits' small' ∙ ap (λ n. Some n) (sym value')

-- one more digit
pub value-more : (ds : List ℕ) (i m : ℕ) → i < length ds → is_ascii_digit (get_or ds i 0) ≡ true → m ≡ digits_value 10 (take i ds) → digits_value 10 (take (i + 1) ds) ≡ m * 10 + (get_or ds i 0 - 48)
value-more ds i m below digit so_far = omega (arith, digits_value_more 10 ds i below, digit_value-ascii (get_or ds i 0) digit)

pub too_large : (limit : ℕ) (ds : List ℕ) (i m : ℕ) → i < length ds → is_ascii_digit (get_or ds i 0) ≡ true → m ≡ digits_value 10 (take i ds) → limit ≤ m * 10 + (get_or ds i 0 - 48) → decimal_below limit ds ≡ None
too_large limit ds i m below digit so_far large =
    decimal_below-large limit ds (omega (arith, value-more ds i m below digit so_far, value-take-le (i + 1) ds))

pub all-more : (ds : List ℕ) (i : ℕ) → i < length ds → is_ascii_digit (get_or ds i 0) ≡ true → list_all is_ascii_digit (take i ds) ≡ true → list_all is_ascii_digit (take (i + 1) ds) ≡ true
all-more ds i below digit so_far = grind (arith, list_all_more is_ascii_digit ds i 0 below)

-- a byte that is no digit, or a digit that makes too much
pub decimal_below-refused : (limit : ℕ) (ds : List ℕ) (i m : ℕ) → i < length ds → m ≡ digits_value 10 (take i ds) → ¬ ((is_ascii_digit (get_or ds i 0) ≡ true) × (m * 10 + (get_or ds i 0 - 48) < limit)) → decimal_below limit ds ≡ None
decimal_below-refused limit ds i m below so_far refused =
    elim (is_ascii_digit (get_or ds i 0)) as (λ b. is_ascii_digit (get_or ds i 0) ≡ b → decimal_below limit ds ≡ None) [
      | true ↦ λ digit. too_large limit ds i m below digit so_far (not-lt-le (m * 10 + (get_or ds i 0 - 48)) limit (λ small. refused (digit, small)))
      | false ↦ λ stray. decimal_below-stray limit ds (list_all_at is_ascii_digit ds i 0 below stray)
    ] refl
