-- Digits behind a number.
use Rattle.std.proofs.Common.{◌≡◌, ℕ, zero, suc, ◌+◌, ◌-◌, ◌*◌, ◌^◌, ◌<◌, ◌≤◌, refl, sym, ◌∙◌, ap, arith, add-one, drop-cons, List, [], ◌∷◌, length, get_or, take, drop, Option, Some, None, Err}
use Rattle.std.proofs.lemmas.List.{length-take, length-drop}
use Rattle.std.specs.Option.{option_and_then}
use Rattle.std.proofs.lemmas.Bool.Decides.{nat_tests}
use Rattle.std.proofs.Math.Nat.{mul-le-mul_right, le-mul_of_pos_right}
use Rattle.std.proofs.lemmas.Grind.{pow_more}
use Rattle.gtid_set.specs.declared.fault.GtidFault.TheVariants.{BadNumber}
use Rattle.gtid_set.specs.Digits.{digit_of, number_behind, decimal_of}
use Rattle.gtid_set.specs.Position.{last_number}
use Rattle.gtid_set.specs.Text.{number_from}

byte_front : (s : List ℕ) (k : ℕ) → k < length s → drop k s ≡ get_or s k 0 ∷ drop (k + 1) s
byte_front s k lt = rw add-one (drop-cons s k 0 lt)

-- one digit more
pub number_behind-next : (digit : ℕ → Option ℕ) (base front : ℕ) (text : List ℕ) (k d : ℕ) → k < length text → digit (get_or text k 0) ≡ Some d
    → number_behind digit base front (drop k text) ≡ number_behind digit base (front * base + d) (drop (k + 1) text)
number_behind-next digit base front text k d lt e =
    ap (number_behind digit base front) (byte_front text k lt)
    ∙ ap (λ (o : Option ℕ). option_and_then (λ d. number_behind digit base (front * base + d) (drop (k + 1) text)) o) e

-- ---- decimal numbers

beyond_range : (low n : ℕ) → last_number < n → number_from low (Some n) ≡ Err BadNumber
beyond_range low n lt = grind (arith, nat_tests)

too_large : (low front : ℕ) (text : List ℕ) → last_number < front → number_from low (number_behind digit_of 10 front text) ≡ Err BadNumber
too_large low front [] lt = beyond_range low front lt
too_large low front (b ∷ text) lt = by_digit (digit_of b) refl (λ d. too_large low (front * 10 + d) text (omega arith))
  where
    by_digit : (o : Option ℕ) → digit_of b ≡ o → ((d : ℕ) → number_from low (number_behind digit_of 10 (front * 10 + d) text) ≡ Err BadNumber)
        → number_from low (option_and_then (λ d. number_behind digit_of 10 (front * 10 + d) text) (digit_of b)) ≡ Err BadNumber
    by_digit None e rest = rw e refl
    by_digit (Some d) e rest = rw e (rest d)

decimal-some : (text : List ℕ) → 0 < length text → decimal_of text ≡ number_behind digit_of 10 0 text
decimal-some [] lt = absurd (omega arith)
decimal-some (b ∷ text) lt = refl

is_digit : (b : ℕ) → 48 ≤ b → b ≤ 57 → digit_of b ≡ Some (b - 48)
is_digit b low high = grind (arith, nat_tests)

pub over : (low number : ℕ) (text : List ℕ) (k : ℕ) → k < length text → number_behind digit_of 10 number (drop k text) ≡ number_behind digit_of 10 0 text → 48 ≤ get_or text k 0 → get_or text k 0 ≤ 57
    → last_number < number * 10 + (get_or text k 0 - 48) → number_from low (decimal_of text) ≡ Err BadNumber
over low number text k lt so_far small large beyond =
    ap (number_from low) (decimal-some text (omega arith) ∙ sym so_far ∙ number_behind-next digit_of 10 number text k (get_or text k 0 - 48) lt (is_digit (get_or text k 0) small large))
    ∙ too_large low (number * 10 + (get_or text k 0 - 48)) (drop (k + 1) text) beyond

-- ---- room for hexadecimal digits

pow_step : (r : ℕ) → 0 < r → 16 ^ r ≡ 16 ^ (r - 1) * 16
pow_step r lt =
    let e : r ≡ r - 1 + 1 = omega arith in
    ap (λ (k : ℕ). 16 ^ k) e ∙ pow_more 16 (r - 1)

pub room-next : (n d r limit : ℕ) → d < 16 → 0 < r → (n + 1) * 16 ^ r ≤ limit → (n * 16 + d + 1) * 16 ^ (r - 1) ≤ limit
room-next n d r limit small some room =
    let le : (n * 16 + d + 1) * 16 ^ (r - 1) ≤ ((n + 1) * 16) * 16 ^ (r - 1) = mul-le-mul_right (16 ^ (r - 1)) (omega arith) in
    let room' : (n + 1) * (16 ^ (r - 1) * 16) ≤ limit = rw pow_step at room in
    omega arith

power : (r : ℕ) → 1 ≤ 16 ^ r
power zero = omega arith
power (suc r) =
    let k : suc r ≡ r + 1 = omega arith in
    let e : 16 ^ suc r ≡ 16 ^ r * 16 = ap (λ (k : ℕ). 16 ^ k) k ∙ pow_more 16 r in
    omega (arith, power r, e)

pub room-value : (n r limit : ℕ) → (n + 1) * 16 ^ r ≤ limit → n < limit
room-value n r limit room =
    let le : n + 1 ≤ (n + 1) * 16 ^ r = le-mul_of_pos_right (n + 1) (power r) in
    omega arith

-- ---- the groups of a uuid's text

pub group-length : (text : List ℕ) (from count : ℕ) → length text ≡ 36 → from + count ≤ 36 → length (take count (drop from text)) ≡ count
group-length text from count len le = omega (arith, length-take count (drop from text), length-drop from text)
