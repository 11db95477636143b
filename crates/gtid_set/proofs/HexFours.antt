-- Hexadecimal digits four at a time.
use Rattle.std.proofs.Common.{◌≡◌, ℕ, ◌+◌, ◌-◌, ◌*◌, ◌^◌, ◌<◌, ◌≤◌, refl, sym, ◌∙◌, ap, arith, inl, inr, List, [], ◌∷◌, ◌++◌, length, get_or, take, drop, Option, Some, None, unwrap_or}
use Rattle.std.specs.Option.{option_and_then}
use Rattle.std.proofs.Math.Nat.{mul-le-mul_right}
use Rattle.std.proofs.lemmas.Grind.{pow_more}
use Rattle.std.proofs.lemmas.List.{take_rest, length-drop}
use Rattle.gtid_set.specs.Digits.{hex_digit_of, number_behind}
use Rattle.gtid_set.proofs.HexTables.{digit_or_none}
use Rattle.gtid_set.proofs.UuidHalves.{with_front}

abbrev value : ℕ → ℕ
value b = unwrap_or (hex_digit_of b) 65536

-- the number of four values
abbrev pub four_of : ℕ → ℕ → ℕ → ℕ → ℕ
four_of v w x y = ((v * 16 + w) * 16 + x) * 16 + y

abbrev reading : ℕ → ℕ → ℕ → ℕ → Option ℕ
reading a b c d = number_behind hex_digit_of 16 0 (a ∷ b ∷ c ∷ d ∷ [])

pub four-some : (a b c d v w x y : ℕ) → v ≡ value a → w ≡ value b → x ≡ value c → y ≡ value d → four_of v w x y < 65536 → Some (four_of v w x y) ≡ reading a b c d
four-some a b c d v w x y p q r s small =
    let number : four_of v w x y ≡ (((0 * 16 + v) * 16 + w) * 16 + x) * 16 + y = omega arith in
    rw (is a v p (omega arith), is b w q (omega arith), is c x r (omega arith), is d y s (omega arith)) (ap (λ (k : ℕ). Some k) number)
  where
    is : (b v : ℕ) → v ≡ value b → v < 65536 → hex_digit_of b ≡ Some v
    is b v e small = elim (digit_or_none b v e) [
      | inl none ↦ let large : v ≡ 65536 = rw none at e in absurd (omega arith)
      | inr some ↦ some.0
    ]

pub four-none : (a b c d v w x y : ℕ) → v ≡ value a → w ≡ value b → x ≡ value c → y ≡ value d → 65536 ≤ four_of v w x y → None ≡ reading a b c d
four-none a b c d v w x y p q r s large = elim (digit_or_none a v p) [
  | inl none ↦ rw none refl
  | inr one ↦ elim (digit_or_none b w q) [
    | inl none ↦ rw (one.0, none) refl
    | inr two ↦ elim (digit_or_none c x r) [
      | inl none ↦ rw (one.0, two.0, none) refl
      | inr three ↦ elim (digit_or_none d y s) [
        | inl none ↦ rw (one.0, two.0, three.0, none) refl
        | inr four ↦ absurd (omega (arith, one.1, two.1, three.1, four.1))
      ]
    ]
  ]
]

-- ---- four digits more

abbrev behind : ℕ → List ℕ → Option ℕ
behind front text = number_behind hex_digit_of 16 front text

behind-append : (front : ℕ) (xs ys : List ℕ) → behind front (xs ++ ys) ≡ option_and_then (λ n. behind n ys) (behind front xs)
behind-append front [] ys = refl
behind-append front (b ∷ xs) ys = by_digit (hex_digit_of b) refl (λ d. behind-append (front * 16 + d) xs ys)
  where
    by_digit : (o : Option ℕ) → hex_digit_of b ≡ o → ((d : ℕ) → behind (front * 16 + d) (xs ++ ys) ≡ option_and_then (λ n. behind n ys) (behind (front * 16 + d) xs))
        → option_and_then (λ d. behind (front * 16 + d) (xs ++ ys)) (hex_digit_of b) ≡ option_and_then (λ n. behind n ys) (option_and_then (λ d. behind (front * 16 + d) xs) (hex_digit_of b))
    by_digit None e rest = rw e refl
    by_digit (Some d) e rest = rw e (rest d)

abbrev reading_front : List ℕ → Option ℕ
reading_front rest = reading (get_or rest 0 0) (get_or rest 1 0) (get_or rest 2 0) (get_or rest 3 0)

pub four-next : (front : ℕ) (rest : List ℕ) (n : ℕ) → 4 ≤ length rest → Some n ≡ reading_front rest → behind front rest ≡ behind (front * 65536 + n) (drop 4 rest)
four-next front [] n le e = absurd (omega arith)
four-next front (a ∷ []) n le e = absurd (omega arith)
four-next front (a ∷ b ∷ []) n le e = absurd (omega arith)
four-next front (a ∷ b ∷ c ∷ []) n le e = absurd (omega arith)
four-next front (a ∷ b ∷ c ∷ d ∷ more) n le e =
    let number : front * 16 ^ 4 + n ≡ front * 65536 + n = omega arith in
    let first : behind front (a ∷ b ∷ c ∷ d ∷ []) ≡ Some (front * 65536 + n) = with_front front (a ∷ b ∷ c ∷ d ∷ []) (Some n) (sym e) ∙ ap (λ (k : ℕ). Some k) number in
    behind-append front (a ∷ b ∷ c ∷ d ∷ []) more ∙ ap (λ (o : Option ℕ). option_and_then (λ n. behind n more) o) first

pub four-ends : (front : ℕ) (rest : List ℕ) → 4 ≤ length rest → None ≡ reading_front rest → behind front rest ≡ None
four-ends front [] le e = absurd (omega arith)
four-ends front (a ∷ []) le e = absurd (omega arith)
four-ends front (a ∷ b ∷ []) le e = absurd (omega arith)
four-ends front (a ∷ b ∷ c ∷ []) le e = absurd (omega arith)
four-ends front (a ∷ b ∷ c ∷ d ∷ more) le e =
    behind-append front (a ∷ b ∷ c ∷ d ∷ []) more ∙ ap (λ (o : Option ℕ). option_and_then (λ n. behind n more) o) (with_front front (a ∷ b ∷ c ∷ d ∷ []) None (sym e))

pub left-length : (rest : List ℕ) → length (take (length rest - 4) (drop 4 rest)) ≡ length rest - 4
left-length rest = ap (λ (s : List ℕ). length s) (take_rest rest 4) ∙ length-drop 4 rest

pow_four : (r : ℕ) → 16 ^ (r + 1 + 1 + 1 + 1) ≡ 16 ^ r * 65536
pow_four r = omega (arith, pow_more 16 (r + 1 + 1 + 1), pow_more 16 (r + 1 + 1), pow_more 16 (r + 1), pow_more 16 r)

pub room-four : (n d l limit : ℕ) → d < 65536 → 4 ≤ l → (n + 1) * 16 ^ l ≤ limit → (n * 65536 + d + 1) * 16 ^ (l - 4) ≤ limit
room-four n d l limit small some room =
    let e : l ≡ l - 4 + 1 + 1 + 1 + 1 = omega arith in
    let pow : 16 ^ l ≡ 16 ^ (l - 4) * 65536 = ap (λ (k : ℕ). 16 ^ k) e ∙ pow_four (l - 4) in
    let le : (n * 65536 + d + 1) * 16 ^ (l - 4) ≤ ((n + 1) * 65536) * 16 ^ (l - 4) = mul-le-mul_right (16 ^ (l - 4)) (omega arith) in
    let room' : (n + 1) * (16 ^ (l - 4) * 65536) ≤ limit = rw pow at room in
    omega arith
