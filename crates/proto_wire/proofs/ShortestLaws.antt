-- The shortest spelling of a varint.
use Rattle.std.proofs.Common.{◌≡◌, ℕ, zero, suc, ◌+◌, ◌-◌, ◌*◌, ◌/◌, ◌%◌, ◌^◌, ◌<◌, ◌≤◌, true, false, ltb, List, [], ◌∷◌, ◌++◌, length, refl, sym, ap, ◌∙◌, inl, inr, arith}
use Rattle.std.proofs.lemmas.Bool.{lt-ltb, le-ltb, cases_lt}
use Rattle.std.proofs.lemmas.List.{length-append}
use Rattle.std.proofs.Math.Nat.{pow-suc}
use Rattle.proto_wire.specs.Varint.{IsContinued, value_of, IsVarint, AreBytes, shortest_within, shortest}
use Rattle.proto_wire.proofs.VarintLaws.{IsWithin, value-low, value-high}

pub within-low : (more n : ℕ) → n < 128 → shortest_within (suc more) n ≡ n ∷ []
unfolding shortest_within
within-low more n lt = let test : ltb n 128 ≡ true = lt-ltb n 128 lt in rw test refl

pub within-high : (more n : ℕ) → 128 ≤ n → shortest_within (suc more) n ≡ (n % 128 + 128) ∷ shortest_within more (n / 128)
unfolding shortest_within
within-high more n le = let test : ltb n 128 ≡ false = le-ltb n 128 le in rw test refl

pub within-zero : (n : ℕ) → shortest_within zero n ≡ n ∷ []
unfolding shortest_within
within-zero n = refl

-- the groups above the lowest fit in one byte less
pub fits_less : (more n : ℕ) → n < 2 * 128 ^ suc more → n / 128 < 2 * 128 ^ more
fits_less more n lt = omega (arith, pow-suc 128 more)

one_byte : (more n : ℕ) → n < 128 → (0 ≡ more → n ≤ 1) → IsWithin more (n ∷ []) n
one_byte more n lt one = ([], n, refl, tt, lt, omega arith, one, sym (value-low n lt))

-- ---- it is a varint, of bytes

is_within : (more n : ℕ) → n < 2 * 128 ^ more → IsWithin more (shortest_within more n) n
is_within zero n lt = let small : n < 2 = omega arith in rw (within-zero n) (one_byte zero n (omega arith) (λ _. omega arith))
is_within (suc more) n lt =
    elim (cases_lt n 128) [
      | inl low ↦ rw (within-low more n low) (one_byte (suc more) n low (λ e. absurd (omega arith)))
      | inr high ↦
          let rest = is_within more (n / 128) (fits_less more n lt) in
          let group : 128 ≤ n % 128 + 128 = omega arith in
          let sum : n ≡ n % 128 + 128 - 128 + 128 * (n / 128) = omega arith in
          rw (within-high more n high) (
            (n % 128 + 128) ∷ rest.0,
            rest.1,
            ap (λ (w : List ℕ). (n % 128 + 128) ∷ w) rest.2,
            (group, rest.3),
            rest.4,
            omega (arith, rest.5),
            (λ e. rest.6 (omega (arith, e))),
            sum ∙ ap (λ (v : ℕ). n % 128 + 128 - 128 + 128 * v) rest.7 ∙ sym (value-high (n % 128 + 128) (shortest_within more (n / 128)) group),
          )
    ]

are_bytes : (more n : ℕ) → n < 2 * 128 ^ more → AreBytes (shortest_within more n)
are_bytes zero n lt = rw (within-zero n) (omega arith, tt)
are_bytes (suc more) n lt =
    elim (cases_lt n 128) [
      | inl low ↦ rw (within-low more n low) (omega arith, tt)
      | inr high ↦ rw (within-high more n high) (omega arith, are_bytes more (n / 128) (fits_less more n lt))
    ]

-- ---- no other is as short

-- a spelling of more than one byte: its first byte is the lowest group, and the others spell the rest
lowest : (n b : ℕ) (rest : List ℕ) → b < 256 → 128 ≤ b → n ≡ value_of (b ∷ rest) → (n / 128 ≡ value_of rest) × (b ≡ n % 128 + 128)
lowest n b rest lt le value =
    let sum : n ≡ b - 128 + 128 * value_of rest = value ∙ value-high b rest le in
    (omega (arith, sum), omega (arith, sum))

least_within : (more n : ℕ) (front : List ℕ) (last : ℕ) → AreBytes (front ++ last ∷ []) → IsContinued front → last < 128 → n ≡ value_of (front ++ last ∷ []) → length (shortest_within more n) ≤ suc (length front)
least_within zero n front last bytes continued low value = rw (within-zero n) (omega arith)
least_within (suc more) n [] last bytes continued low value =
    let is : n ≡ last = value ∙ value-low last low in
    rw (within-low more n (omega (arith, is))) (omega arith)
least_within (suc more) n (b ∷ front) last bytes continued low value =
    elim (cases_lt n 128) [
      | inl lt ↦ rw (within-low more n lt) (omega arith)
      | inr high ↦
          let parts = lowest n b (front ++ last ∷ []) bytes.0 continued.0 value in
          let rest = least_within more (n / 128) front last bytes.1 continued.1 low parts.0 in
          rw (within-high more n high) (omega (arith, rest))
    ]

only_within : (more n : ℕ) (front : List ℕ) (last : ℕ) → AreBytes (front ++ last ∷ []) → IsContinued front → last < 128 → n ≡ value_of (front ++ last ∷ []) → suc (length front) ≤ length (shortest_within more n) → front ++ last ∷ [] ≡ shortest_within more n
only_within zero n [] last bytes continued low value short =
    let is : n ≡ last = value ∙ value-low last low in
    ap (λ (m : ℕ). m ∷ []) (sym is) ∙ sym (within-zero n)
only_within zero n (b ∷ front) last bytes continued low value short = absurd (let one : length (shortest_within zero n) ≡ 1 = ap length (within-zero n) in omega (arith, one, short))
only_within (suc more) n [] last bytes continued low value short =
    let is : n ≡ last = value ∙ value-low last low in
    ap (λ (m : ℕ). m ∷ []) (sym is) ∙ sym (within-low more n (omega (arith, is)))
only_within (suc more) n (b ∷ front) last bytes continued low value short =
    elim (cases_lt n 128) [
      | inl lt ↦ absurd (let one : length (shortest_within (suc more) n) ≡ 1 = ap length (within-low more n lt) in omega (arith, one, short))
      | inr high ↦
          let parts = lowest n b (front ++ last ∷ []) bytes.0 continued.0 value in
          let long : length (shortest_within (suc more) n) ≡ suc (length (shortest_within more (n / 128))) = ap length (within-high more n high) in
          let rest = only_within more (n / 128) front last bytes.1 continued.1 low parts.0 (omega (arith, long, short)) in
          ap (λ (c : ℕ). c ∷ front ++ last ∷ []) parts.1 ∙ ap (λ (w : List ℕ). (n % 128 + 128) ∷ w) rest ∙ sym (within-high more n high)
    ]

-- ---- of 64 bits

pub shortest_is_varint : (n : ℕ) → n < 2 ^ 64 → IsVarint (shortest n) n
unfolding shortest
shortest_is_varint n lt = is_within 9 n lt

pub shortest_is_bytes : (n : ℕ) → n < 2 ^ 64 → AreBytes (shortest n)
unfolding shortest
shortest_is_bytes n lt = are_bytes 9 n lt

pub shortest_is_least : (n : ℕ) (other : List ℕ) → AreBytes other → IsVarint other n → length (shortest n) ≤ length other
unfolding shortest
shortest_is_least n other bytes (front, last, parts, continued, low, len, one, value) =
    let whole : length other ≡ suc (length front) = ap length parts ∙ (let two : length (front ++ last ∷ []) ≡ suc (length front) = omega (arith, length-append front (last ∷ [])) in two) in
    let rest = least_within 9 n front last (rw parts at bytes) continued low (value ∙ ap value_of parts) in
    omega (arith, whole, rest)

pub shortest_is_only : (n : ℕ) (other : List ℕ) → AreBytes other → IsVarint other n → length other ≤ length (shortest n) → other ≡ shortest n
unfolding shortest
shortest_is_only n other bytes (front, last, parts, continued, low, len, one, value) short =
    let whole : length other ≡ suc (length front) = ap length parts ∙ (let two : length (front ++ last ∷ []) ≡ suc (length front) = omega (arith, length-append front (last ∷ [])) in two) in
    parts ∙ only_within 9 n front last (rw parts at bytes) continued low (value ∙ ap value_of parts) (omega (arith, whole, short))
