-- The remainder is linear in the bits: so that of eight bytes is put together from what each of them makes of itself.
use Rattle.std.proofs.Common.{◌≡◌, ◌⊎◌, ℕ, zero, suc, ◌+◌, ◌-◌, ◌*◌, ◌<◌, ◌≤◌, ◌%◌, ◌/◌, ◌^◌, List, [], ◌∷◌, ◌++◌, length, get_or, eqb, true, false, refl, sym, ap, ap₂, ◌∙◌, inl, inr, arith}
use Rattle.std.specs.Prelude.{bit_xor}
use Rattle.std.specs.Int.Bits.{xor_assoc, xor_shifted, xor_zero_r}
use Rattle.std.proofs.lemmas.Bool.{cases_lt, eq-eqb, ne_eqb}
use Rattle.std.proofs.lemmas.List.{get_or_append_left, get_or_push, length_push}
use Rattle.std.proofs.lemmas.Nat.{xor_comm, xor_mod, xor_shr, div-add-mod'}
use Rattle.log_events.specs.Crc.{crc_bit, crc_entry, crc_ahead, crc_byte, crc_from, IsTable}

-- what a sum of two gives is the sum of what they give
abbrev pub IsLinear : (ℕ → ℕ) → Type 0
IsLinear f = (a b : ℕ) → f (bit_xor a b) ≡ bit_xor (f a) (f b)

linear_then : (f g : ℕ → ℕ) → IsLinear f → IsLinear g → IsLinear (λ n. f (g n))
linear_then f g outer inner a b = ap f (inner a b) ∙ outer (g a) (g b)

xor_middle : (a b c d : ℕ) → bit_xor (bit_xor a b) (bit_xor c d) ≡ bit_xor (bit_xor a c) (bit_xor b d)
xor_middle a b c d = xor_assoc a b (bit_xor c d) ∙ ap (bit_xor a) (sym (xor_assoc b c d) ∙ ap (λ (x : ℕ). bit_xor x d) (xor_comm b c) ∙ xor_assoc c b d) ∙ sym (xor_assoc a c (bit_xor b d))

-- ---- one bit on

bit_even : (c : ℕ) → c % 2 ≡ 0 → crc_bit c ≡ c / 2
unfolding crc_bit
bit_even c e = let test : eqb (c % 2) 1 ≡ false = ne_eqb _ _ (omega arith) in rw test refl

bit_odd : (c : ℕ) → c % 2 ≡ 1 → crc_bit c ≡ bit_xor 0xedb88320 (c / 2)
unfolding crc_bit
bit_odd c e = let test : eqb (c % 2) 1 ≡ true = eq-eqb _ _ e in rw test refl

parity : (n : ℕ) → (n % 2 ≡ 0) ⊎ (n % 2 ≡ 1)
parity n = elim (cases_lt (n % 2) 1) [
  | inl lt ↦ inl (omega arith)
  | inr le ↦ inr (omega arith)
]

crc_bit-xor : IsLinear crc_bit
crc_bit-xor a b =
    let low : bit_xor a b % 2 ≡ bit_xor (a % 2) (b % 2) = xor_mod a b 1 in
    let half : bit_xor a b / 2 ≡ bit_xor (a / 2) (b / 2) = xor_shr a b 1 in
    let p : ℕ = 0xedb88320 in
    elim (parity a) [
      | inl x ↦ elim (parity b) [
        | inl y ↦ bit_even (bit_xor a b) (low ∙ ap₂ bit_xor x y) ∙ half ∙ sym (ap₂ bit_xor (bit_even a x) (bit_even b y))
        | inr y ↦
            bit_odd (bit_xor a b) (low ∙ ap₂ bit_xor x y) ∙ ap (bit_xor p) half
            ∙ (sym (xor_assoc p (a / 2) (b / 2)) ∙ ap (λ (n : ℕ). bit_xor n (b / 2)) (xor_comm p (a / 2)) ∙ xor_assoc (a / 2) p (b / 2))
            ∙ sym (ap₂ bit_xor (bit_even a x) (bit_odd b y))
      ]
      | inr x ↦ elim (parity b) [
        | inl y ↦ bit_odd (bit_xor a b) (low ∙ ap₂ bit_xor x y) ∙ ap (bit_xor p) half ∙ sym (xor_assoc p (a / 2) (b / 2)) ∙ sym (ap₂ bit_xor (bit_odd a x) (bit_even b y))
        | inr y ↦ bit_even (bit_xor a b) (low ∙ ap₂ bit_xor x y) ∙ half ∙ sym (xor_middle p (a / 2) p (b / 2)) ∙ sym (ap₂ bit_xor (bit_odd a x) (bit_odd b y))
      ]
    ]

-- ---- eight bits on

pub crc_entry-xor : IsLinear crc_entry
unfolding crc_entry
crc_entry-xor =
    let two : IsLinear (λ n. crc_bit (crc_bit n)) = linear_then crc_bit crc_bit crc_bit-xor crc_bit-xor in
    let four : IsLinear (λ n. crc_bit (crc_bit (crc_bit (crc_bit n)))) = linear_then (λ n. crc_bit (crc_bit n)) (λ n. crc_bit (crc_bit n)) two two in
    linear_then (λ n. crc_bit (crc_bit (crc_bit (crc_bit n)))) (λ n. crc_bit (crc_bit (crc_bit (crc_bit n)))) four four

bit_twice : (n half : ℕ) → n ≡ half * 2 → crc_bit n ≡ half
bit_twice n half e = bit_even n (omega arith) ∙ omega arith

-- a number that has nothing in its last byte loses that byte
crc_entry-shifted : (n : ℕ) → crc_entry (n * 256) ≡ n
unfolding crc_entry
crc_entry-shifted n =
    let one = bit_twice (n * 256) (n * 128) (omega arith) in
    let two = bit_twice (n * 128) (n * 64) (omega arith) in
    let three = bit_twice (n * 64) (n * 32) (omega arith) in
    let four = bit_twice (n * 32) (n * 16) (omega arith) in
    let five = bit_twice (n * 16) (n * 8) (omega arith) in
    let six = bit_twice (n * 8) (n * 4) (omega arith) in
    let seven = bit_twice (n * 4) (n * 2) (omega arith) in
    let eight = bit_twice (n * 2) n refl in
    rw (one, two, three, four, five, six, seven) eight

crc_entry-parts : (n : ℕ) → crc_entry n ≡ bit_xor (crc_entry (n % 256)) (n / 256)
crc_entry-parts n =
    let parts : bit_xor (n / 256 * 256) (n % 256) ≡ n = xor_shifted (n / 256) 8 (n % 256) (omega arith) ∙ div-add-mod' n 256 in
    ap crc_entry (sym parts) ∙ crc_entry-xor (n / 256 * 256) (n % 256) ∙ ap (λ (x : ℕ). bit_xor x (crc_entry (n % 256))) (crc_entry-shifted (n / 256)) ∙ xor_comm (n / 256) (crc_entry (n % 256))

crc_byte-is : (c b : ℕ) → crc_byte c b ≡ bit_xor (crc_entry (bit_xor c b % 256)) (c / 256)
unfolding crc_byte
crc_byte-is c b = refl

-- a byte more is the remainder of both
crc_byte-entry : (c b : ℕ) → b < 256 → crc_byte c b ≡ crc_entry (bit_xor c b)
unfolding crc_byte
crc_byte-entry c b less =
    let above : b / 256 ≡ 0 = omega arith in
    let high : bit_xor c b / 256 ≡ c / 256 = xor_shr c b 8 ∙ ap (bit_xor (c / 256)) above ∙ xor_zero_r (c / 256) in
    sym (crc_entry-parts (bit_xor c b) ∙ ap (bit_xor (crc_entry (bit_xor c b % 256))) high)

-- ---- several bytes on

crc_ahead-xor : (n : ℕ) → IsLinear (crc_ahead n)
unfolding crc_ahead
crc_ahead-xor zero a b = refl
crc_ahead-xor (suc n) a b = ap crc_entry (crc_ahead-xor n a b) ∙ crc_entry-xor (crc_ahead n a) (crc_ahead n b)

crc_ahead-entry : (n c : ℕ) → crc_ahead n (crc_entry c) ≡ crc_ahead (suc n) c
unfolding crc_ahead
crc_ahead-entry zero c = refl
crc_ahead-entry (suc n) c = ap crc_entry (crc_ahead-entry n c)

crc_ahead-suc : (n c : ℕ) → crc_entry (crc_ahead n c) ≡ crc_ahead (suc n) c
unfolding crc_ahead
crc_ahead-suc n c = refl

one_more : (n c : ℕ) → crc_entry (crc_ahead n c) ≡ crc_ahead (n + 1) c
one_more n c = let same : suc n ≡ n + 1 = omega arith in crc_ahead-suc n c ∙ ap (λ (k : ℕ). crc_ahead k c) same

crc_ahead-zero : (n : ℕ) → crc_ahead n 0 ≡ 0
unfolding crc_ahead
crc_ahead-zero zero = refl
crc_ahead-zero (suc n) = ap crc_entry (crc_ahead-zero n) ∙ crc_entry-shifted 0

ahead_more : (n u b : ℕ) → b < 256 → crc_ahead n (crc_byte u b) ≡ bit_xor (crc_ahead (suc n) u) (crc_ahead (suc n) b)
ahead_more n u b less =
    ap (crc_ahead n) (crc_byte-entry u b less ∙ crc_entry-xor u b) ∙ crc_ahead-xor n (crc_entry u) (crc_entry b) ∙ ap₂ bit_xor (crc_ahead-entry n u) (crc_ahead-entry n b)

-- a byte more behind a sum of two: the last byte of the second may as well go into that byte
byte_within : (u m b : ℕ) → b < 256 → crc_byte (bit_xor u m) b ≡ bit_xor (crc_byte u (bit_xor m b % 256)) (m / 256)
byte_within u m b less =
    let mixed = bit_xor m b % 256 in
    let low : mixed < 256 = omega arith in
    crc_byte-entry (bit_xor u m) b less ∙ ap crc_entry (xor_assoc u m b) ∙ crc_entry-xor u (bit_xor m b) ∙ ap (bit_xor (crc_entry u)) (sym (crc_byte-entry m b less) ∙ crc_byte-is m b)
    ∙ sym (xor_assoc (crc_entry u) (crc_entry mixed) (m / 256)) ∙ ap (λ (x : ℕ). bit_xor x (m / 256)) (sym (crc_byte-entry u mixed low ∙ crc_entry-xor u mixed))

-- ---- four bytes, and eight

module _ (a b c d : ℕ) (first : a < 256) (second : b < 256) (third : c < 256) (fourth : d < 256) where
  four_from : (n u : ℕ) → crc_ahead n (crc_from u (a ∷ b ∷ c ∷ d ∷ []))
      ≡ bit_xor (bit_xor (bit_xor (bit_xor (crc_ahead (suc (suc (suc (suc n)))) u) (crc_ahead (suc (suc (suc (suc n)))) a)) (crc_ahead (suc (suc (suc n))) b)) (crc_ahead (suc (suc n)) c)) (crc_ahead (suc n) d)
  unfolding crc_from
  four_from n u =
      let one = crc_byte u a in
      let two = crc_byte one b in
      let three = crc_byte two c in
      ahead_more n three d fourth
      ∙ ap (λ (x : ℕ). bit_xor x (crc_ahead (suc n) d)) (ahead_more (suc n) two c third
      ∙ ap (λ (x : ℕ). bit_xor x (crc_ahead (suc (suc n)) c)) (ahead_more (suc (suc n)) one b second
      ∙ ap (λ (x : ℕ). bit_xor x (crc_ahead (suc (suc (suc n))) b)) (ahead_more (suc (suc (suc n))) u a first)))

  four_ahead : (n : ℕ) → crc_ahead n (crc_from 0 (a ∷ b ∷ c ∷ d ∷ []))
      ≡ bit_xor (bit_xor (bit_xor (crc_ahead (suc (suc (suc (suc n)))) a) (crc_ahead (suc (suc (suc n))) b)) (crc_ahead (suc (suc n)) c)) (crc_ahead (suc n) d)
  four_ahead n =
      four_from n 0
      ∙ ap (λ (x : ℕ). bit_xor (bit_xor (bit_xor (bit_xor x (crc_ahead (suc (suc (suc (suc n)))) a)) (crc_ahead (suc (suc (suc n))) b)) (crc_ahead (suc (suc n)) c)) (crc_ahead (suc n) d))
      (crc_ahead-zero (suc (suc (suc (suc n)))))

  -- from what four entries of the table are
  pub four_told : (n r s t u : ℕ) → r ≡ crc_ahead (n + 3 + 1) a → s ≡ crc_ahead (n + 2 + 1) b → t ≡ crc_ahead (n + 1 + 1) c → u ≡ crc_ahead (n + 1) d
      → bit_xor (bit_xor (bit_xor r s) t) u ≡ crc_ahead n (crc_from 0 (a ∷ b ∷ c ∷ d ∷ []))
  four_told n r s t u r_is s_is t_is u_is =
      let four : n + 3 + 1 ≡ suc (suc (suc (suc n))) = omega arith in
      let three : n + 2 + 1 ≡ suc (suc (suc n)) = omega arith in
      let two : n + 1 + 1 ≡ suc (suc n) = omega arith in
      let one : n + 1 ≡ suc n = omega arith in
      ap₂ bit_xor
      (ap₂ bit_xor (ap₂ bit_xor (r_is ∙ ap (λ (k : ℕ). crc_ahead k a) four) (s_is ∙ ap (λ (k : ℕ). crc_ahead k b) three)) (t_is ∙ ap (λ (k : ℕ). crc_ahead k c) two))
      (u_is ∙ ap (λ (k : ℕ). crc_ahead k d) one)
      ∙ sym (four_ahead n)

  -- what was before and the bytes are apart
  four_apart : (u : ℕ) → crc_from u (a ∷ b ∷ c ∷ d ∷ []) ≡ bit_xor (crc_ahead 4 u) (crc_from 0 (a ∷ b ∷ c ∷ d ∷ []))
  unfolding crc_ahead
  four_apart u =
      let before = crc_ahead 4 u in
      let w = crc_ahead 4 a in
      let x = crc_ahead 3 b in
      let y = crc_ahead 2 c in
      let z = crc_ahead 1 d in
      four_from 0 u
      ∙ ap (λ (n : ℕ). bit_xor (bit_xor n y) z) (xor_assoc before w x)
      ∙ ap (λ (n : ℕ). bit_xor n z) (xor_assoc before (bit_xor w x) y)
      ∙ xor_assoc before (bit_xor (bit_xor w x) y) z
      ∙ ap (bit_xor before) (sym (four_ahead 0))

  -- what was before goes into the bytes
  four_within : (s : ℕ) → s < 2 ^ 32 → crc_from s (a ∷ b ∷ c ∷ d ∷ [])
      ≡ crc_from 0 (bit_xor s a % 256 ∷ bit_xor (s / 256) b % 256 ∷ bit_xor (s / 256 / 256) c % 256 ∷ bit_xor (s / 256 / 256 / 256) d % 256 ∷ [])
  unfolding crc_from
  four_within s less =
      let s1 : ℕ = s / 256 in
      let s2 : ℕ = s / 256 / 256 in
      let s3 : ℕ = s / 256 / 256 / 256 in
      let u1 = crc_byte 0 (bit_xor s a % 256) in
      let u2 = crc_byte u1 (bit_xor s1 b % 256) in
      let u3 = crc_byte u2 (bit_xor s2 c % 256) in
      let u4 = crc_byte u3 (bit_xor s3 d % 256) in
      let gone : s3 / 256 ≡ 0 = omega arith in
      ap (λ (x : ℕ). crc_byte (crc_byte (crc_byte x b) c) d) (byte_within 0 s a first)
      ∙ ap (λ (x : ℕ). crc_byte (crc_byte x c) d) (byte_within u1 s1 b second)
      ∙ ap (λ (x : ℕ). crc_byte x d) (byte_within u2 s2 c third)
      ∙ byte_within u3 s3 d fourth
      ∙ ap (bit_xor u4) gone ∙ xor_zero_r u4

pub eight_ahead : (s a b c d e f g h : ℕ) → s < 2 ^ 32 → a < 256 → b < 256 → c < 256 → d < 256 → e < 256 → f < 256 → g < 256 → h < 256
    → bit_xor (crc_ahead 4 (crc_from 0 (bit_xor s a % 256 ∷ bit_xor (s / 256) b % 256 ∷ bit_xor (s / 256 / 256) c % 256 ∷ bit_xor (s / 256 / 256 / 256) d % 256 ∷ [])))
    (crc_ahead 0 (crc_from 0 (e ∷ f ∷ g ∷ h ∷ []))) ≡ crc_from s (a ∷ b ∷ c ∷ d ∷ e ∷ f ∷ g ∷ h ∷ [])
unfolding crc_from crc_ahead
eight_ahead s a b c d e f g h less first second third fourth fifth sixth seventh eighth =
    let last = crc_from 0 (e ∷ f ∷ g ∷ h ∷ []) in
    sym (four_apart e f g h fifth sixth seventh eighth (crc_from s (a ∷ b ∷ c ∷ d ∷ []))
    ∙ ap (λ (x : ℕ). bit_xor (crc_ahead 4 x) last) (four_within a b c d first second third fourth s less))

-- ---- the table

-- the byte that stands in a table is that of its place
pub record IsFront (entries : List ℕ) (n : ℕ) : Type 0 where
  pub long : length entries ≡ n
  pub each : (k : ℕ) → k < n → get_or entries k 0 ≡ crc_ahead (k / 256 + 1) (k % 256)

before_is : (entries : List ℕ) (n before : ℕ) → IsFront entries n → (n < 256 → before ≡ n) → (256 ≤ n → before ≡ get_or entries (n - 256) 0) → before ≡ crc_ahead (n / 256) (n % 256)
unfolding crc_ahead
before_is entries n before h small large = elim (cases_lt n 256) [
  | inl lt ↦
      let none : n / 256 ≡ 0 = omega arith in
      let byte : n % 256 ≡ n = omega arith in
      rw (none, byte) (small lt)
  | inr le ↦
      let part : (n - 256) / 256 + 1 ≡ n / 256 = omega arith in
      let byte : (n - 256) % 256 ≡ n % 256 = omega arith in
      large le ∙ h.each (n - 256) (omega arith) ∙ ap₂ crc_ahead part byte
]

pub front_more : (entries : List ℕ) (n before x : ℕ) → IsFront entries n → (n < 256 → before ≡ n) → (256 ≤ n → before ≡ get_or entries (n - 256) 0) → x ≡ crc_entry before → IsFront (entries ++ x ∷ []) (n + 1)
front_more entries n before x h small large is = record {
  long = length_push entries x ∙ ap (λ (k : ℕ). k + 1) h.long;
  each = λ k less. elim (cases_lt k n) [
    | inl lt ↦ get_or_append_left entries (x ∷ []) 0 k (omega (arith, h.long)) ∙ h.each k lt
    | inr le ↦
        let same : k ≡ n = omega arith in
        rw same (get_or_push entries x 0 n h.long ∙ is ∙ ap crc_entry (before_is entries n before h small large) ∙ one_more (n / 256) (n % 256))
  ];
}

pub front_all : (entries : List ℕ) → IsFront entries 2048 → IsTable entries
front_all entries h = record { long = h.long; each = h.each }
