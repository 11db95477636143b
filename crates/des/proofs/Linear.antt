-- Functions of numbers that go through an exclusive or. Two of them that agree at the powers of two
-- agree everywhere, so that a few values show what two ways of moving bits do to every block.
use Rattle.std.proofs.Common.{◌≡◌, ℕ, zero, suc, ◌+◌, ◌-◌, ◌*◌, ◌/◌, ◌%◌, ◌^◌, ◌<◌, Bool, true, false, ◌&&◌, eqb, add-zero, refl, sym, ap, ◌∙◌, inl, inr, arith}
use Rattle.std.specs.Prelude.{bit_and, bit_xor}
use Rattle.std.proofs.lemmas.Bool.{cases_lt, cases_eq}
use Rattle.std.proofs.lemmas.Bool.Decides.{nat_tests}
use Rattle.std.proofs.lemmas.Nat.{xor_shr, xor_mod, xor_block, pow_pos}
use Rattle.std.proofs.lemmas.Nat.Bits.{bit_at_xor, bit_at_and, bit_at-lt, same_from_bits}
use Rattle.std.proofs.Math.Nat.{pow-suc}
use Rattle.std.specs.Int.Bits.{xor_self, xor_zero_r}

pub record IsLinear (f : ℕ → ℕ) : Type 0 where
  pub of_xor : (a b : ℕ) → f (bit_xor a b) ≡ bit_xor (f a) (f b)

-- ---- exclusive ors, bit by bit

xor_crossed : (a b c d : ℕ) → bit_xor (bit_xor a b) (bit_xor c d) ≡ bit_xor (bit_xor a c) (bit_xor b d)
xor_crossed a b c d =
    same_from_bits _ _
    (λ i.
    let left = bit_at_xor (bit_xor a b) (bit_xor c d) i in
    let right = bit_at_xor (bit_xor a c) (bit_xor b d) i in
    let ab = bit_at_xor a b i in
    let cd = bit_at_xor c d i in
    let ac = bit_at_xor a c i in
    let bd = bit_at_xor b d i in
    omega (arith, left, right, ab, cd, ac, bd, bit_at-lt a i, bit_at-lt b i, bit_at-lt c i, bit_at-lt d i))

xor_masked : (a b mask : ℕ) → bit_and (bit_xor a b) mask ≡ bit_xor (bit_and a mask) (bit_and b mask)
xor_masked a b mask =
    same_from_bits _ _
    (λ i.
    let left = bit_at_and (bit_xor a b) mask i in
    let right = bit_at_xor (bit_and a mask) (bit_and b mask) i in
    let ab = bit_at_xor a b i in
    let am = bit_at_and a mask i in
    let bm = bit_at_and b mask i in
    omega (arith, left, right, ab, am, bm, bit_at-lt a i, bit_at-lt b i, bit_at-lt mask i))

-- two numbers side by side
pub xor_beside : (high places low : ℕ) → low < 2 ^ places → high * 2 ^ places + low ≡ bit_xor (high * 2 ^ places) low
xor_beside high places low small =
    let parts : bit_xor (high * 2 ^ places + 0) (0 * 2 ^ places + low) ≡ bit_xor high 0 * 2 ^ places + bit_xor 0 low = xor_block places high 0 0 low (pow_pos places) small in
    let none : 0 * 2 ^ places + low ≡ low = omega arith in
    let ends : high * 2 ^ places + 0 ≡ high * 2 ^ places = add-zero _ in
    sym (rw (ends, none, xor_zero_r high) at parts)

-- ---- what is linear

pub linear_itself : IsLinear (λ n. n)
linear_itself = record { of_xor = λ a b. refl }

pub linear_after : (f g : ℕ → ℕ) → IsLinear f → IsLinear g → IsLinear (λ n. f (g n))
linear_after f g of_f of_g = record { of_xor = λ a b. ap f (of_g.of_xor a b) ∙ of_f.of_xor (g a) (g b) }

pub linear_xor : (f g : ℕ → ℕ) → IsLinear f → IsLinear g → IsLinear (λ n. bit_xor (f n) (g n))
linear_xor f g of_f of_g =
    record { of_xor = λ a b. rw (of_f.of_xor a b, of_g.of_xor a b) (xor_crossed (f a) (f b) (g a) (g b)) }

pub linear_masked : (mask : ℕ) → IsLinear (λ n. bit_and n mask)
linear_masked mask = record { of_xor = λ a b. xor_masked a b mask }

pub linear_shr : (places : ℕ) → IsLinear (λ n. n / 2 ^ places)
linear_shr places = record { of_xor = λ a b. xor_shr a b places }

pub linear_low : (width : ℕ) → IsLinear (λ n. n % 2 ^ width)
linear_low width = record { of_xor = λ a b. xor_mod a b width }

pub linear_shl : (places : ℕ) → IsLinear (λ n. n * 2 ^ places)
linear_shl places =
    record {
      of_xor = λ a b.
          let parts : bit_xor (a * 2 ^ places + 0) (b * 2 ^ places + 0) ≡ bit_xor a b * 2 ^ places + 0 = xor_block places a b 0 0 (pow_pos places) (pow_pos places) in
          sym (simp add-zero at parts);
    }

-- ---- two linear functions that agree

-- whether a test holds below a number
abbrev pub all_below : (ℕ → Bool) → ℕ → Bool
all_below p zero = true
all_below p (suc n) = p n && all_below p n

pub and_left : (a b : Bool) → (a && b) ≡ true → a ≡ true
and_left true b e = refl
and_left false b e = e

pub and_right : (a b : Bool) → (a && b) ≡ true → b ≡ true
and_right true b e = e
and_right false b e = absurd (cc)

pub one_below : (p : ℕ → Bool) (n : ℕ) → all_below p n ≡ true → (i : ℕ) → i < n → p i ≡ true
one_below p zero e i h = absurd (omega arith)
one_below p (suc n) e i h =
    elim (cases_eq i n) [
      | inl same ↦ rw same (and_left (p n) (all_below p n) e)
      | inr other ↦ one_below p n (and_right (p n) (all_below p n) e) i (omega arith)
    ]

pub equal_by_test : (a b : ℕ) → eqb a b ≡ true → a ≡ b
equal_by_test a b e = grind (arith, nat_tests)

-- whether two functions agree at the powers of two below that of some width
abbrev pub agree : (ℕ → ℕ) → (ℕ → ℕ) → ℕ → Bool
agree f g width = all_below (λ i. eqb (f (2 ^ i)) (g (2 ^ i))) width

pub at_zero : (f : ℕ → ℕ) → IsLinear f → f 0 ≡ 0
at_zero f of_f = of_f.of_xor 0 0 ∙ xor_self (f 0)

pub same_from_powers : (f g : ℕ → ℕ) → IsLinear f → IsLinear g → (width : ℕ) → agree f g width ≡ true
    → (n : ℕ) → n < 2 ^ width → f n ≡ g n
same_from_powers f g of_f of_g zero e n h =
    let none : n ≡ 0 = omega arith in
    rw none (at_zero f of_f ∙ sym (at_zero g of_g))
same_from_powers f g of_f of_g (suc width) e n h =
    let here : eqb (f (2 ^ width)) (g (2 ^ width)) ≡ true = and_left _ _ e in
    let power : f (2 ^ width) ≡ g (2 ^ width) = grind (arith, nat_tests) in
    let below = and_right (eqb (f (2 ^ width)) (g (2 ^ width))) (agree f g width) e in
    let twice : 2 ^ suc width ≡ 2 ^ width * 2 = pow-suc 2 width in
    elim (cases_lt n (2 ^ width)) [
      | inl low ↦ same_from_powers f g of_f of_g width below n low
      | inr high ↦
          let rest : n - 2 ^ width < 2 ^ width = omega arith in
          let lower = same_from_powers f g of_f of_g width below (n - 2 ^ width) rest in
          let split : n ≡ bit_xor (1 * 2 ^ width) (n - 2 ^ width) =
          let sum : n ≡ 1 * 2 ^ width + (n - 2 ^ width) = omega arith in
          sum ∙ xor_beside 1 width (n - 2 ^ width) rest in
          let one : 1 * 2 ^ width ≡ 2 ^ width = omega arith in
          let parts : n ≡ bit_xor (2 ^ width) (n - 2 ^ width) = rw one at split in
          rw parts
          (of_f.of_xor (2 ^ width) (n - 2 ^ width) ∙ ap (λ z. bit_xor z (f (n - 2 ^ width))) power
          ∙ ap (bit_xor (g (2 ^ width))) lower ∙ sym (of_g.of_xor (2 ^ width) (n - 2 ^ width)))
    ]
