-- Rotations of 32 bits are linear.
use Rattle.std.proofs.Common.{◌≡◌, ℕ, ◌-◌, ◌*◌, ◌/◌, ◌%◌, ◌^◌, ◌<◌, refl, sym, ap, ◌∙◌, arith}
use Rattle.std.specs.Prelude.{bit_or, bit_xor}
use Rattle.std.specs.Int.{w32, rotate_left}
use Rattle.std.proofs.lemmas.Nat.{or_shifted, or_comm, xor_lt}
use Rattle.des.specs.Private.Words.{turned}
use Rattle.des.proofs.Linear.{IsLinear, linear_itself, linear_after, linear_xor, linear_shr, linear_low, linear_shl, xor_beside, same_from_powers}

-- 32 bits, rotated to the left
abbrev pub rolled : ℕ → ℕ → ℕ
rolled places n = bit_xor (n * 2 ^ places % 2 ^ 32) (n / 2 ^ (32 - places))

pub linear_rolled : (places : ℕ) → IsLinear (rolled places)
linear_rolled places =
    linear_xor (λ n. n * 2 ^ places % 2 ^ 32) (λ n. n / 2 ^ (32 - places))
    (linear_after (λ n. n % 2 ^ 32) (λ n. n * 2 ^ places) (linear_low 32) (linear_shl places)) (linear_shr (32 - places))

or_beside : (word high places low : ℕ) → word ≡ high * 2 ^ places → low < 2 ^ places → bit_or word low ≡ bit_xor word low
or_beside word high places low e small = rw e (or_shifted high places low small ∙ xor_beside high places low small)

pub turned_is : (n : ℕ) → n < 2 ^ 32 → turned n ≡ rolled 31 n
unfolding turned
turned_is n small =
    or_comm (n / 2) (n * 2 ^ 31 % 2 ^ 32) ∙ or_beside (n * 2 ^ 31 % 2 ^ 32) (n % 2) 31 (n / 2) (omega arith) (omega arith)

pub left_by_four : (n : ℕ) → n < 2 ^ 32 → rotate_left w32 n 4 ≡ rolled 4 n
left_by_four n small = or_beside (n * 2 ^ 4 % 2 ^ 32) (n % 2 ^ 28) 4 (n / 2 ^ 28) (omega arith) (omega arith)

left_by_one : (n : ℕ) → n < 2 ^ 32 → rotate_left w32 n 1 ≡ rolled 1 n
left_by_one n small = or_beside (n * 2 ^ 1 % 2 ^ 32) (n % 2 ^ 31) 1 (n / 2 ^ 31) (omega arith) (omega arith)

pub rolled_fits : (places n : ℕ) → n < 2 ^ 32 → n / 2 ^ (32 - places) < 2 ^ 32 → rolled places n < 2 ^ 32
rolled_fits places n small also = xor_lt 32 (n * 2 ^ places % 2 ^ 32) (n / 2 ^ (32 - places)) (omega arith) also

pub turned_fits : (n : ℕ) → n < 2 ^ 32 → turned n < 2 ^ 32
turned_fits n small = rw (turned_is n small) (rolled_fits 31 n small (omega arith))

-- a half is back in its place
pub turned_back : (n : ℕ) → n < 2 ^ 32 → rotate_left w32 (turned n) 1 ≡ n
turned_back n small =
    left_by_one (turned n) (turned_fits n small) ∙ ap (rolled 1) (turned_is n small)
    ∙ same_from_powers (λ k. rolled 1 (rolled 31 k)) (λ k. k)
    (linear_after (rolled 1) (rolled 31) (linear_rolled 1) (linear_rolled 31)) linear_itself 32 refl n small

-- the halves' exclusive or
pub turned-xor : (a b : ℕ) → a < 2 ^ 32 → b < 2 ^ 32 → bit_xor (turned a) (turned b) ≡ turned (bit_xor a b)
turned-xor a b small also =
    rw (turned_is a small, turned_is b also, turned_is (bit_xor a b) (xor_lt 32 a b small also))
    (sym ((linear_rolled 31).of_xor a b))
