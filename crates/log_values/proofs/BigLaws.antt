-- Numbers whose highest byte comes first, one byte on.
use Rattle.std.proofs.Common.{◌≡◌, ℕ, suc, ◌+◌, ◌*◌, ◌^◌, ◌<◌, ◌≤◌, List, slice_index, refl, sym, ap, ◌∙◌, arith}
use Rattle.std.proofs.Math.Nat.{pow-suc, pow-le-pow_right}
use Rattle.log_values.specs.Big.{big}
use Rattle.log_values.specs.Decimal.{plain_byte, plain_number}

-- the number of the first bytes
pub record IsBig (place n : ℕ) (bytes : List ℕ) (number : ℕ) : Type 0 where
  pub is : number ≡ big place n bytes
  pub below : number < 256 ^ n

pub record IsPlain (bytes : List ℕ) (place n number : ℕ) : Type 0 where
  pub is : number ≡ plain_number bytes place n
  pub below : number < 256 ^ n

-- a number of few bytes fits, and one of a byte more, too
pub small : (n number : ℕ) → number < 256 ^ n → n < 6 → number * 256 + 256 ≤ 2 ^ 48
small n number below few =
    let less : 256 ^ n ≤ 256 ^ 5 = pow-le-pow_right (let some : 0 < 256 = omega arith in some) {i = n} {j = 5} (omega arith) in
    omega (arith, less)

grows : (n number b : ℕ) → number < 256 ^ n → b < 256 → number * 256 + b < 256 ^ (n + 1)
grows n number b below byte =
    let one : n + 1 ≡ suc n = omega arith in
    let power : 256 ^ (n + 1) ≡ 256 ^ n * 256 = ap (λ (k : ℕ). 256 ^ k) one ∙ pow-suc 256 n in
    rw power (omega arith)

pub no_bytes : (place : ℕ) (bytes : List ℕ) → IsBig place 0 bytes 0
unfolding big
no_bytes place bytes = record { is = refl; below = omega arith }

big-more : (place n : ℕ) (bytes : List ℕ) → big place (n + 1) bytes ≡ big place n bytes * 256 + slice_index bytes (place + n)
unfolding big
big-more place n bytes = let one : n + 1 ≡ suc n = omega arith in ap (λ (k : ℕ). big place k bytes) one

pub one_more : (place n : ℕ) (bytes : List ℕ) (number b : ℕ) → IsBig place n bytes number → b ≡ slice_index bytes (place + n) → b < 256 → IsBig place (n + 1) bytes (number * 256 + b)
one_more place n bytes number b h e byte = record {
  is = ap (λ (k : ℕ). number * 256 + k) e ∙ ap (λ (k : ℕ). k * 256 + slice_index bytes (place + n)) h.is ∙ sym (big-more place n bytes);
  below = grows n number b h.below byte;
}

pub no_plain : (bytes : List ℕ) (place : ℕ) → IsPlain bytes place 0 0
unfolding plain_number
no_plain bytes place = record { is = refl; below = omega arith }

plain-more : (bytes : List ℕ) (place n : ℕ) → plain_number bytes place (n + 1) ≡ plain_number bytes place n * 256 + plain_byte bytes (place + n)
unfolding plain_number
plain-more bytes place n = let one : n + 1 ≡ suc n = omega arith in ap (λ (k : ℕ). plain_number bytes place k) one

pub one_more_plain : (bytes : List ℕ) (place n number b : ℕ) → IsPlain bytes place n number → b ≡ plain_byte bytes (place + n) → b < 256 → IsPlain bytes place (n + 1) (number * 256 + b)
one_more_plain bytes place n number b h e byte = record {
  is = ap (λ (k : ℕ). number * 256 + k) e ∙ ap (λ (k : ℕ). k * 256 + plain_byte bytes (place + n)) h.is ∙ sym (plain-more bytes place n);
  below = grows n number b h.below byte;
}
