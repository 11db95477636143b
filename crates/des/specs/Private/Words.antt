-- Halves and round keys as the rounds take them.
use Rattle.std.specs.Prelude.{◌≡◌, ℕ, suc, ◌+◌, ◌*◌, ◌^◌, ◌<◌, List, slice_index}
use Rattle.std.specs.Int.{w32, rotate_right}
use Rattle.des.specs.Des.{six_bits, round_key}

-- a half, all bits one place to the right
unfoldable pub turned : ℕ → ℕ
turned half = rotate_right w32 half 1

-- the groups of six bits with an odd number, each in a byte's upper six bits
unfoldable pub odd_word : ℕ → ℕ
odd_word key = six_bits key 1 * 2 ^ 26 + six_bits key 3 * 2 ^ 18 + six_bits key 5 * 2 ^ 10 + six_bits key 7 * 2 ^ 2

-- those with an even number
unfoldable pub even_word : ℕ → ℕ
even_word key = six_bits key 2 * 2 ^ 26 + six_bits key 4 * 2 ^ 18 + six_bits key 6 * 2 ^ 10 + six_bits key 8 * 2 ^ 2

-- the words are those of a key's sixteen round keys
pub record HasRoundKeys (key : ℕ) (odd even : List ℕ) : Type 0 where
  pub odd_words : (n : ℕ) → n < 16 → slice_index odd n ≡ odd_word (round_key key (suc n))
  pub even_words : (n : ℕ) → n < 16 → slice_index even n ≡ even_word (round_key key (suc n))
