-- The Data Encryption Standard (FIPS PUB 46-3). A block of n bits is a number below 2 ^ n, whose bit 1,
-- as the standard counts, is the highest: blocks are written side by side as digits are.
use Rattle.std.specs.Prelude.{ℕ, zero, suc, ◌+◌, ◌-◌, ◌*◌, ◌/◌, ◌%◌, ◌^◌, List, [], ◌∷◌, map, bit_xor, slice_index}
use Rattle.std.specs.Int.{bit_at}
use Rattle.std.specs.Int.Digits.{number_from_digits}
use Rattle.des.specs.Tables.{initial_permutation, final_permutation, expansion, permutation, permuted_choice_1, permuted_choice_2, left_shifts, box_1, box_2, box_3, box_4, box_5, box_6, box_7, box_8}

-- the bits of a block of some width that a table names, in the table's order
unfoldable pub selected : List ℕ → ℕ → ℕ → ℕ
selected table width block = number_from_digits 2 (map (λ place. bit_at block (width - place)) table)

-- ---- the cipher function f

-- the first to the eighth group of six of 48 bits
abbrev pub six_bits : ℕ → ℕ → ℕ
six_bits block group = block / 2 ^ (48 - 6 * group) % 2 ^ 6

-- What a box has for six bits: in the row that the first and the last of them write, in the column that
-- the four between them write.
abbrev pub box_value : List ℕ → ℕ → ℕ
box_value box bits = slice_index box (16 * (bits / 2 ^ 5 * 2 + bits % 2) + bits / 2 % 2 ^ 4)

-- the four bits of each box side by side
abbrev pub substituted : ℕ → ℕ
substituted block =
    number_from_digits 16
    (box_value box_1 (six_bits block 1) ∷ box_value box_2 (six_bits block 2) ∷ box_value box_3 (six_bits block 3)
    ∷ box_value box_4 (six_bits block 4) ∷ box_value box_5 (six_bits block 5) ∷ box_value box_6 (six_bits block 6)
    ∷ box_value box_7 (six_bits block 7) ∷ box_value box_8 (six_bits block 8) ∷ [])

-- f (R, K)
unfoldable pub cipher_function : ℕ → ℕ → ℕ
cipher_function right key = selected permutation 32 (substituted (bit_xor key (selected expansion 32 right)))

-- ---- the key schedule KS

-- a left and a right half
pub record Halves : Type 0 where
  pub left : ℕ
  pub right : ℕ

-- the halves of a block of twice a width
abbrev pub halves_of : ℕ → ℕ → Halves
halves_of width block = record { left = block / 2 ^ width; right = block % 2 ^ width }

-- 28 bits, rotated to the left
abbrev pub rotated : ℕ → ℕ → ℕ
rotated bits places = bits * 2 ^ places % 2 ^ 28 + bits / 2 ^ (28 - places)

-- Cₙ and Dₙ
unfoldable pub key_halves : ℕ → ℕ → Halves
key_halves key zero = halves_of 28 (selected permuted_choice_1 64 key)
key_halves key (suc n) =
    let halves = key_halves key n in
    let places = slice_index left_shifts n in
    record { left = rotated halves.left places; right = rotated halves.right places }

-- Kₙ, of 48 bits, for n from 1 to 16
unfoldable pub round_key : ℕ → ℕ → ℕ
round_key key n =
    let halves = key_halves key n in
    selected permuted_choice_2 56 (halves.left * 2 ^ 28 + halves.right)

-- ---- enciphering

-- Lₙ and Rₙ
unfoldable pub round_halves : ℕ → ℕ → ℕ → Halves
round_halves key block zero = halves_of 32 (selected initial_permutation 64 block)
round_halves key block (suc n) =
    let halves = round_halves key block n in
    record { left = halves.right; right = bit_xor halves.left (cipher_function halves.right (round_key key (suc n))) }

-- a block of 64 bits, enciphered under a key of 64 bits, of which each eighth isn't used
unfoldable pub enciphered : ℕ → ℕ → ℕ
enciphered key block =
    let halves = round_halves key block 16 in
    selected final_permutation 64 (halves.right * 2 ^ 32 + halves.left)
