-- The tables' values at the bits of a turned half and of a key's words, taken together, are the cipher
-- function's, turned.
use Rattle.std.proofs.Common.{◌≡◌, ℕ, ◌+◌, ◌-◌, ◌*◌, ◌/◌, ◌%◌, ◌^◌, ◌<◌, true, List, [], ◌∷◌, refl, sym, ap, ◌∙◌, arith}
use Rattle.std.specs.Prelude.{bit_xor, slice_index}
use Rattle.std.specs.Int.{w32, rotate_left}
use Rattle.std.specs.List.{AllByRecursion}
use Rattle.std.proofs.lemmas.Nat.{xor_comm, mod_below}
use Rattle.std.specs.Int.Bits.{xor_assoc, xor_zero_r}
use Rattle.des.specs.Des.{selected, six_bits, box_value, substituted, cipher_function}
use Rattle.des.specs.Private.Words.{turned, odd_word, even_word}
use Rattle.des.specs.Tables.{expansion, permutation, box_1, box_2, box_3, box_4, box_5, box_6, box_7, box_8}
use Rattle.des.specs.declared.boxes.TheConstants.{BOX_1, BOX_2, BOX_3, BOX_4, BOX_5, BOX_6, BOX_7, BOX_8}
use Rattle.des.proofs.Linear.{IsLinear, linear_after, linear_shr, linear_low, agree, same_from_powers, at_zero}
use Rattle.des.proofs.Moved.{linear_selected, selected_fits}
use Rattle.des.proofs.Rolled.{rolled, linear_rolled, turned_is, turned_fits, left_by_four}
use Rattle.des.proofs.BoxValues.{placed, linear_placed, put_apart, apart, value_small, value_1, value_2, value_3, value_4, value_5, value_6, value_7, value_8}

-- ---- groups of six bits

linear_field : (places : ℕ) → IsLinear (λ n. n / 2 ^ places % 2 ^ 6)
linear_field places = linear_after (λ n. n % 2 ^ 6) (λ n. n / 2 ^ places) (linear_low 6) (linear_shr places)

-- E (R) in groups of six, each as a number that is linear in R
abbrev expanded : ℕ → ℕ → ℕ
expanded group right = six_bits (selected expansion 32 right) group

linear_expanded : (group : ℕ) → IsLinear (expanded group)
linear_expanded group =
    linear_after (λ n. n / 2 ^ (48 - 6 * group) % 2 ^ 6) (selected expansion 32) (linear_field (48 - 6 * group)) (linear_selected expansion 32)

from_half : (f : ℕ → ℕ) → IsLinear f → (places group : ℕ) → agree (λ n. f n / 2 ^ places % 2 ^ 6) (expanded group) 32 ≡ true
    → (right : ℕ) → right < 2 ^ 32 → f right / 2 ^ places % 2 ^ 6 ≡ expanded group right
from_half f of_f places group e right small =
    same_from_powers (λ n. f n / 2 ^ places % 2 ^ 6) (expanded group)
    (linear_after (λ n. n / 2 ^ places % 2 ^ 6) f (linear_field places) of_f) (linear_expanded group) 32 e right small

abbrev across : ℕ → ℕ
across right = rolled 4 (rolled 31 right)

linear_across : IsLinear across
linear_across = linear_after (rolled 4) (rolled 31) (linear_rolled 4) (linear_rolled 31)

group_1 : (right : ℕ) → right < 2 ^ 32 → rolled 31 right / 2 ^ 26 % 2 ^ 6 ≡ expanded 1 right
unfolding selected
group_1 right small = from_half (rolled 31) (linear_rolled 31) 26 1 refl right small

group_2 : (right : ℕ) → right < 2 ^ 32 → across right / 2 ^ 26 % 2 ^ 6 ≡ expanded 2 right
unfolding selected
group_2 right small = from_half across linear_across 26 2 refl right small

group_3 : (right : ℕ) → right < 2 ^ 32 → rolled 31 right / 2 ^ 18 % 2 ^ 6 ≡ expanded 3 right
unfolding selected
group_3 right small = from_half (rolled 31) (linear_rolled 31) 18 3 refl right small

group_4 : (right : ℕ) → right < 2 ^ 32 → across right / 2 ^ 18 % 2 ^ 6 ≡ expanded 4 right
unfolding selected
group_4 right small = from_half across linear_across 18 4 refl right small

group_5 : (right : ℕ) → right < 2 ^ 32 → rolled 31 right / 2 ^ 10 % 2 ^ 6 ≡ expanded 5 right
unfolding selected
group_5 right small = from_half (rolled 31) (linear_rolled 31) 10 5 refl right small

group_6 : (right : ℕ) → right < 2 ^ 32 → across right / 2 ^ 10 % 2 ^ 6 ≡ expanded 6 right
unfolding selected
group_6 right small = from_half across linear_across 10 6 refl right small

group_7 : (right : ℕ) → right < 2 ^ 32 → rolled 31 right / 2 ^ 2 % 2 ^ 6 ≡ expanded 7 right
unfolding selected
group_7 right small = from_half (rolled 31) (linear_rolled 31) 2 7 refl right small

group_8 : (right : ℕ) → right < 2 ^ 32 → across right / 2 ^ 2 % 2 ^ 6 ≡ expanded 8 right
unfolding selected
group_8 right small = from_half across linear_across 2 8 refl right small

-- four groups in a word
record HasGroups (word a b c d : ℕ) : Type 0 where
  first : word / 2 ^ 26 % 2 ^ 6 ≡ a
  second : word / 2 ^ 18 % 2 ^ 6 ≡ b
  third : word / 2 ^ 10 % 2 ^ 6 ≡ c
  fourth : word / 2 ^ 2 % 2 ^ 6 ≡ d

groups : (a b c d : ℕ) → a < 2 ^ 6 → b < 2 ^ 6 → c < 2 ^ 6 → d < 2 ^ 6
    → HasGroups (a * 2 ^ 26 + b * 2 ^ 18 + c * 2 ^ 10 + d * 2 ^ 2) a b c d
groups a b c d p q r s = record { first = omega arith; second = omega arith; third = omega arith; fourth = omega arith }

six_small : (block group : ℕ) → six_bits block group < 2 ^ 6
six_small block group = mod_below (block / 2 ^ (48 - 6 * group)) (2 ^ 6) (omega arith)

odd_groups : (key : ℕ) → HasGroups (odd_word key) (six_bits key 1) (six_bits key 3) (six_bits key 5) (six_bits key 7)
unfolding odd_word
odd_groups key = groups _ _ _ _ (six_small key 1) (six_small key 3) (six_small key 5) (six_small key 7)

even_groups : (key : ℕ) → HasGroups (even_word key) (six_bits key 2) (six_bits key 4) (six_bits key 6) (six_bits key 8)
unfolding even_word
even_groups key = groups _ _ _ _ (six_small key 2) (six_small key 4) (six_small key 6) (six_small key 8)

-- what a box is given
abbrev given : ℕ → ℕ → ℕ
given key right = bit_xor key (selected expansion 32 right)

index_is : (half word key right places group : ℕ) → half / 2 ^ places % 2 ^ 6 ≡ expanded group right
    → word / 2 ^ places % 2 ^ 6 ≡ six_bits key group → bit_xor half word / 2 ^ places % 2 ^ 6 ≡ six_bits (given key right) group
index_is half word key right places group of_half of_word =
    (linear_field places).of_xor half word ∙ ap (λ n. bit_xor n (word / 2 ^ places % 2 ^ 6)) of_half
    ∙ ap (bit_xor (expanded group right)) of_word ∙ xor_comm (expanded group right) (six_bits key group)
    ∙ sym ((linear_field (48 - 6 * group)).of_xor key (selected expansion 32 right))

-- ---- the boxes' values together

in_turn : (a b c d e f g h : ℕ)
    → bit_xor (bit_xor (bit_xor (bit_xor (bit_xor (bit_xor (bit_xor a b) c) d) e) f) g) h
    ≡ bit_xor a (bit_xor b (bit_xor c (bit_xor d (bit_xor e (bit_xor f (bit_xor g (bit_xor h 0)))))))
in_turn a b c d e f g h = simp (xor_assoc, xor_zero_r)

-- the boxes' values at 48 bits
abbrev values : ℕ → List ℕ
values bits =
    box_value box_1 (six_bits bits 1) ∷ box_value box_2 (six_bits bits 2) ∷ box_value box_3 (six_bits bits 3)
    ∷ box_value box_4 (six_bits bits 4) ∷ box_value box_5 (six_bits bits 5) ∷ box_value box_6 (six_bits bits 6)
    ∷ box_value box_7 (six_bits bits 7) ∷ box_value box_8 (six_bits bits 8) ∷ []

values_small : (bits : ℕ) → AllByRecursion (λ value. value < 16) (values bits)
values_small bits = (
  value_small box_1 refl (six_bits bits 1),
  (
    value_small box_2 refl (six_bits bits 2),
    (
      value_small box_3 refl (six_bits bits 3),
      (
        value_small box_4 refl (six_bits bits 4),
        (
          value_small box_5 refl (six_bits bits 5),
          (value_small box_6 refl (six_bits bits 6), (value_small box_7 refl (six_bits bits 7), (value_small box_8 refl (six_bits bits 8), tt))),
        ),
      ),
    ),
  ),
)

turned_function : (key right : ℕ) → turned (cipher_function right key) ≡ put_apart placed (values (given key right))
unfolding cipher_function
turned_function key right =
    let bits = given key right in
    turned_is (selected permutation 32 (substituted bits)) (selected_fits permutation 32 (substituted bits))
    ∙ apart placed linear_placed 0 (values bits) (values_small bits)
    ∙ ap (λ n. bit_xor n (put_apart placed (values bits))) (at_zero placed linear_placed)

-- what the tables have, word by word
pub mixed_is : (half across_half odd even right key : ℕ) → right < 2 ^ 32 → half ≡ turned right → across_half ≡ rotate_left w32 half 4
    → odd ≡ odd_word key → even ≡ even_word key
    → bit_xor
    (bit_xor
    (bit_xor
    (bit_xor
    (bit_xor
    (bit_xor
    (bit_xor (slice_index BOX_1 (bit_xor half odd / 2 ^ 26 % 2 ^ 6)) (slice_index BOX_2 (bit_xor across_half even / 2 ^ 26 % 2 ^ 6)))
    (slice_index BOX_3 (bit_xor half odd / 2 ^ 18 % 2 ^ 6)))
    (slice_index BOX_4 (bit_xor across_half even / 2 ^ 18 % 2 ^ 6)))
    (slice_index BOX_5 (bit_xor half odd / 2 ^ 10 % 2 ^ 6)))
    (slice_index BOX_6 (bit_xor across_half even / 2 ^ 10 % 2 ^ 6)))
    (slice_index BOX_7 (bit_xor half odd / 2 ^ 2 % 2 ^ 6)))
    (slice_index BOX_8 (bit_xor across_half even / 2 ^ 2 % 2 ^ 6))
    ≡ turned (cipher_function right key)
mixed_is half across_half odd even right key small is_half is_across is_odd is_even =
    let same_half : half ≡ rolled 31 right = is_half ∙ turned_is right small in
    let same_across : across_half ≡ across right =
    is_across ∙ ap (λ n. rotate_left w32 n 4) is_half ∙ left_by_four (turned right) (turned_fits right small) ∙ ap (rolled 4) (turned_is right small) in
    let i1 = index_is half odd key right 26 1 (ap (λ n. n / 2 ^ 26 % 2 ^ 6) same_half ∙ group_1 right small) (ap (λ n. n / 2 ^ 26 % 2 ^ 6) is_odd ∙ (odd_groups key).first) in
    let i2 = index_is across_half even key right 26 2 (ap (λ n. n / 2 ^ 26 % 2 ^ 6) same_across ∙ group_2 right small) (ap (λ n. n / 2 ^ 26 % 2 ^ 6) is_even ∙ (even_groups key).first) in
    let i3 = index_is half odd key right 18 3 (ap (λ n. n / 2 ^ 18 % 2 ^ 6) same_half ∙ group_3 right small) (ap (λ n. n / 2 ^ 18 % 2 ^ 6) is_odd ∙ (odd_groups key).second) in
    let i4 = index_is across_half even key right 18 4 (ap (λ n. n / 2 ^ 18 % 2 ^ 6) same_across ∙ group_4 right small) (ap (λ n. n / 2 ^ 18 % 2 ^ 6) is_even ∙ (even_groups key).second) in
    let i5 = index_is half odd key right 10 5 (ap (λ n. n / 2 ^ 10 % 2 ^ 6) same_half ∙ group_5 right small) (ap (λ n. n / 2 ^ 10 % 2 ^ 6) is_odd ∙ (odd_groups key).third) in
    let i6 = index_is across_half even key right 10 6 (ap (λ n. n / 2 ^ 10 % 2 ^ 6) same_across ∙ group_6 right small) (ap (λ n. n / 2 ^ 10 % 2 ^ 6) is_even ∙ (even_groups key).third) in
    let i7 = index_is half odd key right 2 7 (ap (λ n. n / 2 ^ 2 % 2 ^ 6) same_half ∙ group_7 right small) (ap (λ n. n / 2 ^ 2 % 2 ^ 6) is_odd ∙ (odd_groups key).fourth) in
    let i8 = index_is across_half even key right 2 8 (ap (λ n. n / 2 ^ 2 % 2 ^ 6) same_across ∙ group_8 right small) (ap (λ n. n / 2 ^ 2 % 2 ^ 6) is_even ∙ (even_groups key).fourth) in
    let bits = given key right in
    rw (
      i1,
      i2,
      i3,
      i4,
      i5,
      i6,
      i7,
      i8,
      value_1 (six_bits bits 1) (six_small bits 1),
      value_2 (six_bits bits 2) (six_small bits 2),
      value_3 (six_bits bits 3) (six_small bits 3),
      value_4 (six_bits bits 4) (six_small bits 4),
      value_5 (six_bits bits 5) (six_small bits 5),
      value_6 (six_bits bits 6) (six_small bits 6),
      value_7 (six_bits bits 7) (six_small bits 7),
      value_8 (six_bits bits 8) (six_small bits 8),
    )
    (in_turn (placed (box_value box_1 (six_bits bits 1) * 2 ^ 28)) (placed (box_value box_2 (six_bits bits 2) * 2 ^ 24))
    (placed (box_value box_3 (six_bits bits 3) * 2 ^ 20)) (placed (box_value box_4 (six_bits bits 4) * 2 ^ 16))
    (placed (box_value box_5 (six_bits bits 5) * 2 ^ 12)) (placed (box_value box_6 (six_bits bits 6) * 2 ^ 8))
    (placed (box_value box_7 (six_bits bits 7) * 2 ^ 4)) (placed (box_value box_8 (six_bits bits 8) * 2 ^ 0))
    ∙ sym (turned_function key right))
