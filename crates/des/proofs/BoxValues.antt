-- The values of the boxes, and where the permutation behind them puts these.
use Rattle.std.proofs.Common.{◌≡◌, ℕ, zero, suc, ◌+◌, ◌*◌, ◌/◌, ◌%◌, ◌^◌, ◌<◌, Bool, true, ◌&&◌, ltb, eqb, List, [], ◌∷◌, length, get_or, refl, sym, ap, ◌∙◌, arith}
use Rattle.std.specs.Prelude.{bit_xor, slice_index}
use Rattle.std.specs.Int.Digits.{number_from_digits_after}
use Rattle.std.specs.List.{AllByRecursion}
use Rattle.std.proofs.Math.Nat.{mul_assoc}
use Rattle.std.proofs.lemmas.Bool.Decides.{nat_tests}
use Rattle.std.proofs.lemmas.Nat.{pow-add}
use Rattle.std.specs.Int.Bits.{xor_assoc, xor_zero_r}
use Rattle.des.specs.Des.{selected, box_value}
use Rattle.des.specs.Tables.{permutation, box_1, box_2, box_3, box_4, box_5, box_6, box_7, box_8}
use Rattle.des.specs.declared.boxes.TheConstants.{BOX_1, BOX_2, BOX_3, BOX_4, BOX_5, BOX_6, BOX_7, BOX_8}
use Rattle.des.proofs.Linear.{IsLinear, linear_after, linear_shl, xor_beside, all_below, one_below, equal_by_test, and_left, and_right}
use Rattle.des.proofs.Moved.{linear_selected}
use Rattle.des.proofs.Rolled.{rolled, linear_rolled}

-- where four bits come to stand
abbrev pub placed : ℕ → ℕ
placed n = rolled 31 (selected permutation 32 n)

pub linear_placed : IsLinear placed
linear_placed = linear_after (rolled 31) (selected permutation 32) (linear_rolled 31) (linear_selected permutation 32)

-- ---- what the boxes have, at each six bits

abbrev is_placed : List ℕ → List ℕ → ℕ → Bool
is_placed values box places = all_below (λ bits. eqb (slice_index values bits) (placed (box_value box bits * 2 ^ places))) 64

value_is : (values box : List ℕ) (places : ℕ) → is_placed values box places ≡ true
    → (bits : ℕ) → bits < 64 → slice_index values bits ≡ placed (box_value box bits * 2 ^ places)
value_is values box places e bits small = equal_by_test _ _ (one_below (λ k. eqb (slice_index values k) (placed (box_value box k * 2 ^ places))) 64 e bits small)

pub value_1 : (bits : ℕ) → bits < 64 → slice_index BOX_1 bits ≡ placed (box_value box_1 bits * 2 ^ 28)
unfolding selected
value_1 bits small = value_is BOX_1 box_1 28 refl bits small

pub value_2 : (bits : ℕ) → bits < 64 → slice_index BOX_2 bits ≡ placed (box_value box_2 bits * 2 ^ 24)
unfolding selected
value_2 bits small = value_is BOX_2 box_2 24 refl bits small

pub value_3 : (bits : ℕ) → bits < 64 → slice_index BOX_3 bits ≡ placed (box_value box_3 bits * 2 ^ 20)
unfolding selected
value_3 bits small = value_is BOX_3 box_3 20 refl bits small

pub value_4 : (bits : ℕ) → bits < 64 → slice_index BOX_4 bits ≡ placed (box_value box_4 bits * 2 ^ 16)
unfolding selected
value_4 bits small = value_is BOX_4 box_4 16 refl bits small

pub value_5 : (bits : ℕ) → bits < 64 → slice_index BOX_5 bits ≡ placed (box_value box_5 bits * 2 ^ 12)
unfolding selected
value_5 bits small = value_is BOX_5 box_5 12 refl bits small

pub value_6 : (bits : ℕ) → bits < 64 → slice_index BOX_6 bits ≡ placed (box_value box_6 bits * 2 ^ 8)
unfolding selected
value_6 bits small = value_is BOX_6 box_6 8 refl bits small

pub value_7 : (bits : ℕ) → bits < 64 → slice_index BOX_7 bits ≡ placed (box_value box_7 bits * 2 ^ 4)
unfolding selected
value_7 bits small = value_is BOX_7 box_7 4 refl bits small

pub value_8 : (bits : ℕ) → bits < 64 → slice_index BOX_8 bits ≡ placed (box_value box_8 bits * 2 ^ 0)
unfolding selected
value_8 bits small = value_is BOX_8 box_8 0 refl bits small

-- ---- the values are of four bits

abbrev pub are_small : List ℕ → Bool
are_small [] = true
are_small (value ∷ values) = ltb value 16 && are_small values

one_small : (values : List ℕ) → are_small values ≡ true → (place : ℕ) → get_or values place 0 < 16
one_small [] e place = omega arith
one_small (value ∷ values) e zero =
    let here : ltb value 16 ≡ true = and_left (ltb value 16) (are_small values) e in
    grind (arith, nat_tests)
one_small (value ∷ values) e (suc place) = one_small values (and_right (ltb value 16) (are_small values) e) place

pub value_small : (box : List ℕ) → are_small box ≡ true → (bits : ℕ) → box_value box bits < 16
value_small box e bits = one_small box e (16 * (bits / 2 ^ 5 * 2 + bits % 2) + bits / 2 % 2 ^ 4)

-- ---- numbers side by side, each put by itself

abbrev pub put_apart : (ℕ → ℕ) → List ℕ → ℕ
put_apart f [] = 0
put_apart f (value ∷ values) = bit_xor (f (value * 2 ^ (4 * length values))) (put_apart f values)

pub apart : (f : ℕ → ℕ) → IsLinear f → (n : ℕ) (values : List ℕ) → AllByRecursion (λ value. value < 16) values
    → f (number_from_digits_after 16 n values) ≡ bit_xor (f (n * 2 ^ (4 * length values))) (put_apart f values)
apart f of_f n [] small =
    let once : n * 2 ^ 0 ≡ n = omega arith in
    sym (xor_zero_r (f (n * 2 ^ 0)) ∙ ap f once)
apart f of_f n (value ∷ values) small =
    let places = 4 * length values in
    let more : 4 + places ≡ 4 * suc (length values) = omega arith in
    let beside : n * 16 + value ≡ bit_xor (n * 16) value = xor_beside n 4 value small.0 in
    let moved : bit_xor (n * 16) value * 2 ^ places ≡ bit_xor (n * 16 * 2 ^ places) (value * 2 ^ places) = (linear_shl places).of_xor (n * 16) value in
    let further : n * 16 * 2 ^ places ≡ n * 2 ^ (4 * suc (length values)) =
    mul_assoc n 16 (2 ^ places) ∙ ap (λ power. n * power) (sym (pow-add 2 4 places) ∙ ap (λ k. 2 ^ k) more) in
    let rest = put_apart f values in
    apart f of_f (n * 16 + value) values small.1
    ∙ ap (λ k. bit_xor (f (k * 2 ^ places)) rest) beside
    ∙ ap (λ k. bit_xor (f k) rest) moved
    ∙ ap (λ k. bit_xor k rest) (of_f.of_xor (n * 16 * 2 ^ places) (value * 2 ^ places))
    ∙ xor_assoc (f (n * 16 * 2 ^ places)) (f (value * 2 ^ places)) rest
    ∙ ap (λ k. bit_xor (f k) (bit_xor (f (value * 2 ^ places)) rest)) further
