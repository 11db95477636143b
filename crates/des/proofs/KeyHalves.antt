-- The key schedule, round by round; and that all it makes of the key of zeros is zeros.
use Rattle.std.proofs.Common.{◌≡◌, ℕ, zero, suc, ◌+◌, ◌-◌, ◌*◌, ◌/◌, ◌%◌, ◌^◌, ◌<◌, ◌≤◌, true, List, [], ◌∷◌, length, eqb, ltb, refl, sym, ap, ◌∙◌, inl, inr, arith}
use Rattle.std.proofs.Math.Nat.{zero-mul, zero-div}
use Rattle.std.proofs.lemmas.Bool.{cases_eq}
use Rattle.std.proofs.lemmas.List.{length-set, get_or-set_same, get_or-set_other}
use Rattle.std.proofs.lemmas.Bool.Decides.{nat_tests}
use Rattle.std.specs.Prelude.{slice_index, slice_set}
use Rattle.des.specs.Des.{selected, rotated, key_halves, round_key}
use Rattle.des.specs.Private.Scheduled.{IsScheduled}
use Rattle.des.specs.Private.Words.{odd_word, even_word, HasRoundKeys}
use Rattle.des.specs.Tables.{permuted_choice_1, permuted_choice_2, left_shifts}
use Rattle.des.proofs.Linear.{one_below, equal_by_test}

-- ---- one round more

few_shifts : (n : ℕ) → n < 16 → slice_index left_shifts n < 3
few_shifts n small =
    let test : ltb (slice_index left_shifts n) 3 ≡ true = one_below (λ k. ltb (slice_index left_shifts k) 3) 16 refl n small in
    grind (arith, nat_tests)

pub few_places : (n : ℕ) → n < 16 → slice_index left_shifts n ≤ 2
few_places n small = let few = few_shifts n small in omega (arith, few)

next_key : (key n : ℕ) → (left right : ℕ) → left ≡ (key_halves key n).left → right ≡ (key_halves key n).right
    → (rotated left (slice_index left_shifts n) ≡ (key_halves key (suc n)).left)
    × (rotated right (slice_index left_shifts n) ≡ (key_halves key (suc n)).right)
unfolding key_halves
next_key key n left right is_left is_right =
    (ap (λ bits. rotated bits (slice_index left_shifts n)) is_left, ap (λ bits. rotated bits (slice_index left_shifts n)) is_right)

round_key_is : (key n left right : ℕ) → left ≡ (key_halves key n).left → right ≡ (key_halves key n).right
    → selected permuted_choice_2 56 (left * 2 ^ 28 + right) ≡ round_key key n
unfolding round_key
round_key_is key n left right is_left is_right =
    ap (λ bits. selected permuted_choice_2 56 (bits * 2 ^ 28 + right)) is_left
    ∙ ap (λ bits. selected permuted_choice_2 56 ((key_halves key n).left * 2 ^ 28 + bits)) is_right

word_more : (words : List ℕ) (n word : ℕ) (wanted : ℕ → ℕ) → n < length words → ((k : ℕ) → k < n → slice_index words k ≡ wanted k)
    → word ≡ wanted n → (k : ℕ) → k < n + 1 → slice_index (slice_set words n word) k ≡ wanted k
word_more words n word wanted within before here k below =
    elim (cases_eq k n) [
      | inl same ↦ rw same (get_or-set_same words n word 0 within ∙ here)
      | inr other ↦ get_or-set_other words n k word 0 other ∙ before k (omega arith)
    ]

pub first_halves : (key : ℕ) → ((key_halves key 0).left ≡ selected permuted_choice_1 64 key / 2 ^ 28)
    × ((key_halves key 0).right ≡ selected permuted_choice_1 64 key % 2 ^ 28)
unfolding key_halves
first_halves key = (refl, refl)

pub scheduled_more : (key n left right : ℕ) (odd even : List ℕ) → IsScheduled key n left right odd even → n < 16
    → (new_left new_right chosen odd_groups even_groups : ℕ)
    → new_left ≡ rotated left (slice_index left_shifts n) → new_left < 2 ^ 28
    → new_right ≡ rotated right (slice_index left_shifts n) → new_right < 2 ^ 28
    → chosen ≡ selected permuted_choice_2 56 (new_left * 2 ^ 28 + new_right)
    → odd_groups ≡ odd_word chosen → even_groups ≡ even_word chosen
    → IsScheduled key (n + 1) new_left new_right (slice_set odd n odd_groups) (slice_set even n even_groups)
scheduled_more key n left right odd even before few new_left new_right chosen odd_groups even_groups of_left left_small of_right right_small of_key of_odd of_even =
    let plus : suc n ≡ n + 1 = omega arith in
    let halves = next_key key n left right before.is_left before.is_right in
    let next_left : new_left ≡ (key_halves key (suc n)).left = of_left ∙ halves.0 in
    let next_right : new_right ≡ (key_halves key (suc n)).right = of_right ∙ halves.1 in
    let is_key : chosen ≡ round_key key (suc n) = of_key ∙ round_key_is key (suc n) new_left new_right next_left next_right in
    record {
      is_left = next_left ∙ ap (λ k. (key_halves key k).left) plus;
      is_right = next_right ∙ ap (λ k. (key_halves key k).right) plus;
      left_fits = left_small;
      right_fits = right_small;
      odd_length = length-set odd n odd_groups ∙ before.odd_length;
      even_length = length-set even n even_groups ∙ before.even_length;
      odd_words =
          word_more odd n odd_groups (λ k. odd_word (round_key key (suc k))) (rw before.odd_length few) before.odd_words
          (of_odd ∙ ap odd_word is_key);
      even_words =
          word_more even n even_groups (λ k. even_word (round_key key (suc k))) (rw before.even_length few) before.even_words
          (of_even ∙ ap even_word is_key);
    }

-- ---- the key of zeros

rotated_zeros : (places : ℕ) → rotated 0 places ≡ 0
rotated_zeros places = rw (zero-mul (2 ^ places), zero-div (2 ^ (28 - places))) refl

null_left : (n : ℕ) → (key_halves 0 n).left ≡ 0
unfolding key_halves selected
null_left zero = refl
null_left (suc n) = ap (λ bits. rotated bits (slice_index left_shifts n)) (null_left n) ∙ rotated_zeros (slice_index left_shifts n)

null_right : (n : ℕ) → (key_halves 0 n).right ≡ 0
unfolding key_halves selected
null_right zero = refl
null_right (suc n) = ap (λ bits. rotated bits (slice_index left_shifts n)) (null_right n) ∙ rotated_zeros (slice_index left_shifts n)

of_zeros : selected permuted_choice_2 56 (0 * 2 ^ 28 + 0) ≡ 0
unfolding selected
of_zeros = refl

pub null_round_key : (n : ℕ) → round_key 0 n ≡ 0
unfolding round_key
null_round_key n =
    ap (λ left. selected permuted_choice_2 56 (left * 2 ^ 28 + (key_halves 0 n).right)) (null_left n)
    ∙ ap (λ right. selected permuted_choice_2 56 (0 * 2 ^ 28 + right)) (null_right n) ∙ of_zeros

abbrev sixteen_zeros : List ℕ
sixteen_zeros = 0 ∷ 0 ∷ 0 ∷ 0 ∷ 0 ∷ 0 ∷ 0 ∷ 0 ∷ 0 ∷ 0 ∷ 0 ∷ 0 ∷ 0 ∷ 0 ∷ 0 ∷ 0 ∷ []

zero_at : (n : ℕ) → n < 16 → slice_index sixteen_zeros n ≡ 0
zero_at n small = equal_by_test _ _ (one_below (λ k. eqb (slice_index sixteen_zeros k) 0) 16 refl n small)

odd_zero : odd_word 0 ≡ 0
unfolding odd_word
odd_zero = refl

even_zero : even_word 0 ≡ 0
unfolding even_word
even_zero = refl

pub null_words : HasRoundKeys 0 sixteen_zeros sixteen_zeros
null_words =
    record {
      odd_words = λ n small. zero_at n small ∙ sym (ap odd_word (null_round_key (suc n)) ∙ odd_zero);
      even_words = λ n small. zero_at n small ∙ sym (ap even_word (null_round_key (suc n)) ∙ even_zero);
    }
