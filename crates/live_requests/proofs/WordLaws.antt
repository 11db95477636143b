-- The words and the numbers of a line.
use Rattle.std.proofs.Common.{◌≡◌, ℕ, ◌+◌, ◌*◌, ◌<◌, ◌≤◌, ◌^◌, List, [], ◌∷◌, Option, None, Some, refl, sym, ap, ◌∙◌, arith}
use Rattle.std.specs.Prelude.{◌-◌, ◌&&◌, nat_le, not}
use Rattle.std.proofs.lemmas.Bool.Decides.{nat_tests}
use Rattle.std.proofs.lemmas.Bool.{ltb-true, ltb-false}
use Rattle.std.proofs.lemmas.List.{take_all}
use Rattle.std.proofs.Common.{Bool, true, false, cond, ltb, length, take, drop, length-drop}
use Rattle.std.specs.Option.{option_and_then}
use Rattle.std.specs.List.{slice_split, position_or_len, onto_first}
use Rattle.std.proofs.lemmas.List.Splits.{slice_split_first}
use Rattle.live_requests.specs.Requests.{number_continued, small}

-- ---- numbers

-- a value past the limit stays there
too_large : (value : ℕ) (digits : List ℕ) → 2 ^ 32 ≤ value → option_and_then small (number_continued value digits) ≡ None
too_large value [] h = grind (arith, nat_tests)
too_large value (b ∷ digits) h = by_digit (nat_le 48 b && nat_le b 57) (too_large (value * 10 + (b - 48)) digits (omega arith))
  where
    by_digit : (test : Bool) → option_and_then small (number_continued (value * 10 + (b - 48)) digits) ≡ None → option_and_then small (cond test (number_continued (value * 10 + (b - 48)) digits) None) ≡ None
    by_digit true more = more
    by_digit false more = refl

pub number_from-large : (value b : ℕ) (digits : List ℕ) → 2 ^ 32 ≤ value * 10 + (b - 48) → option_and_then small (number_continued value (b ∷ digits)) ≡ None
number_from-large value b digits h = by_digit (nat_le 48 b && nat_le b 57) (too_large (value * 10 + (b - 48)) digits h)
  where
    by_digit : (test : Bool) → option_and_then small (number_continued (value * 10 + (b - 48)) digits) ≡ None → option_and_then small (cond test (number_continued (value * 10 + (b - 48)) digits) None) ≡ None
    by_digit true more = more
    by_digit false more = refl

-- ---- lines

split-none-more : (p : ℕ → Bool) (x : ℕ) (xs : List ℕ) (b : Bool) → p x ≡ b → length (x ∷ xs) ≤ cond (not b) (1 + position_or_len p xs) 0 → (length xs ≤ position_or_len p xs → slice_split p xs ≡ xs ∷ [])
    → cond b ([] ∷ slice_split p xs) (onto_first x (slice_split p xs)) ≡ (x ∷ xs) ∷ []
split-none-more p x xs true is past more = absurd (omega arith)
split-none-more p x xs false is past more = ap (onto_first x) (more (omega arith))

split-none : (p : ℕ → Bool) (xs : List ℕ) → length xs ≤ position_or_len p xs → slice_split p xs ≡ xs ∷ []
split-none p [] past = refl
split-none p (x ∷ xs) past = split-none-more p x xs (p x) refl past (split-none p xs)

-- where the place of the first is known
split-at-place : (p : ℕ → Bool) (xs : List ℕ) (place end : ℕ) (b : Bool) → place ≡ position_or_len p xs → ltb place (length xs) ≡ b → Some end ≡ cond b (Some place) None
    → slice_split p xs ≡ take end xs ∷ slice_split p (take (length xs - (end + 1)) (drop (end + 1) xs))
split-at-place p xs place end true at there found =
    let same : end ≡ position_or_len p xs = cc in
    let lt : position_or_len p xs < length xs = omega (arith, ltb-true place (length xs) there, at) in
    let whole : take (length xs - (end + 1)) (drop (end + 1) xs) ≡ drop (end + 1) xs = take_all (length xs - (end + 1)) (drop (end + 1) xs) (omega (arith, length-drop (end + 1) xs)) in
    rw whole (rw same (slice_split_first p xs 0 lt))
split-at-place p xs place end false at there found = cc

pub split-at : (p : ℕ → Bool) (xs : List ℕ) (end : ℕ) (r : Option ℕ) → r ≡ Some end → r ≡ cond (ltb (position_or_len p xs) (length xs)) (Some (position_or_len p xs)) None
    → slice_split p xs ≡ take end xs ∷ slice_split p (take (length xs - (end + 1)) (drop (end + 1) xs))
split-at p xs end r found is = split-at-place p xs (position_or_len p xs) end (ltb (position_or_len p xs) (length xs)) refl refl (sym found ∙ is)

split-last-place : (p : ℕ → Bool) (xs : List ℕ) (place : ℕ) (b : Bool) → place ≡ position_or_len p xs → ltb place (length xs) ≡ b → None ≡ cond b (Some place) None → slice_split p xs ≡ xs ∷ []
split-last-place p xs place true at there absent = cc
split-last-place p xs place false at past absent = split-none p xs (omega (arith, ltb-false place (length xs) past, at))

pub split-last : (p : ℕ → Bool) (xs : List ℕ) (r : Option ℕ) → r ≡ None → r ≡ cond (ltb (position_or_len p xs) (length xs)) (Some (position_or_len p xs)) None
    → slice_split p xs ≡ xs ∷ []
split-last p xs r absent is = split-last-place p xs (position_or_len p xs) (ltb (position_or_len p xs) (length xs)) refl refl (sym absent ∙ is)
