-- How far a kind of bytes goes at the front of a list.
use Rattle.std.proofs.Common.{◌≡◌, ℕ, suc, ◌+◌, ◌≤◌, List, [], ◌∷◌, length, take, drop, Bool, true, false, cond, Some, None, refl, ap, ◌∙◌, arith}
use Rattle.std.specs.Prelude.{not, unwrap_or, nat_lt}
use Rattle.std.specs.List.{list_all, prefix_len}
use Rattle.std.proofs.lemmas.Bool.{and_parts}
use Rattle.list_laws.proofs.Choices.{or_len_at}
use Rattle.filter_text.specs.Private.Cutting.{front_len}

abbrev pub span_len : (ℕ → Bool) → List ℕ → ℕ
span_len p [] = 0
span_len p (x ∷ xs) = cond (p x) (suc (span_len p xs)) 0

abbrev pub begins : (ℕ → Bool) → List ℕ → Bool
begins p [] = false
begins p (x ∷ xs) = p x

not_not : (b : Bool) → not (not b) ≡ b
not_not true = refl
not_not false = refl

one_more : (b : Bool) (m n : ℕ) → m ≡ n → cond b (1 + m) 0 ≡ cond b (suc n) 0
one_more true m n e = omega arith
one_more false m n e = refl

prefix_is_span : (p : ℕ → Bool) (xs : List ℕ) → prefix_len (λ x. not (not (p x))) xs ≡ span_len p xs
prefix_is_span p [] = refl
prefix_is_span p (x ∷ xs) = rw (not_not (p x)) (one_more (p x) _ _ (prefix_is_span p xs))

span_within_at : (b : Bool) (m n : ℕ) → m ≤ n → cond b (suc m) 0 ≤ suc n
span_within_at true m n h = omega arith
span_within_at false m n h = omega arith

pub span_within : (p : ℕ → Bool) (xs : List ℕ) → span_len p xs ≤ length xs
span_within p [] = omega arith
span_within p (x ∷ xs) = span_within_at (p x) _ _ (span_within p xs)

or_len : (n m : ℕ) → n ≤ m → unwrap_or (cond (nat_lt n m) (Some n) None) m ≡ n
or_len n m h = or_len_at n m (nat_lt n m) refl h

pub front_is_span : (p : ℕ → Bool) (xs : List ℕ) → front_len p xs ≡ span_len p xs
front_is_span p xs =
    ap (λ n. unwrap_or (cond (nat_lt n (length xs)) (Some n) None) (length xs)) (prefix_is_span p xs)
    ∙ or_len (span_len p xs) (length xs) (span_within p xs)

all_at : (b : Bool) (p : ℕ → Bool) (x : ℕ) (xs : List ℕ) (n : ℕ) → p x ≡ b → list_all p (take n xs) ≡ true → list_all p (take (cond b (suc n) 0) (x ∷ xs)) ≡ true
all_at true p x xs n e h = rw e h
all_at false p x xs n e h = refl

-- the bytes of the span are of the kind
pub span_all : (p : ℕ → Bool) (xs : List ℕ) → list_all p (take (span_len p xs) xs) ≡ true
span_all p [] = refl
span_all p (x ∷ xs) = all_at (p x) p x xs (span_len p xs) refl (span_all p xs)

stops_at : (b : Bool) (p : ℕ → Bool) (x : ℕ) (xs : List ℕ) (n : ℕ) → p x ≡ b → begins p (drop n xs) ≡ false → begins p (drop (cond b (suc n) 0) (x ∷ xs)) ≡ false
stops_at true p x xs n e h = h
stops_at false p x xs n e h = e

-- and the byte behind it isn't
pub span_stops : (p : ℕ → Bool) (xs : List ℕ) → begins p (drop (span_len p xs) xs) ≡ false
span_stops p [] = refl
span_stops p (x ∷ xs) = stops_at (p x) p x xs (span_len p xs) refl (span_stops p xs)

pub all_parts : (p : ℕ → Bool) (x : ℕ) (xs : List ℕ) → list_all p (x ∷ xs) ≡ true → (p x ≡ true) × (list_all p xs ≡ true)
all_parts p x xs h = and_parts (p x) (list_all p xs) h
