-- Groups of digits one on, and digits that are shown.
use Rattle.std.proofs.Common.{◌≡◌, ℕ, suc, ◌+◌, ◌<◌, Bool, true, false, List, [], ◌∷◌, ◌++◌, length, drop, get_or, append_assoc, length-append, refl, sym, ap, ◌∙◌, arith}
use Rattle.std.specs.List.{flat_map, list_all}
use Rattle.std.proofs.lemmas.List.{append-nil, drop_more, nil_from_length}
use Rattle.log_values.specs.Decimal.{full_groups, group_text, group_fits, shown, or_zero}

pub full_more : (place n k : ℕ) → n ≡ suc k → full_groups place n ≡ record { place = place; digits = 9 } ∷ full_groups (place + 4) k
full_more place n k e = ap (full_groups place) e

-- ---- what fits

pub fit_more : (bytes : List ℕ) (place n k : ℕ) → n ≡ suc k → group_fits bytes (record { place = place; digits = 9 }) ≡ true
    → list_all (group_fits bytes) (full_groups (place + 4) k) ≡ list_all (group_fits bytes) (full_groups place n)
fit_more bytes place n k e fits = rw (full_more place n k e, fits) refl

pub fit_not : (bytes : List ℕ) (place n k : ℕ) → n ≡ suc k → group_fits bytes (record { place = place; digits = 9 }) ≡ false → false ≡ list_all (group_fits bytes) (full_groups place n)
fit_not bytes place n k e fits = rw (full_more place n k e, fits) refl

-- ---- what is shown

pub shown-none : (begun : Bool) → shown begun [] ≡ []
shown-none true = refl
shown-none false = refl

-- digits behind a first
abbrev pub ShowsMore : List ℕ → List ℕ → Bool → Bool → List ℕ → List ℕ → Type 0
ShowsMore old new started begun all left = (rest : List ℕ) → new ++ shown begun (left ++ rest) ≡ old ++ shown started (all ++ rest)

pub shows_turn : (old out new : List ℕ) (started begun now : Bool) (all left part more : List ℕ) → ShowsMore old out started begun all left → left ≡ part ++ more
    → ((rest : List ℕ) → new ++ shown now rest ≡ out ++ shown begun (part ++ rest)) → ShowsMore old new started now all more
shows_turn old out new started begun now all left part more so_far parts step rest =
    step (more ++ rest) ∙ ap (λ (xs : List ℕ). out ++ shown begun xs) (sym (append_assoc part more rest)) ∙ ap (λ (xs : List ℕ). out ++ shown begun (xs ++ rest)) (sym parts) ∙ so_far rest

pub shows_end : (old out : List ℕ) (started begun : Bool) (all left : List ℕ) → ShowsMore old out started begun all left → left ≡ [] → (rest : List ℕ) → out ++ shown begun rest ≡ old ++ shown started (all ++ rest)
shows_end old out started begun all left so_far none rest = ap (λ (xs : List ℕ). out ++ shown begun (xs ++ rest)) (sym none) ∙ so_far rest

-- a digit that is left out, and one that is written
pub left_out : (old rest : List ℕ) (d : ℕ) → d ≡ 48 → old ++ shown false rest ≡ old ++ shown false (d ∷ rest)
left_out old rest d e = rw e refl

pub digits_at : (bytes : List ℕ) (place n k : ℕ) → n ≡ suc k
    → flat_map (group_text bytes) (full_groups place n) ≡ group_text bytes (record { place = place; digits = 9 }) ++ flat_map (group_text bytes) (full_groups (place + 4) k)
digits_at bytes place n k e = ap (flat_map (group_text bytes)) (full_more place n k e)

pub digit_at : (digits : List ℕ) (i d : ℕ) → i < length digits → d ≡ get_or digits i 0 → drop i digits ≡ (d ∷ []) ++ drop (i + 1) digits
digit_at digits i d less is = drop_more digits i 0 less ∙ ap (λ (x : ℕ). x ∷ drop (i + 1) digits) (sym is)

-- ---- the digits before the point

same_length : (old shown_digits : List ℕ) → length (old ++ shown_digits) ≡ length old → shown_digits ≡ []
same_length old digits e = nil_from_length digits (omega (arith, length-append old digits))

all_shown : (old one two front full : List ℕ) (begun last : Bool) → ((rest : List ℕ) → one ++ shown begun rest ≡ old ++ shown false (front ++ rest)) → ((rest : List ℕ) → two ++ shown last rest ≡ one ++ shown begun (full ++ rest))
    → two ≡ old ++ shown false (front ++ full)
all_shown old one two front full begun last first second =
    sym (append-nil two) ∙ ap (λ (xs : List ℕ). two ++ xs) (sym (shown-none last)) ∙ second [] ∙ ap (λ (xs : List ℕ). one ++ shown begun xs) (append-nil full) ∙ first full

pub whole_shown : (old one two front full : List ℕ) (begun last : Bool) → ((rest : List ℕ) → one ++ shown begun rest ≡ old ++ shown false (front ++ rest)) → ((rest : List ℕ) → two ++ shown last rest ≡ one ++ shown begun (full ++ rest))
    → (length two ≡ length old → ⊥) → two ≡ old ++ or_zero (shown false (front ++ full))
whole_shown old one two front full begun last first second longer =
    let is = all_shown old one two front full begun last first second in
    is ∙ ap (λ (xs : List ℕ). old ++ xs) (some (shown false (front ++ full)) (λ none. longer (ap length is ∙ ap (λ (xs : List ℕ). length (old ++ xs)) none ∙ ap length (append-nil old))))
  where
    some : (digits : List ℕ) → (digits ≡ [] → ⊥) → digits ≡ or_zero digits
    some [] h = absurd (h refl)
    some (d ∷ digits) h = refl

pub whole_zero : (old one two front full : List ℕ) (begun last : Bool) → ((rest : List ℕ) → one ++ shown begun rest ≡ old ++ shown false (front ++ rest)) → ((rest : List ℕ) → two ++ shown last rest ≡ one ++ shown begun (full ++ rest))
    → length two ≡ length old → two ++ 48 ∷ [] ≡ old ++ or_zero (shown false (front ++ full))
whole_zero old one two front full begun last first second same =
    let is = all_shown old one two front full begun last first second in
    let none : shown false (front ++ full) ≡ [] = same_length old (shown false (front ++ full)) (sym (ap length is) ∙ same) in
    let two_is : two ≡ old = is ∙ ap (λ (xs : List ℕ). old ++ xs) none ∙ append-nil old in
    rw (two_is, none) refl

-- ---- those behind it

pub part_shown : (out one two front full : List ℕ) (begun last : Bool) → ((rest : List ℕ) → one ++ shown begun rest ≡ out ++ shown true (full ++ rest)) → ((rest : List ℕ) → two ++ shown last rest ≡ one ++ shown begun (front ++ rest))
    → two ≡ out ++ (full ++ front)
part_shown out one two front full begun last first second =
    sym (append-nil two) ∙ ap (λ (xs : List ℕ). two ++ xs) (sym (shown-none last)) ∙ second [] ∙ ap (λ (xs : List ℕ). one ++ shown begun xs) (append-nil front) ∙ first front
