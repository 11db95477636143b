-- Blanks at the end of a text, and the parts between separators.
use Rattle.std.proofs.Common.{◌≡◌, ℕ, ◌+◌, ◌-◌, ◌<◌, Bool, true, false, eqb, refl, sym, ◌∙◌, ap, arith, List, [], ◌∷◌, ◌++◌, length, get_or, take, Option, Some, None}
use Rattle.std.proofs.lemmas.Bool.{cond-true, cond-false}
use Rattle.std.proofs.lemmas.Grind.{common_steps, take_at_read}
use Rattle.gtid_set.specs.Blank.{is_blank, unless_blank, trimmed_end, cut, with_first, parts_between}

-- ---- the end

pub last_byte : (s : List ℕ) (x : ℕ) → 0 < length s → x ≡ get_or s (length s - 1) 0 → s ≡ take (length s - 1) s ++ x ∷ []
last_byte s x some e =
    let all : take (length s - 1 + 1) s ≡ s = grind (arith, common_steps) in
    sym all ∙ (take_at_read s (length s - 1) 0 (omega arith)).1 ∙ ap (λ (y : ℕ). take (length s - 1) s ++ y ∷ []) (sym e)

unless_blank-more : (x : ℕ) (s : List ℕ) (b : ℕ) → unless_blank x (s ++ b ∷ []) ≡ x ∷ (s ++ b ∷ [])
unless_blank-more x [] b = refl
unless_blank-more x (y ∷ s) b = refl

trimmed_end-blank : (s : List ℕ) (b : ℕ) → is_blank b ≡ true → trimmed_end (s ++ b ∷ []) ≡ trimmed_end s
trimmed_end-blank [] b e = cond-true (is_blank b) _ _ e
trimmed_end-blank (x ∷ s) b e = ap (unless_blank x) (trimmed_end-blank s b e)

pub trimmed_end-other : (s : List ℕ) (b : ℕ) → is_blank b ≡ false → trimmed_end (s ++ b ∷ []) ≡ s ++ b ∷ []
trimmed_end-other [] b e = cond-false (is_blank b) _ _ e
trimmed_end-other (x ∷ s) b e = ap (unless_blank x) (trimmed_end-other s b e) ∙ unless_blank-more x s b

pub trimmed_end-last_blank : (s : List ℕ) (x : ℕ) → 0 < length s → x ≡ get_or s (length s - 1) 0 → is_blank x ≡ true → trimmed_end (take (length s - 1) s) ≡ trimmed_end s
trimmed_end-last_blank s x some at e = sym (ap trimmed_end (last_byte s x some at) ∙ trimmed_end-blank (take (length s - 1) s) x e)

pub trimmed_end-last_other : (s : List ℕ) (x : ℕ) → 0 < length s → x ≡ get_or s (length s - 1) 0 → is_blank x ≡ false → trimmed_end s ≡ s
trimmed_end-last_other s x some at e =
    let whole = last_byte s x some at in
    ap trimmed_end whole ∙ trimmed_end-other (take (length s - 1) s) x e ∙ sym whole

-- ---- separators

-- the parts behind a cut: none, or those of what stands behind it
abbrev pub parts_after : ℕ → Option (List ℕ) → List (List ℕ)
parts_after c None = []
parts_after c (Some rest) = parts_between c rest

pub parts_between-cut : (c : ℕ) (text : List ℕ) → parts_between c text ≡ (cut c text).0 ∷ parts_after c (cut c text).1
parts_between-cut c [] = refl
parts_between-cut c (b ∷ text) = by_test (eqb b c) refl (parts_between-cut c text)
  where
    by_test : (t : Bool) → eqb b c ≡ t → parts_between c text ≡ (cut c text).0 ∷ parts_after c (cut c text).1 → parts_between c (b ∷ text) ≡ (cut c (b ∷ text)).0 ∷ parts_after c (cut c (b ∷ text)).1
    by_test true e h = rw e refl
    by_test false e h = rw e (ap (with_first b) h)
