-- An interval behind another: what stands before its numbers, and what stands behind the first.
use Rattle.std.proofs.Common.{◌≡◌, ℕ, Bool, true, false, eqb, refl, sym, ◌∙◌, ap, List, [], ◌∷◌, ◌++◌, append-nil, append_assoc, Option, Some}
use Rattle.std.specs.Prelude.{decimal, if◌then◌else◌, ◌==◌}
use Rattle.std.proofs.Math.Dec.{eqb_refl}
use Rattle.std.proofs.lemmas.Bool.{eqb-true}
use Rattle.gtid_set.specs.declared.interval.Interval.{Interval}
use Rattle.gtid_set.specs.Printed.{interval_text, numbers_text, span_text, uuid_text}

-- what stands behind the first number
abbrev pub behind_first : ℕ → ℕ → List ℕ
behind_first first last = if first == last then [] else 45 ∷ decimal last

pub span-parts : (first last : ℕ) → span_text first last ≡ decimal first ++ behind_first first last
span-parts first last = by_test (eqb first last) refl
  where
    by_test : (t : Bool) → eqb first last ≡ t → span_text first last ≡ decimal first ++ behind_first first last
    by_test true e = rw e (sym (append-nil (decimal first)))
    by_test false e = rw e refl

-- two numbers that differ
pub span-apart : (first last : ℕ) → (first ≡ last → ⊥) → span_text first last ≡ (decimal first ++ 45 ∷ []) ++ decimal last
span-apart first last apart = by_test (eqb first last) refl ∙ sym (append_assoc (decimal first) (45 ∷ []) (decimal last))
  where
    by_test : (t : Bool) → eqb first last ≡ t → span_text first last ≡ decimal first ++ 45 ∷ decimal last
    by_test true e = absurd (apart (eqb-true first last e))
    by_test false e = rw e refl

pub interval-same : (before : Option ℕ) (u : ℕ) (i : Interval) → before ≡ Some u → u ≡ i.uuid → interval_text before i ≡ (58 ∷ []) ++ numbers_text i
interval-same before u i is same = ap (λ b. interval_text b i) (is ∙ ap (λ (v : ℕ). Some v) same) ∙ by_test (eqb i.uuid i.uuid) refl
  where
    by_test : (t : Bool) → eqb i.uuid i.uuid ≡ t → interval_text (Some i.uuid) i ≡ (58 ∷ []) ++ numbers_text i
    by_test true e = rw e refl
    by_test false e = absurd (rw e at (eqb_refl i.uuid))

pub interval-other : (before : Option ℕ) (u : ℕ) (i : Interval) → before ≡ Some u → (u ≡ i.uuid → ⊥) → interval_text before i ≡ (44 ∷ []) ++ (uuid_text i.uuid ++ 58 ∷ numbers_text i)
interval-other before u i is apart = ap (λ b. interval_text b i) is ∙ by_test (eqb u i.uuid) refl
  where
    by_test : (t : Bool) → eqb u i.uuid ≡ t → interval_text (Some u) i ≡ (44 ∷ []) ++ (uuid_text i.uuid ++ 58 ∷ numbers_text i)
    by_test true e = absurd (apart (eqb-true u i.uuid e))
    by_test false e = rw e refl
