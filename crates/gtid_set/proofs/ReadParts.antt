-- Texts without a separator, without blanks, and the parts of a text that is put together.
use Rattle.std.proofs.Common.{◌≡◌, ℕ, ◌<◌, false, eqb, refl, sym, ◌∙◌, ap, subst, arith, inl, inr, List, [], ◌∷◌, ◌++◌, append_assoc, append-nil, length, Option, Some, None, Result, Ok}
use Rattle.std.specs.List.{AllByRecursion}
use Rattle.std.proofs.lemmas.Bool.{cases_Bool, cond-true, cond-false, eq-eqb}
use Rattle.gtid_set.specs.declared.interval.Interval.{Interval}
use Rattle.gtid_set.specs.declared.fault.GtidFault.{GtidFault}
use Rattle.list_laws.specs.Outcome.{◌>>=◌}
use Rattle.gtid_set.specs.Blank.{is_blank, trimmed_front, trimmed_end, unless_blank, trimmed, cut, with_first, parts_between}
use Rattle.gtid_set.specs.Text.{all_of}
use Rattle.gtid_set.proofs.TextIntervals.{bind_ok, ok_is}

abbrev pub AllNot : ℕ → List ℕ → Type 0
AllNot c text = AllByRecursion (λ b. eqb b c ≡ false) text

abbrev pub AllFull : List ℕ → Type 0
AllFull text = AllByRecursion (λ b. is_blank b ≡ false) text

pub all-weaker : (P Q : ℕ → Type 0) → ((b : ℕ) → P b → Q b) → (text : List ℕ) → AllByRecursion P text → AllByRecursion Q text
all-weaker P Q f [] p = tt
all-weaker P Q f (b ∷ text) p = (f b p.0, all-weaker P Q f text p.1)

pub all-append : (P : ℕ → Type 0) (xs ys : List ℕ) → AllByRecursion P xs → AllByRecursion P ys → AllByRecursion P (xs ++ ys)
all-append P [] ys p q = q
all-append P (x ∷ xs) ys p q = (p.0, all-append P xs ys p.1 q)

-- ---- separators

pub cut-none : (c : ℕ) (text : List ℕ) → AllNot c text → ◌≡◌ {A = List ℕ × Option (List ℕ)} (cut c text) (text, None)
cut-none c [] p = refl
cut-none c (b ∷ text) p =
    cond-false (eqb b c) _ _ p.0 ∙ ap (λ (r : List ℕ × Option (List ℕ)). (b ∷ r.0, r.1)) (cut-none c text p.1)

pub cut-first : (c : ℕ) (xs ys : List ℕ) → AllNot c xs → ◌≡◌ {A = List ℕ × Option (List ℕ)} (cut c (xs ++ c ∷ ys)) (xs, Some ys)
cut-first c [] ys p = cond-true (eqb c c) _ _ (eq-eqb c c refl)
cut-first c (b ∷ xs) ys p =
    cond-false (eqb b c) _ _ p.0 ∙ ap (λ (r : List ℕ × Option (List ℕ)). (b ∷ r.0, r.1)) (cut-first c xs ys p.1)

pub parts-none : (c : ℕ) (text : List ℕ) → AllNot c text → parts_between c text ≡ text ∷ []
parts-none c [] p = refl
parts-none c (b ∷ text) p = cond-false (eqb b c) _ _ p.0 ∙ ap (with_first b) (parts-none c text p.1)

pub parts-first : (c : ℕ) (xs ys : List ℕ) → AllNot c xs → parts_between c (xs ++ c ∷ ys) ≡ xs ∷ parts_between c ys
parts-first c [] ys p = cond-true (eqb c c) _ _ (eq-eqb c c refl)
parts-first c (b ∷ xs) ys p = cond-false (eqb b c) _ _ p.0 ∙ ap (with_first b) (parts-first c xs ys p.1)

with_first-some : (b : ℕ) (parts : List (List ℕ)) → 0 < length (with_first b parts)
with_first-some b [] = omega arith
with_first-some b (p ∷ parts) = omega arith

parts-some : (c : ℕ) (text : List ℕ) → 0 < length (parts_between c text)
parts-some c [] = omega arith
parts-some c (b ∷ text) =
    elim (cases_Bool (eqb b c)) [
      | inl t ↦ rw t (omega arith)
      | inr f ↦ rw f (with_first-some b (parts_between c text))
    ]

with_first-push : (b : ℕ) (parts : List (List ℕ)) (last : List ℕ) → 0 < length parts → with_first b (parts ++ last ∷ []) ≡ with_first b parts ++ last ∷ []
with_first-push b [] last some = absurd (omega arith)
with_first-push b (p ∷ parts) last some = refl

pub parts-push : (c : ℕ) (q t : List ℕ) → AllNot c t → parts_between c (q ++ c ∷ t) ≡ parts_between c q ++ t ∷ []
parts-push c [] t p = cond-true (eqb c c) _ _ (eq-eqb c c refl) ∙ ap (λ (l : List (List ℕ)). [] ∷ l) (parts-none c t p)
parts-push c (b ∷ q) t p =
    elim (cases_Bool (eqb b c)) [
      | inl e ↦
          cond-true (eqb b c) ([] ∷ parts_between c (q ++ c ∷ t)) (with_first b (parts_between c (q ++ c ∷ t))) e
          ∙ ap (λ (l : List (List ℕ)). [] ∷ l) (parts-push c q t p)
          ∙ ap (λ (l : List (List ℕ)). l ++ t ∷ []) (sym (cond-true (eqb b c) ([] ∷ parts_between c q) (with_first b (parts_between c q)) e))
      | inr f ↦
          cond-false (eqb b c) ([] ∷ parts_between c (q ++ c ∷ t)) (with_first b (parts_between c (q ++ c ∷ t))) f
          ∙ ap (with_first b) (parts-push c q t p)
          ∙ with_first-push b (parts_between c q) t (parts-some c q)
          ∙ ap (λ (l : List (List ℕ)). l ++ t ∷ []) (sym (cond-false (eqb b c) ([] ∷ parts_between c q) (with_first b (parts_between c q)) f))
    ]

-- ---- blanks

front-full : (text : List ℕ) → AllFull text → trimmed_front text ≡ text
front-full [] p = refl
front-full (b ∷ text) p = cond-false (is_blank b) _ _ p.0

unless-full : (b : ℕ) (text : List ℕ) → is_blank b ≡ false → unless_blank b text ≡ b ∷ text
unless-full b [] e = cond-false (is_blank b) _ _ e
unless-full b (c ∷ text) e = refl

end-full : (text : List ℕ) → AllFull text → trimmed_end text ≡ text
end-full [] p = refl
end-full (b ∷ text) p = ap (unless_blank b) (end-full text p.1) ∙ unless-full b text p.0

pub trimmed-full : (text : List ℕ) → AllFull text → trimmed text ≡ text
trimmed-full text p = ap trimmed_end (front-full text p) ∙ end-full text p

-- ---- one part more

pub all_of-one : (step : List ℕ → Result (List Interval) GtidFault) (part : List ℕ) (l : List Interval) → step part ≡ Ok l → all_of step (part ∷ []) ≡ Ok l
all_of-one step part l e = ap (λ (r : Result (List Interval) GtidFault). r >>= λ x. all_of step [] >>= λ y. Ok (x ++ y)) e ∙ ap (λ (x : List Interval). Ok x) (append-nil l)

pub all_of-front : (step : List ℕ → Result (List Interval) GtidFault) (part : List ℕ) (parts : List (List ℕ)) (l m : List Interval) → step part ≡ Ok l → all_of step parts ≡ Ok m → all_of step (part ∷ parts) ≡ Ok (l ++ m)
all_of-front step part parts l m e f =
    ap (λ (r : Result (List Interval) GtidFault). r >>= λ x. all_of step parts >>= λ y. Ok (x ++ y)) e
    ∙ ap (λ (r : Result (List Interval) GtidFault). r >>= λ y. Ok (l ++ y)) f

pub all_of-push : (step : List ℕ → Result (List Interval) GtidFault) (parts : List (List ℕ)) (part : List ℕ) (l m : List Interval) → all_of step parts ≡ Ok l → step part ≡ Ok m → all_of step (parts ++ part ∷ []) ≡ Ok (l ++ m)
all_of-push step [] part l m e f = subst (λ (x : List Interval). all_of step (part ∷ []) ≡ Ok (x ++ m)) (ok_is [] l e) (all_of-one step part m f)
all_of-push step (p ∷ parts) part l m e f =
    let a = bind_ok (step p) (λ x. all_of step parts >>= λ y. Ok (x ++ y)) l e in
    let b = bind_ok (all_of step parts) (λ y. Ok (a.0 ++ y)) l a.2 in
    all_of-front step p (parts ++ part ∷ []) a.0 (b.0 ++ m) a.1 (all_of-push step parts part b.0 m b.1 f)
    ∙ ap (λ (x : List Interval). Ok x) (sym (append_assoc a.0 b.0 m) ∙ ap (λ (x : List Interval). x ++ m) (ok_is (a.0 ++ b.0) l b.2))
