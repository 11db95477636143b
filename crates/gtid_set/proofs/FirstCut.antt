-- A cut at the first separator.
use Rattle.std.proofs.Common.{◌≡◌, ℕ, zero, suc, ◌+◌, ◌<◌, Bool, true, false, eqb, refl, arith, add-one, List, [], ◌∷◌, length, slice_index, take, drop, Option, Some, None}
use Rattle.memchr.specs.Find.{is_byte}
use Rattle.gtid_set.specs.Blank.{cut}

-- the byte at a place is the separator
abbrev pub Stands : ℕ → List ℕ → ℕ → Type 0
Stands c text k = is_byte c (slice_index text k) ≡ true

other : (c b : ℕ) (t : Bool) → eqb b c ≡ t → (eqb b c ≡ true → ⊥) → eqb b c ≡ false
other c b true e never = absurd (never e)
other c b false e never = e

step : (c b : ℕ) (text front : List ℕ) (behind : Option (List ℕ)) → (eqb b c ≡ true → ⊥) → cut c text ≡ (front, behind) → cut c (b ∷ text) ≡ (b ∷ front, behind)
step c b text front behind never e = rw (other c b (eqb b c) refl never, e) refl

pub cut-none : (c : ℕ) (text : List ℕ) → ((k : ℕ) → k < length text → Stands c text k → ⊥) → cut c text ≡ (text, None)
cut-none c [] never = refl
cut-none c (b ∷ text) never = step c b text text None (never 0 (omega arith)) (cut-none c text (λ k lt. never (suc k) (omega arith)))

cut-at : (c : ℕ) (text : List ℕ) (k : ℕ) → k < length text → ((j : ℕ) → j < k → Stands c text j → ⊥) → Stands c text k → cut c text ≡ (take k text, Some (drop (suc k) text))
cut-at c [] k lt never is = absurd (omega arith)
cut-at c (b ∷ text) zero lt never is = rw is refl
cut-at c (b ∷ text) (suc k) lt never is =
    step c b text (take k text) (Some (drop (suc k) text)) (never 0 (omega arith)) (cut-at c text k (omega arith) (λ j below. never (suc j) (omega arith)) is)

pub cut-first : (c : ℕ) (text : List ℕ) (k : ℕ) → k < length text → ((j : ℕ) → j < k → Stands c text j → ⊥) → Stands c text k → cut c text ≡ (take k text, Some (drop (k + 1) text))
cut-first c text k lt never is = rw add-one (cut-at c text k lt never is)
