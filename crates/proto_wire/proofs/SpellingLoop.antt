-- Spelling a number byte after byte.
use Rattle.std.proofs.Common.{◌≡◌, ℕ, zero, suc, ◌+◌, ◌-◌, ◌*◌, ◌/◌, ◌%◌, ◌^◌, ◌<◌, ◌≤◌, List, [], ◌∷◌, ◌++◌, length, refl, sym, ap, subst, ◌∙◌, append_assoc, arith}
use Rattle.std.proofs.lemmas.List.{length-append}
use Rattle.proto_wire.specs.Varint.{shortest_within, shortest}
use Rattle.proto_wire.proofs.ShortestLaws.{within-low, within-high, within-zero, fits_less}

-- Some bytes are spelled, and the rest of the number is still to be spelled, in at most `more`
-- continued bytes and one more.
pub record IsSpelled (value : ℕ) (spelled : List ℕ) (more rest : ℕ) : Type 0 where
  pub whole : spelled ++ shortest_within more rest ≡ shortest value
  pub below : rest < 2 * 128 ^ more

pub starts : (value : ℕ) → value < 2 ^ 64 → IsSpelled value [] 9 value
unfolding shortest
starts value lt = record { whole = refl; below = omega arith }

-- a rest that doesn't fit one byte isn't the last
pub goes_on : (value : ℕ) (spelled : List ℕ) (more rest : ℕ) → IsSpelled value spelled more rest → 128 ≤ rest
    → (left : ℕ) × (more ≡ suc left) × IsSpelled value (spelled ++ (rest % 128 + 128) ∷ []) left (rest / 128)
goes_on value spelled zero rest h le = let below : rest < 2 * 128 ^ 0 = h.below in absurd (omega arith)
goes_on value spelled (suc left) rest h le =
    let one : spelled ++ shortest_within (suc left) rest ≡ spelled ++ ((rest % 128 + 128) ∷ shortest_within left (rest / 128)) = ap (λ (w : List ℕ). spelled ++ w) (within-high left rest le) in (
      left,
      refl,
      record {
        whole = append_assoc spelled ((rest % 128 + 128) ∷ []) (shortest_within left (rest / 128)) ∙ sym one ∙ h.whole;
        below = fits_less left rest h.below;
      },
    )

-- a rest that fits one byte is the last
pub ends : (value : ℕ) (spelled : List ℕ) (more rest : ℕ) → IsSpelled value spelled more rest → rest < 128 → spelled ++ rest ∷ [] ≡ shortest value
ends value spelled zero rest h lt = ap (λ (w : List ℕ). spelled ++ w) (sym (within-zero rest)) ∙ h.whole
ends value spelled (suc more) rest h lt = ap (λ (w : List ℕ). spelled ++ w) (sym (within-low more rest lt)) ∙ h.whole

-- ---- by the number of bytes so far

pub step : (value : ℕ) (spelled : List ℕ) (last size rest : ℕ) → IsSpelled value spelled (last - size) rest → 128 ≤ rest
    → (size < last) × IsSpelled value (spelled ++ (rest % 128 + 128) ∷ []) (last - (size + 1)) (rest / 128)
step value spelled last size rest h le =
    let next = goes_on value spelled (last - size) rest h le in
    let left : next.0 ≡ last - (size + 1) = omega (arith, next.1) in
    (omega (arith, next.1), subst (λ (n : ℕ). IsSpelled value (spelled ++ (rest % 128 + 128) ∷ []) n (rest / 128)) left next.2)

-- ---- how many bytes there are

-- so many bytes are spelled so far, with the one that comes next
abbrev pub Counts : ℕ → ℕ → ℕ → Type 0
Counts value size rest = (spelled : List ℕ) × (length spelled + 1 ≡ size) × (size ≤ 10) × IsSpelled value spelled (10 - size) rest

pub count_starts : (value : ℕ) → value < 2 ^ 64 → Counts value 1 value
count_starts value lt = ([], refl, omega arith, starts value lt)

pub count_step : (value size rest : ℕ) → Counts value size rest → 128 ≤ rest → Counts value (size + 1) (rest / 128)
count_step value size rest (spelled, count, few, h) le =
    let next = step value spelled 10 size rest h le in
    (spelled ++ (rest % 128 + 128) ∷ [], omega (arith, count, length-append spelled ((rest % 128 + 128) ∷ [])), omega (arith, next.0), next.1)

pub count_ends : (value size rest : ℕ) → Counts value size rest → rest < 128 → (size ≡ length (shortest value)) × (size ≤ 10)
count_ends value size rest (spelled, count, few, h) lt =
    let whole = ends value spelled (10 - size) rest h lt in
    (omega (arith, count, ap length (sym whole), length-append spelled (rest ∷ [])), few)
