-- The keys that two lists of rising entries both have, one after another.
use Rattle.std.proofs.Common.{◌≡◌, ℕ, ◌<◌, cond, List, [], ◌∷◌, length, drop, Option, Some, Ordering, refl, sym, ap, ◌∙◌, arith}
use Rattle.std.proofs.lemmas.Cmp.{tied_itself}
use Rattle.std.specs.declared.cmp.Ordering.TheVariants.{Less, Equal, Greater}
use Rattle.std.specs.Cmp.{IsTotalOrder}
use Rattle.std.specs.Ordering.{ordering_reverse, is_eq}
use Rattle.list_laws.proofs.Fronts.{each}
use Rattle.target_tables.specs.Contents.{value_at}
use Rattle.target_tables.specs.Common.{with_other, common}
use Rattle.target_tables.specs.Kept.{IsFront}
use Rattle.target_tables.specs.Rising.{IsRising, AreAbove}
use Rattle.target_tables.proofs.Values.{none_above}

pub rest_rises : {K R : Type 0} (cmp : K → K → Ordering) (es : List (K × (ℕ × R))) → IsRising cmp es → IsRising cmp (drop 1 es)
rest_rises cmp [] h = tt
rest_rises cmp (e ∷ es) h = h.1

pub rest_shorter : {K R : Type 0} (key : K) (s : ℕ) (es : List (K × (ℕ × R))) → IsFront key s es → length (drop 1 es) < length es
rest_shorter key s [] h = absurd h
rest_shorter key s (e ∷ es) h = omega arith

module _ {K R : Type 0} {cmp : K → K → Ordering} (o : IsTotalOrder cmp) where
  -- an entry whose key is less than those of the others is of no account
  passed : (f : K × (ℕ × R)) (others one : List (K × (ℕ × R))) → AreAbove cmp f.0 one → common cmp one (f ∷ others) ≡ common cmp one others
  passed f others [] h = refl
  passed f others (e ∷ one) h =
      let differs : cmp e.0 f.0 ≡ Greater = o.antisymm e.0 f.0 ∙ ap ordering_reverse h.0 in
      ap (λ b. with_other e (cond b (Some f.1) (value_at cmp others e.0)) (common cmp one (f ∷ others))) (ap is_eq differs)
      ∙ ap (λ (later : List (K × (ℕ × ℕ))). with_other e (value_at cmp others e.0) later) (passed f others one h.1)

  above_front : (d : K) (e : K × (ℕ × R)) (rest : List (K × (ℕ × R))) → cmp d e.0 ≡ Less → IsRising cmp (e ∷ rest) → AreAbove cmp d (e ∷ rest)
  above_front d e rest less rising = (less, each (λ later. cmp e.0 later.0 ≡ Less) (λ later. cmp d later.0 ≡ Less) (λ later h. o.trans d e.0 later.0 less h) rest rising.0)

  pub common_less : (one other : List (K × (ℕ × R))) (key also : K) (s t : ℕ) → IsFront key s one → IsFront also t other → cmp key also ≡ Less → IsRising cmp other
      → common cmp (drop 1 one) other ≡ common cmp one other
  common_less [] other key also s t first second less rises = absurd first
  common_less (e ∷ one) [] key also s t first second less rises = absurd second
  common_less (e ∷ one) (f ∷ other) key also s t first second less rises =
      let before : cmp e.0 f.0 ≡ Less = sym (ap (λ k. cmp k also) first.0 ∙ ap (cmp e.0) second.0) ∙ less in
      sym (ap (λ (v : Option (ℕ × R)). with_other e v (common cmp one (f ∷ other))) (none_above o e.0 e.0 (f ∷ other) (tied_itself o e.0) (above_front e.0 f other before rises)))

  pub common_greater : (one other : List (K × (ℕ × R))) (key also : K) (s t : ℕ) → IsFront key s one → IsFront also t other → cmp key also ≡ Greater → IsRising cmp one
      → common cmp one (drop 1 other) ≡ common cmp one other
  common_greater [] other key also s t first second greater rising = absurd first
  common_greater (e ∷ one) [] key also s t first second greater rising = absurd second
  common_greater (e ∷ one) (f ∷ other) key also s t first second greater rising =
      let behind : cmp e.0 f.0 ≡ Greater = sym (ap (λ k. cmp k also) first.0 ∙ ap (cmp e.0) second.0) ∙ greater in
      let before : cmp f.0 e.0 ≡ Less = o.antisymm f.0 e.0 ∙ ap ordering_reverse behind in
      sym (passed f other (e ∷ one) (above_front f.0 e one before rising))

  pub common_equal : (one other : List (K × (ℕ × R))) (key also : K) (s t : ℕ) → IsFront key s one → IsFront also t other → cmp key also ≡ Equal → IsRising cmp one
      → common cmp one other ≡ (key, (s, t)) ∷ common cmp (drop 1 one) (drop 1 other)
  common_equal [] other key also s t first second same rising = absurd first
  common_equal (e ∷ one) [] key also s t first second same rising = absurd second
  common_equal (e ∷ one) (f ∷ other) key also s t first second same rising =
      let tie : cmp e.0 f.0 ≡ Equal = sym (ap (λ k. cmp k also) first.0 ∙ ap (cmp e.0) second.0) ∙ same in
      let above : AreAbove cmp f.0 one = each (λ later. cmp e.0 later.0 ≡ Less) (λ later. cmp f.0 later.0 ≡ Less) (λ later h. sym (o.congr e.0 f.0 later.0 tie) ∙ h) one rising.0 in
      ap (λ b. with_other e (cond b (Some f.1) (value_at cmp other e.0)) (common cmp one (f ∷ other))) (ap is_eq tie)
      ∙ ap (λ (later : List (K × (ℕ × ℕ))). (e.0, (e.1.0, f.1.0)) ∷ later) (passed f other one above)
      ∙ ap (λ (k : K). (k, (e.1.0, f.1.0)) ∷ common cmp one other) (sym first.0)
      ∙ ap (λ (n : ℕ). (key, (n, f.1.0)) ∷ common cmp one other) (sym second_stream_first)
      ∙ ap (λ (n : ℕ). (key, (s, n)) ∷ common cmp one other) (sym second.1)
    where
      second_stream_first : s ≡ e.1.0
      second_stream_first = first.1

  -- nothing is left of the one or the other
  pub common_end : (one : List (K × (ℕ × R))) → common cmp one [] ≡ []
  common_end [] = refl
  common_end (e ∷ one) = common_end one
