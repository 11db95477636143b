-- From a base on a history stays what it was.
use Rattle.std.proofs.Common.{◌≡◌, ℕ, zero, suc, ◌+◌, ◌-◌, ◌<◌, List, [], ◌∷◌, ◌++◌, map, take, drop, Option, Some, None, option_map, option_and_then, slice_get, refl, sym, ap, ◌∙◌, arith}
use Rattle.std.proofs.lemmas.List.{append-nil}
use Rattle.std.proofs.lemmas.List.Concat.{flat_map-append}
use Rattle.std.proofs.lemmas.Option.{same_Some, none-some}
use Rattle.std.specs.Option.{option_or}
use Rattle.pk_copy.specs.KeyOrder.{key_cmp}
use Rattle.pk_copy.specs.KeyValue.{KeyValue}
use Rattle.target_tables.specs.Touches.{last_at}
use Rattle.source_feed.specs.GroupValue.{Position}
use Rattle.source_feed.specs.History.{touches_in, row_at, passing, passed_at, kept_of}
use Rattle.source_feed.specs.Touches.{PutValue, TouchValue, PreparedValue}
use Rattle.source_feed.proofs.ImageLaws.{last_at-append}
use Rattle.compaction_laws.specs.Compacted.{lowered, compacted, IsBaseOf, StaysFrom}

-- ---- lists

-- a front of a list is a shorter one and what of it stands behind
take-none : {A : Type 0} (n : ℕ) (none : List A) → none ≡ [] → take n none ≡ []
take-none zero none e = refl
take-none (suc n) none e = ap (take (suc n)) e

take-parts : {A : Type 0} (n k : ℕ) (xs : List A) → take (n + k) xs ≡ take n xs ++ take k (drop n xs)
take-parts {A} zero k xs = let same : zero + k ≡ k = omega arith in ap (λ m. take m xs) same
take-parts (suc n) k [] = take-none (suc n + k) [] refl ∙ sym (take-none k [] refl)
take-parts {A} (suc n) k (x ∷ xs) =
    let next : suc n + k ≡ suc (n + k) = omega arith in
    ap (λ m. take m (x ∷ xs)) next ∙ ap (λ (ys : List A). x ∷ ys) (take-parts n k xs)

-- from an element on
pub drop-at : {A : Type 0} (n : ℕ) (xs : List A) (x : A) → slice_get xs n ≡ Some x → drop n xs ≡ x ∷ drop (n + 1) xs
drop-at n [] x e = absurd (none-some x e)
drop-at {A} zero (y ∷ xs) x e = ap (λ (z : A). z ∷ xs) (same_Some y x e)
drop-at {A} (suc n) (y ∷ xs) x e =
    let next : suc n + 1 ≡ suc (n + 1) = omega arith in
    drop-at n xs x e ∙ ap (λ (m : ℕ). x ∷ drop m (y ∷ xs)) (sym next)

-- ---- touches

-- numbers don't touch
touches-lowered : (fewer k : ℕ) (groups : List PreparedValue) → touches_in (take k (map (lowered fewer) groups)) ≡ touches_in (take k groups)
touches-lowered fewer zero groups = refl
touches-lowered fewer (suc k) [] = refl
touches-lowered fewer (suc k) (g ∷ groups) = ap (λ (ts : List TouchValue). g.touches ++ ts) (touches-lowered fewer k groups)

-- what stands behind touches, by what stood before them
abbrev behind : Option (Option PutValue) → Option PutValue → Option PutValue
behind None before = before
behind (Some left) before = left

or_behind : (later earlier : Option (Option PutValue)) → option_and_then (λ put. put) (option_or later earlier) ≡ behind later (option_and_then (λ put. put) earlier)
or_behind None earlier = refl
or_behind (Some left) earlier = refl

row-behind : (a b : List TouchValue) (key : KeyValue) → option_and_then (λ put. put) (last_at key_cmp (a ++ b) key) ≡ behind (last_at key_cmp b key) (option_and_then (λ put. put) (last_at key_cmp a key))
row-behind a b key =
    ap (option_and_then (λ put. put)) (last_at-append a b key) ∙ or_behind (last_at key_cmp b key) (last_at key_cmp a key)

-- ---- a base

module _ (history : List PreparedValue) (fewer : ℕ) (base : PreparedValue) (is : IsBaseOf history fewer base) where
  -- the first groups from the base on
  touches_old : (k : ℕ) → touches_in (take ((fewer + 1) + k) history) ≡ touches_in (take (fewer + 1) history) ++ touches_in (take k (drop (fewer + 1) history))
  touches_old k =
      ap touches_in (take-parts (fewer + 1) k history) ∙ flat_map-append (λ (group : PreparedValue). group.touches) (take (fewer + 1) history) (take k (drop (fewer + 1) history))

  touches_new : (k : ℕ) → touches_in (take (suc k) (compacted history fewer base)) ≡ base.touches ++ touches_in (take k (drop (fewer + 1) history))
  touches_new k = ap (λ (ts : List TouchValue). base.touches ++ ts) (touches-lowered fewer k (drop (fewer + 1) history))

  base_row : (key : KeyValue) → option_and_then (λ put. put) (last_at key_cmp base.touches key) ≡ row_at history (fewer + 1) key
  base_row key = ap (λ (ts : List TouchValue). option_and_then (λ put. put) (last_at key_cmp ts key)) (sym (append-nil base.touches)) ∙ is.leaves key

  same_behind : (k : ℕ) (key : KeyValue) → row_at (compacted history fewer base) (suc k) key ≡ row_at history ((fewer + 1) + k) key
  same_behind k key =
      let more : List TouchValue = touches_in (take k (drop (fewer + 1) history)) in
      let row_of : List TouchValue → Option PutValue = λ ts. option_and_then (λ put. put) (last_at key_cmp ts key) in
      ap row_of (touches_new k)
      ∙ row-behind base.touches more key
      ∙ ap (behind (last_at key_cmp more key)) (base_row key)
      ∙ sym (row-behind (touches_in (take (fewer + 1) history)) more key)
      ∙ sym (ap row_of (touches_old k))

  same_row : (n : ℕ) (key : KeyValue) → fewer < n → row_at (compacted history fewer base) (n - fewer) key ≡ row_at history n key
  same_row n key less =
      let new : n - fewer ≡ suc (n - (fewer + 1)) = omega (arith, less) in
      let old : (fewer + 1) + (n - (fewer + 1)) ≡ n = omega (arith, less) in
      ap (λ (m : ℕ). row_at (compacted history fewer base) m key) new ∙ same_behind (n - (fewer + 1)) key ∙ ap (λ (m : ℕ). row_at history m key) old

  same_passed : (n : ℕ) (key : KeyValue) → fewer < n → passed_at (compacted history fewer base) (n - fewer) key ≡ passed_at history n key
  same_passed n key less = ap (option_and_then passing) (same_row n key less)

  positions-lowered : (groups : List PreparedValue) → map (λ (group : PreparedValue). group.position) (map (lowered fewer) groups) ≡ map (λ (group : PreparedValue). group.position) groups
  positions-lowered [] = refl
  positions-lowered (g ∷ groups) = ap (λ (ps : List Position). g.position ∷ ps) (positions-lowered groups)

  same_positions : map (λ (group : PreparedValue). group.position) (compacted history fewer base) ≡ map (λ (group : PreparedValue). group.position) (drop fewer history)
  same_positions =
      ap (λ (ps : List Position). base.position ∷ ps) (positions-lowered (drop (fewer + 1) history))
      ∙ ap (λ (p : Position). p ∷ map (λ (group : PreparedValue). group.position) (drop (fewer + 1) history)) is.position
      ∙ ap (map (λ (group : PreparedValue). group.position)) (sym (drop-at fewer history is.last is.there))

  pub stays_from : StaysFrom history fewer base
  stays_from = record {
    rows = same_row;
    passed = same_passed;
    kept = λ plan n key less. ap (option_map (kept_of plan key)) (same_passed n key less);
    are_passed = λ n rows less. (
      λ p. record { rising = p.rising; each_key = λ key. p.each_key key ∙ same_passed n key less },
      λ p. record { rising = p.rising; each_key = λ key. p.each_key key ∙ sym (same_passed n key less) },
    );
    positions = same_positions;
  }
