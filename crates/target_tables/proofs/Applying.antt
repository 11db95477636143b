-- What touches leave, by the touch of a key that comes last.
use Rattle.std.proofs.Common.{◌≡◌, ℕ, true, cond, List, [], ◌∷◌, ◌++◌, Option, Some, None, Ordering, refl, sym, ap, ◌∙◌}
use Rattle.std.specs.Option.{option_or}
use Rattle.std.specs.Ordering.{is_eq, eq_by_cmp}
use Rattle.target_tables.specs.Contents.{value_at}
use Rattle.target_tables.specs.Touches.{last_at, touched, owner_in_the_way, IsTouched, NoneInTheWay, IsUntouched, ComesLast}

module _ {K R : Type 0} (cmp : K → K → Ordering) where
  pub last_at-untouched : (touches : List (K × Option R)) (k : K) → IsUntouched cmp touches k → last_at cmp touches k ≡ None
  last_at-untouched [] k h = refl
  last_at-untouched (t ∷ touches) k h =
      ap (λ b. option_or (last_at cmp touches k) (cond b (Some t.1) None)) h.0
      ∙ ap (λ (v : Option (Option R)). option_or v None) (last_at-untouched touches k h.1)

  last_at-middle : (before : List (K × Option R)) (t : K × Option R) (later : List (K × Option R)) (k : K) → eq_by_cmp cmp k t.0 ≡ true → IsUntouched cmp later k
      → last_at cmp (before ++ t ∷ later) k ≡ Some t.1
  last_at-middle [] t later k same h =
      ap (λ b. option_or (last_at cmp later k) (cond b (Some t.1) None)) same
      ∙ ap (λ (v : Option (Option R)). option_or v (Some t.1)) (last_at-untouched later k h)
  last_at-middle (u ∷ before) t later k same h =
      ap (λ (v : Option (Option R)). option_or v (cond (eq_by_cmp cmp k u.0) (Some u.1) None)) (last_at-middle before t later k same h)

  pub last_at-last : (touches : List (K × Option R)) (k : K) (row : Option R) → ComesLast cmp touches k row → last_at cmp touches k ≡ Some row
  last_at-last touches k row h =
      ap (λ (ts : List (K × Option R)). last_at cmp ts k) h.parts
      ∙ last_at-middle h.before (h.key, row) h.later k (ap is_eq h.same) h.untouched

  -- the same stream, the same last touches, the same entries before
  module _ (old middle : List (K × (ℕ × R))) (stream s : ℕ) (touch change : K → Option (Option R)) (streams : s ≡ stream) (touches : (k : K) → change k ≡ touch k) (entries : middle ≡ old) where
    pub as_touched : (new : List (K × (ℕ × R))) → IsTouched cmp middle s change new → IsTouched cmp old stream touch new
    as_touched new h k =
        h k
        ∙ ap (λ n. touched n (change k) (value_at cmp middle k)) streams
        ∙ ap (λ (v : Option (Option R)). touched stream v (value_at cmp middle k)) (touches k)
        ∙ ap (λ (es : List (K × (ℕ × R))). touched stream (touch k) (value_at cmp es k)) entries

    pub as_clear : NoneInTheWay cmp middle s change → NoneInTheWay cmp old stream touch
    as_clear h k =
        sym (ap (λ n. owner_in_the_way n (change k) (value_at cmp middle k)) streams
        ∙ ap (λ (v : Option (Option R)). owner_in_the_way stream v (value_at cmp middle k)) (touches k)
        ∙ ap (λ (es : List (K × (ℕ × R))). owner_in_the_way stream (touch k) (value_at cmp es k)) entries)
        ∙ h k

  -- what touches leave at one key
  pub left_at : (old : List (K × (ℕ × R))) (stream : ℕ) (touches : List (K × Option R)) (new : List (K × (ℕ × R))) → IsTouched cmp old stream (last_at cmp touches) new
      → (k : K) (v : Option (Option R)) → last_at cmp touches k ≡ v → value_at cmp new k ≡ touched stream v (value_at cmp old k)
  left_at old stream touches new h k v is = h k ∙ ap (λ (w : Option (Option R)). touched stream w (value_at cmp old k)) is
