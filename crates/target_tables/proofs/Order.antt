-- What holds of each pair of a list in order, and of its parts.
use Rattle.std.proofs.Common.{◌≡◌, ℕ, ◌+◌, ◌<◌, List, [], ◌∷◌, ◌++◌, length, take, drop, get_or, sym, ap, ◌∙◌, add-one}
use Rattle.std.proofs.lemmas.List.{take-append-drop}
use Rattle.std.specs.List.{AllByRecursion}
use Rattle.list_laws.proofs.Walks.{at_item}
use Rattle.target_tables.specs.Rising.{Ordered}

-- ---- each of a list

module _ {X : Type 0} (P : X → Type 0) where
  pub all_left : (xs ys : List X) → AllByRecursion P (xs ++ ys) → AllByRecursion P xs
  all_left [] ys h = tt
  all_left (x ∷ xs) ys h = (h.0, all_left xs ys h.1)

  pub all_right : (xs ys : List X) → AllByRecursion P (xs ++ ys) → AllByRecursion P ys
  all_right [] ys h = h
  all_right (x ∷ xs) ys h = all_right xs ys h.1

  pub all_join : (xs ys : List X) → AllByRecursion P xs → AllByRecursion P ys → AllByRecursion P (xs ++ ys)
  all_join [] ys h k = k
  all_join (x ∷ xs) ys h k = (h.0, all_join xs ys h.1 k)

pub each_two : {X : Type 0} (P Q S : X → Type 0) → ((x : X) → P x → Q x → S x) → (xs : List X) → AllByRecursion P xs → AllByRecursion Q xs → AllByRecursion S xs
each_two P Q S f [] h k = tt
each_two P Q S f (x ∷ xs) h k = (f x h.0 k.0, each_two P Q S f xs h.1 k.1)

-- the list as what stands before a place, there and behind it
pub split_at : {X : Type 0} (xs : List X) (i : ℕ) (x : X) → i < length xs → x ≡ get_or xs i x → xs ≡ take i xs ++ x ∷ drop (i + 1) xs
split_at {X} xs i x inside is =
    sym (take-append-drop i xs) ∙ ap (λ (rest : List X). take i xs ++ rest) (at_item xs i x inside is)

-- ---- a list in order

module _ {K V : Type 0} (R : K → K → Type 0) where
  pub before_middle : (front : List (K × V)) (x : K × V) (back : List (K × V)) → Ordered R (front ++ x ∷ back) → AllByRecursion (λ e. R e.0 x.0) front
  before_middle [] x back h = tt
  before_middle (e ∷ front) x back h = ((all_right (λ later. R e.0 later.0) front (x ∷ back) h.0).0, before_middle front x back h.1)

  pub behind_middle : (front : List (K × V)) (x : K × V) (back : List (K × V)) → Ordered R (front ++ x ∷ back) → AllByRecursion (λ later. R x.0 later.0) back
  behind_middle [] x back h = h.0
  behind_middle (e ∷ front) x back h = behind_middle front x back h.1

  pub ordered_left : (xs ys : List (K × V)) → Ordered R (xs ++ ys) → Ordered R xs
  ordered_left [] ys h = tt
  ordered_left (e ∷ xs) ys h = (all_left (λ later. R e.0 later.0) xs ys h.0, ordered_left xs ys h.1)

  pub ordered_with : (front : List (K × V)) (x : K × V) (back : List (K × V)) → Ordered R (front ++ back) → AllByRecursion (λ e. R e.0 x.0) front → AllByRecursion (λ later. R x.0 later.0) back
      → Ordered R (front ++ x ∷ back)
  ordered_with [] x back h below above = (above, h)
  ordered_with (e ∷ front) x back h below above = (
    all_join (λ later. R e.0 later.0) front (x ∷ back) (all_left (λ later. R e.0 later.0) front back h.0) (below.0, all_right (λ later. R e.0 later.0) front back h.0),
    ordered_with front x back h.1 below.1 above,
  )

  pub ordered_without : (front : List (K × V)) (x : K × V) (back : List (K × V)) → Ordered R (front ++ x ∷ back) → Ordered R (front ++ back)
  ordered_without [] x back h = h.1
  ordered_without (e ∷ front) x back h = (
    all_join (λ later. R e.0 later.0) front back (all_left (λ later. R e.0 later.0) front (x ∷ back) h.0) (all_right (λ later. R e.0 later.0) front (x ∷ back) h.0).1,
    ordered_without front x back h.1,
  )
