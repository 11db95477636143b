-- Touches that rise, turned round.
use Rattle.std.proofs.Common.{◌≡◌, ℕ, ◌+◌, ◌-◌, ◌<◌, true, List, [], ◌∷◌, ◌++◌, Option, Some, None, cond, Ordering, length, take, get_or, reverse, refl, sym, ap, subst, ◌∙◌, append-nil, arith}
use mathlib.Core.Bool.{true≢false}
use Rattle.std.proofs.lemmas.List.{take_more, reverse-append}
use Rattle.std.specs.declared.cmp.Ordering.TheVariants.{Less, Equal, Greater}
use Rattle.std.specs.Cmp.{IsTotalOrder}
use Rattle.std.specs.List.{AllByRecursion}
use Rattle.std.specs.Option.{option_or}
use Rattle.std.specs.Ordering.{is_lt, eq_by_cmp, flip_args}
use Rattle.list_laws.proofs.Fronts.{each}
use Rattle.target_tables.specs.Rising.{IsRising, AreBelow}
use Rattle.target_tables.specs.Touches.{last_at, change_at}
use Rattle.target_tables.proofs.Committing.{taken_apart}
use Rattle.target_tables.proofs.Order.{all_join, before_middle, ordered_with}
use Rattle.target_tables.proofs.Values.{lookup-append}

pub only_less : (r : Ordering) → is_lt r ≡ true → r ≡ Less
only_less Less e = refl
only_less Equal e = absurd (true≢false (sym e))
only_less Greater e = absurd (true≢false (sym e))

module _ {K V : Type 0} {cmp : K → K → Ordering} (o : IsTotalOrder cmp) where
  -- a greater key behind the last of the first n
  pub rises_more : (xs : List (K × V)) (n : ℕ) (a x : K × V) → 0 < n → n < length xs → a ≡ get_or xs (n - 1) a → x ≡ get_or xs n x → IsRising cmp (take n xs) → cmp a.0 x.0 ≡ Less → IsRising cmp (take (n + 1) xs)
  rises_more xs n a x some inside a_is x_is rising less =
      let parts : take n xs ≡ take (n - 1) xs ++ a ∷ [] = taken_apart xs n a some (omega arith) a_is in
      let next : take (n + 1) xs ≡ take n xs ++ x ∷ [] = take_more xs n x inside ∙ ap (λ (y : K × V). take n xs ++ y ∷ []) (sym x_is) in
      let front : AreBelow cmp a.0 (take (n - 1) xs) = before_middle (λ b c. cmp b c ≡ Less) (take (n - 1) xs) a [] (subst (IsRising cmp) parts rising) in
      let lesser : AreBelow cmp x.0 (take (n - 1) xs) = each (λ e. cmp e.0 a.0 ≡ Less) (λ e. cmp e.0 x.0 ≡ Less) (λ e l. o.trans e.0 a.0 x.0 l less) (take (n - 1) xs) front in
      let Q : List (K × V) → Type 0 = AreBelow cmp x.0 in
      let below : AreBelow cmp x.0 (take n xs) = subst Q (sym parts) (all_join (λ e. cmp e.0 x.0 ≡ Less) (take (n - 1) xs) (a ∷ []) lesser (less, tt)) in
      subst (IsRising cmp) (sym next) (ordered_with (λ b c. cmp b c ≡ Less) (take n xs) x [] (rw append-nil rising) below tt)

all_turned : {X : Type 0} (P : X → Type 0) (xs : List X) → AllByRecursion P xs → AllByRecursion P (reverse xs)
all_turned P [] h = tt
all_turned {X} P (x ∷ xs) h =
    let Q : List X → Type 0 = AllByRecursion P in
    subst Q (sym (reverse-append (x ∷ []) xs)) (all_join P (reverse xs) (x ∷ []) (all_turned P xs h.1) (h.0, tt))

module _ {K V : Type 0} (cmp : K → K → Ordering) where
  -- rising keys fall
  pub falls_turned : (xs : List (K × V)) → IsRising cmp xs → IsRising (flip_args cmp) (reverse xs)
  falls_turned [] h = tt
  falls_turned (x ∷ xs) h =
      let Q : List (K × V) → Type 0 = IsRising (flip_args cmp) in
      let later : IsRising (flip_args cmp) (reverse xs) = falls_turned xs h.1 in
      subst Q (sym (reverse-append (x ∷ []) xs))
      (ordered_with (λ a b. flip_args cmp a b ≡ Less) (reverse xs) x [] (rw append-nil later) (all_turned (λ e. cmp x.0 e.0 ≡ Less) xs h.0) tt)

-- the first touch of a key that is met from the end is its last one
pub last_turned : {K R : Type 0} (cmp : K → K → Ordering) (xs : List (K × Option R)) (k : K) → change_at cmp (reverse xs) k ≡ last_at cmp xs k
last_turned cmp [] k = refl
last_turned {K} {R} cmp (x ∷ xs) k =
    ap (λ (l : List (K × Option R)). change_at cmp l k) (reverse-append (x ∷ []) xs)
    ∙ lookup-append (eq_by_cmp cmp k) (reverse xs) (x ∷ [])
    ∙ ap (λ (v : Option (Option R)). option_or v (cond (eq_by_cmp cmp k x.0) (Some x.1) None)) (last_turned cmp xs k)
