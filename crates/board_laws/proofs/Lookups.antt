-- What stands at the keys of rising rows: of a part of them, and that it says the whole of them.
use Rattle.std.proofs.Common.{◌≡◌, ℕ, zero, suc, Bool, true, false, cond, List, [], ◌∷◌, ◌++◌, Option, Some, None, Ordering, slice_get, refl, sym, ap, subst, ◌∙◌}
use Rattle.std.proofs.lemmas.Bool.{true≢false}
use Rattle.std.proofs.lemmas.Map.{lookup-none}
use Rattle.std.proofs.lemmas.Option.{same_Some, none-some}
use Rattle.std.proofs.lemmas.Cmp.{tied_itself}
use Rattle.std.specs.declared.cmp.Ordering.TheVariants.{Less, Equal, Greater}
use Rattle.std.specs.Cmp.{Equal-is}
use Rattle.std.specs.List.{AllByRecursion, filter}
use Rattle.std.specs.Map.{lookup}
use Rattle.std.specs.Option.{option_or}
use Rattle.std.specs.Ordering.{ordering_reverse, is_eq, is_le, eq_by_cmp}
use Rattle.list_laws.proofs.Fronts.{each}
use Rattle.pk_copy.specs.KeyOrder.{key_cmp}
use Rattle.pk_copy.specs.KeyOrderLaws.{key_cmp_total}
use Rattle.pk_copy.specs.KeyValue.{KeyValue}
use Rattle.target_tables.specs.Rising.{IsRising}

-- keys that the order doesn't tell apart are equal
abbrev pub Ties : Type 0
Ties = (a b : KeyValue) → key_cmp a b ≡ Equal → a ≡ b

abbrev pub is_key : KeyValue → KeyValue → Bool
is_key = eq_by_cmp key_cmp

pub is_itself : (k : KeyValue) → is_key k k ≡ true
is_itself k = ap is_eq (tied_itself key_cmp_total k)

pub same_key : (ties : Ties) (q k : KeyValue) → is_key q k ≡ true → q ≡ k
same_key ties q k e = ties q k ((Equal-is (key_cmp q k)).0 e)

-- ---- lists

pub all_left : {X : Type 0} (P : X → Type 0) (xs ys : List X) → AllByRecursion P (xs ++ ys) → AllByRecursion P xs
all_left P [] ys h = tt
all_left P (x ∷ xs) ys h = (h.0, all_left P xs ys h.1)

pub all_right : {X : Type 0} (P : X → Type 0) (xs ys : List X) → AllByRecursion P (xs ++ ys) → AllByRecursion P ys
all_right P [] ys h = h
all_right P (x ∷ xs) ys h = all_right P xs ys h.1

pub all-at : {X : Type 0} (P : X → Type 0) (xs : List X) (i : ℕ) (x : X) → AllByRecursion P xs → slice_get xs i ≡ Some x → P x
all-at P [] i x h e = absurd (none-some x e)
all-at P (y ∷ xs) zero x h e = subst P (same_Some y x e) h.0
all-at P (y ∷ xs) (suc i) x h e = all-at P xs i x h.1 e

pub all-filter : {X : Type 0} (P : X → Type 0) (p : X → Bool) (xs : List X) → AllByRecursion P xs → AllByRecursion P (filter p xs)
all-filter P p [] h = h
all-filter P p (x ∷ xs) h =
    elim (p x) as (λ b. AllByRecursion P (cond b (x ∷ filter p xs) (filter p xs))) [ true ↦ (h.0, all-filter P p xs h.1) | false ↦ all-filter P p xs h.1 ]

pub filter-passes : {X : Type 0} (p : X → Bool) (xs : List X) → AllByRecursion (λ x. p x ≡ true) (filter p xs)
filter-passes p [] = tt
filter-passes p (x ∷ xs) = by (filter-passes p xs) (p x) refl
  where
    by : AllByRecursion (λ y. p y ≡ true) (filter p xs) → (b : Bool) → p x ≡ b → AllByRecursion (λ y. p y ≡ true) (cond (p x) (x ∷ filter p xs) (filter p xs))
    by rest true e = subst (λ b. AllByRecursion (λ y. p y ≡ true) (cond b (x ∷ filter p xs) (filter p xs))) (sym e) (e, rest)
    by rest false e = subst (λ b. AllByRecursion (λ y. p y ≡ true) (cond b (x ∷ filter p xs) (filter p xs))) (sym e) rest

module _ {V : Type 0} where
  pub rising-filter : (p : KeyValue × V → Bool) (xs : List (KeyValue × V)) → IsRising key_cmp xs → IsRising key_cmp (filter p xs)
  rising-filter p [] h = h
  rising-filter p (x ∷ xs) h =
      elim (p x) as (λ b. IsRising key_cmp (cond b (x ∷ filter p xs) (filter p xs))) [
        | true ↦ (all-filter (λ later. key_cmp x.0 later.0 ≡ Less) p xs h.0, rising-filter p xs h.1)
        | false ↦ rising-filter p xs h.1
      ]

  pub rising-left : (xs ys : List (KeyValue × V)) → IsRising key_cmp (xs ++ ys) → IsRising key_cmp xs
  rising-left [] ys h = tt
  rising-left (x ∷ xs) ys h = (all_left (λ later. key_cmp x.0 later.0 ≡ Less) xs ys h.0, rising-left xs ys h.1)

  pub below_middle : (front : List (KeyValue × V)) (x : KeyValue × V) (back : List (KeyValue × V)) → IsRising key_cmp (front ++ x ∷ back) → AllByRecursion (λ e. key_cmp e.0 x.0 ≡ Less) front
  below_middle [] x back h = tt
  below_middle (e ∷ front) x back h = ((all_right (λ later. key_cmp e.0 later.0 ≡ Less) front (x ∷ back) h.0).0, below_middle front x back h.1)

  pub above_middle : (front : List (KeyValue × V)) (x : KeyValue × V) (back : List (KeyValue × V)) → IsRising key_cmp (front ++ x ∷ back) → AllByRecursion (λ later. key_cmp x.0 later.0 ≡ Less) back
  above_middle [] x back h = h.0
  above_middle (e ∷ front) x back h = above_middle front x back h.1

  -- ---- look-ups

  pub lookup-append : (t : KeyValue → Bool) (xs ys : List (KeyValue × V)) → lookup t (xs ++ ys) ≡ option_or (lookup t xs) (lookup t ys)
  lookup-append t [] ys = refl
  lookup-append t (x ∷ xs) ys =
      elim (t x.0) as (λ b. cond b (Some x.1) (lookup t (xs ++ ys)) ≡ option_or (cond b (Some x.1) (lookup t xs)) (lookup t ys)) [ true ↦ refl | false ↦ lookup-append t xs ys ]

  or_none : (v : Option V) → option_or v None ≡ v
  or_none None = refl
  or_none (Some x) = refl

  tested : (b c pq : Bool) (rest all : Option V) (v : V) → (b ≡ true → pq ≡ c) → rest ≡ cond pq all None → cond c (cond b (Some v) rest) rest ≡ cond pq (cond b (Some v) all) None
  tested true true pq rest all v h m = sym (ap (λ b. cond b (Some v) None) (h refl))
  tested true false pq rest all v h m = m ∙ ap (λ b. cond b all None) (h refl) ∙ sym (ap (λ b. cond b (Some v) None) (h refl))
  tested false true pq rest all v h m = m
  tested false false pq rest all v h m = m

  lookup-cond : (t : KeyValue → Bool) (c : Bool) (xs ys : List (KeyValue × V)) → lookup t (cond c xs ys) ≡ cond c (lookup t xs) (lookup t ys)
  lookup-cond t true xs ys = refl
  lookup-cond t false xs ys = refl

  -- rows whose keys pass a test
  pub lookup-filter : (ties : Ties) (p : KeyValue → Bool) (xs : List (KeyValue × V)) (q : KeyValue) → lookup (is_key q) (filter (λ x. p x.0) xs) ≡ cond (p q) (lookup (is_key q) xs) None
  lookup-filter ties p [] q = elim (p q) as (λ b. ◌≡◌ {A = Option V} None (cond b None None)) [ true ↦ refl | false ↦ refl ]
  lookup-filter ties p (x ∷ xs) q =
      let rest : List (KeyValue × V) = filter (λ y. p y.0) xs in
      lookup-cond (is_key q) (p x.0) (x ∷ rest) rest
      ∙ tested (is_key q x.0) (p x.0) (p q) (lookup (is_key q) rest) (lookup (is_key q) xs) x.1 (λ e. ap p (same_key ties q x.0 e)) (lookup-filter ties p xs q)

  -- no row has the key
  none_is : (q : KeyValue) (xs : List (KeyValue × V)) → AllByRecursion (λ x. is_key q x.0 ≡ false) xs → lookup (is_key q) xs ≡ None
  none_is q xs h = lookup-none (is_key q) xs h

  pub none_above : (q k : KeyValue) (xs : List (KeyValue × V)) → is_le (key_cmp q k) ≡ true → AllByRecursion (λ x. key_cmp k x.0 ≡ Less) xs → lookup (is_key q) xs ≡ None
  none_above q k xs le above = none_is q xs (each (λ x. key_cmp k x.0 ≡ Less) (λ x. is_key q x.0 ≡ false) (λ x less. by x less (key_cmp q k) refl le) xs above)
    where
      by : (x : KeyValue × V) → key_cmp k x.0 ≡ Less → (r : Ordering) → key_cmp q k ≡ r → is_le (key_cmp q k) ≡ true → is_key q x.0 ≡ false
      by x less Less e le = ap is_eq (key_cmp_total.trans q k x.0 e less)
      by x less Equal e le = ap is_eq (key_cmp_total.congr q k x.0 e ∙ less)
      by x less Greater e le = absurd (true≢false (sym le ∙ ap is_le e))

  pub none_below : (q k : KeyValue) (xs : List (KeyValue × V)) → key_cmp k q ≡ Less → AllByRecursion (λ x. key_cmp x.0 k ≡ Less) xs → lookup (is_key q) xs ≡ None
  none_below q k xs greater below =
      none_is q xs (each (λ x. key_cmp x.0 k ≡ Less) (λ x. is_key q x.0 ≡ false)
      (λ x less. ap is_eq (key_cmp_total.antisymm q x.0 ∙ ap ordering_reverse (key_cmp_total.trans x.0 k q less greater))) xs below)

  -- the rows up to one of rising rows: those of the whole up to its key
  pub lookup-front : (front : List (KeyValue × V)) (x : KeyValue × V) (back : List (KeyValue × V)) → IsRising key_cmp (front ++ x ∷ back) → (q : KeyValue)
      → lookup (is_key q) (front ++ x ∷ []) ≡ cond (is_le (key_cmp q x.0)) (lookup (is_key q) (front ++ x ∷ back)) None
  lookup-front front x back rising q = by (key_cmp q x.0) refl
    where
      whole : Option V
      whole = lookup (is_key q) (front ++ x ∷ back)

      front_of : List (KeyValue × V) → Option V
      front_of rest = option_or (lookup (is_key q) front) (lookup (is_key q) rest)

      up_to : is_le (key_cmp q x.0) ≡ true → lookup (is_key q) (front ++ x ∷ []) ≡ lookup (is_key q) (front ++ x ∷ back)
      up_to le =
          lookup-append (is_key q) front (x ∷ [])
          ∙ ap (λ (v : Option V). option_or (lookup (is_key q) front) (cond (is_key q x.0) (Some x.1) v)) (sym (none_above q x.0 back le (above_middle front x back rising)))
          ∙ sym (lookup-append (is_key q) front (x ∷ back))

      by : (r : Ordering) → key_cmp q x.0 ≡ r → lookup (is_key q) (front ++ x ∷ []) ≡ cond (is_le (key_cmp q x.0)) (lookup (is_key q) (front ++ x ∷ back)) None
      by Less e = up_to (ap is_le e) ∙ sym (ap (λ r. cond (is_le r) (lookup (is_key q) (front ++ x ∷ back)) None) e)
      by Equal e = up_to (ap is_le e) ∙ sym (ap (λ r. cond (is_le r) (lookup (is_key q) (front ++ x ∷ back)) None) e)
      by Greater e =
          lookup-append (is_key q) front (x ∷ [])
          ∙ ap (λ (v : Option V). option_or v (lookup (is_key q) (x ∷ []))) (none_below q x.0 front (key_cmp_total.antisymm x.0 q ∙ ap ordering_reverse e) (below_middle front x back rising))
          ∙ ap (λ r. cond (is_eq r) (Some x.1) None) e
          ∙ sym (ap (λ r. cond (is_le r) (lookup (is_key q) (front ++ x ∷ back)) None) e)

  -- ---- rows that say the same at every key

  -- behind a first row with the same key the same stands at every key
  tails : (x y : KeyValue × V) (xs ys : List (KeyValue × V)) → x.0 ≡ y.0 → AllByRecursion (λ later. key_cmp x.0 later.0 ≡ Less) xs → AllByRecursion (λ later. key_cmp y.0 later.0 ≡ Less) ys
      → ((q : KeyValue) → lookup (is_key q) (x ∷ xs) ≡ lookup (is_key q) (y ∷ ys)) → (q : KeyValue) → lookup (is_key q) xs ≡ lookup (is_key q) ys
  tails x y xs ys key above_x above_y h q = by (is_key q x.0) refl
    where
      at_y : is_key q x.0 ≡ is_key q y.0
      at_y = ap (is_key q) key

      le_of : (k : KeyValue) → is_key q k ≡ true → is_le (key_cmp q k) ≡ true
      le_of k e = ap is_le ((Equal-is (key_cmp q k)).0 e)

      by : (b : Bool) → is_key q x.0 ≡ b → lookup (is_key q) xs ≡ lookup (is_key q) ys
      by true e = none_above q x.0 xs (le_of x.0 e) above_x ∙ sym (none_above q y.0 ys (le_of y.0 (sym at_y ∙ e)) above_y)
      by false e =
          sym (ap (λ b. cond b (Some x.1) (lookup (is_key q) xs)) e) ∙ h q ∙ ap (λ b. cond b (Some y.1) (lookup (is_key q) ys)) (sym at_y ∙ e)

  first_is : (x : KeyValue × V) (xs : List (KeyValue × V)) → lookup (is_key x.0) (x ∷ xs) ≡ Some x.1
  first_is x xs = ap (λ b. cond b (Some x.1) (lookup (is_key x.0) xs)) (is_itself x.0)

  -- a key that is less than the first of rising rows has none
  none_before : (k : KeyValue) (y : KeyValue × V) (ys : List (KeyValue × V)) → key_cmp k y.0 ≡ Less → IsRising key_cmp (y ∷ ys) → lookup (is_key k) (y ∷ ys) ≡ None
  none_before k y ys less rising =
      ap (λ r. cond (is_eq r) (Some y.1) (lookup (is_key k) ys)) less ∙ none_above k y.0 ys (ap is_le less) rising.0

  -- rising rows that say the same at every key are the same
  pub same_rows : (ties : Ties) (xs ys : List (KeyValue × V)) → IsRising key_cmp xs → IsRising key_cmp ys → ((q : KeyValue) → lookup (is_key q) xs ≡ lookup (is_key q) ys) → xs ≡ ys
  same_rows ties [] [] rx ry h = refl
  same_rows ties [] (y ∷ ys) rx ry h = let e : None ≡ Some y.1 = h y.0 ∙ first_is y ys in cc
  same_rows ties (x ∷ xs) [] rx ry h = let e : Some x.1 ≡ None = sym (first_is x xs) ∙ h x.0 in cc
  same_rows ties (x ∷ xs) (y ∷ ys) rx ry h = by (λ key. same_rows ties xs ys rx.1 ry.1 (tails x y xs ys key rx.0 ry.0 h)) (key_cmp x.0 y.0) refl
    where
      by : (x.0 ≡ y.0 → xs ≡ ys) → (r : Ordering) → key_cmp x.0 y.0 ≡ r → x ∷ xs ≡ y ∷ ys
      by rest Less e = let clash : Some x.1 ≡ None = sym (first_is x xs) ∙ h x.0 ∙ none_before x.0 y ys e ry in cc
      by rest Equal e =
          let key : x.0 ≡ y.0 = ties x.0 y.0 e in
          let value : Some x.1 ≡ Some y.1 = sym (first_is x xs) ∙ h x.0 ∙ ap (λ k. lookup (is_key k) (y ∷ ys)) key ∙ first_is y ys in
          let row : x ≡ y = ap (λ (k : KeyValue). (k, x.1)) key ∙ ap (λ (v : V). (y.0, v)) (same_Some x.1 y.1 value) in
          ap (λ (r : KeyValue × V). r ∷ xs) row ∙ ap (λ (rs : List (KeyValue × V)). y ∷ rs) (rest key)
      by rest Greater e =
          let back : key_cmp y.0 x.0 ≡ Less = key_cmp_total.antisymm y.0 x.0 ∙ ap ordering_reverse e in
          let clash : None ≡ Some y.1 = sym (none_before y.0 x xs back rx) ∙ h y.0 ∙ first_is y ys in
          cc
