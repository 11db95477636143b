-- Steps that gave a value, and lists that were read item by item.
use Rattle.std.proofs.Common.{◌≡◌, ℕ, zero, suc, List, [], ◌∷◌, length, Bool, true, false, cond, Option, Some, None, Result, Ok, Err, refl, sym, ap, subst, ◌∙◌}
use Rattle.std.specs.Prelude.{slice_get, find}
use Rattle.std.specs.List.{list_all}
use Rattle.std.specs.Option.{ok_or}
use Rattle.std.proofs.lemmas.Bool.{and_parts}
use Rattle.std.proofs.lemmas.Option.{same_Some}
use Rattle.list_laws.specs.Outcome.{◌>>=◌, each}
use Rattle.filter_rule.specs.Faults.{Fault}

-- the parts of a step that gave a value
pub then_ok : {A B P : Type 0} (f : A → Result B Fault) (r : Result A Fault) (y : B) → (r >>= f) ≡ Ok y → ((x : A) → r ≡ Ok x → f x ≡ Ok y → P) → P
then_ok f (Ok x) y h k = k x refl h
then_ok f (Err e) y h k = cc

abbrev pub read_as : {A : Type 0} → A → Result A Fault
read_as x = Ok x

pub same_ok : {A : Type 0} (x y : A) → read_as x ≡ Ok y → x ≡ y
same_ok x y e = cc

pub some_from_ok : {A : Type 0} (o : Option A) (fault : Fault) (x : A) → ok_or o fault ≡ Ok x → o ≡ Some x
some_from_ok None fault x h = cc
some_from_ok (Some y) fault x h = cc

-- ---- lists

pub each_length : {A B : Type 0} (f : A → Result B Fault) (xs : List A) (ys : List B) → each f xs ≡ Ok ys → length ys ≡ length xs
each_length f [] ys h = ap length (sym (same_ok [] ys h))
each_length f (x ∷ xs) ys h =
    then_ok _ (f x) ys h (λ y y_is h2. then_ok _ (each f xs) ys h2 (λ rest rest_is h3.
    ap length (sym (same_ok (y ∷ rest) ys h3)) ∙ ap suc (each_length f xs rest rest_is)))

-- what an item was read from
pub record ReadFrom {A B : Type 0} (f : A → Result B Fault) (xs : List A) (i : ℕ) (y : B) : Type 0 where
  pub item : A
  pub stands : slice_get xs i ≡ Some item
  pub gives : f item ≡ Ok y

read_from_parts : {A B : Type 0} (f : A → Result B Fault) (x : A) (xs : List A) (z : B) (rest : List B) (i : ℕ) (y : B) → f x ≡ Ok z
    → ((j : ℕ) (w : B) → slice_get rest j ≡ Some w → ReadFrom f xs j w) → slice_get (z ∷ rest) i ≡ Some y → ReadFrom f (x ∷ xs) i y
read_from_parts f x xs z rest zero y z_is more is = record { item = x; stands = refl; gives = z_is ∙ ap Ok (same_Some z y is) }
read_from_parts f x xs z rest (suc i) y z_is more is =
    let there = more i y is in record { item = there.item; stands = there.stands; gives = there.gives }

pub each_at : {A B : Type 0} (f : A → Result B Fault) (xs : List A) (ys : List B) → each f xs ≡ Ok ys → (i : ℕ) (y : B) → slice_get ys i ≡ Some y → ReadFrom f xs i y
each_at f [] ys h i y is = let none : slice_get [] i ≡ Some y = ap (λ zs. slice_get zs i) (same_ok [] ys h) ∙ is in cc
each_at f (x ∷ xs) ys h i y is =
    then_ok _ (f x) ys h (λ z z_is h2. then_ok _ (each f xs) ys h2 (λ rest rest_is h3.
    read_from_parts f x xs z rest i y z_is (each_at f xs rest rest_is) (ap (λ zs. slice_get zs i) (same_ok (z ∷ rest) ys h3) ∙ is)))

pub list_all_get : {A : Type 0} (p : A → Bool) (xs : List A) (i : ℕ) (x : A) → list_all p xs ≡ true → slice_get xs i ≡ Some x → p x ≡ true
list_all_get p [] i x all is = cc
list_all_get p (y ∷ ys) zero x all is = subst (λ z. p z ≡ true) (same_Some y x is) (and_parts (p y) (list_all p ys) all).0
list_all_get p (y ∷ ys) (suc i) x all is = list_all_get p ys i x (and_parts (p y) (list_all p ys) all).1 is

none_first : {A : Type 0} (b : Bool) (y : A) (rest : Option A) → cond b (Some y) rest ≡ None → (b ≡ false) × (rest ≡ None)
none_first true y rest h = cc
none_first false y rest h = (refl, h)

pub find_none : {A : Type 0} (p : A → Bool) (xs : List A) (i : ℕ) (x : A) → find p xs ≡ None → slice_get xs i ≡ Some x → p x ≡ false
find_none p [] i x h is = cc
find_none p (y ∷ ys) zero x h is = subst (λ z. p z ≡ false) (same_Some y x is) (none_first (p y) y (find p ys) h).0
find_none p (y ∷ ys) (suc i) x h is = find_none p ys i x (none_first (p y) y (find p ys) h).1 is
