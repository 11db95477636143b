-- Steps that were refused, and the columns that they name.
use Rattle.std.proofs.Common.{◌≡◌, ◌≢◌, ℕ, zero, suc, ◌≤◌, List, [], ◌∷◌, length, Bool, true, false, cond, ltb, Option, Some, None, Result, Ok, Err, refl, sym, ap, subst, ◌∙◌, arith}
use Rattle.std.specs.Prelude.{slice_get, position, find}
use Rattle.std.specs.List.{position_or_len}
use Rattle.std.specs.Option.{option_map_or, ok_or}
use Rattle.std.proofs.lemmas.Bool.Decides.{nat_tests}
use Rattle.std.proofs.lemmas.List.Folds.{find_at}
use Rattle.std.proofs.lemmas.Option.{slice_get_past, same_Some}
use Rattle.std.proofs.lemmas.Slice.Eq.{bytes_eq-Decides}
use Rattle.list_laws.specs.Outcome.{◌>>=◌, each}
use Rattle.filter_rule.specs.Faults.{Fault, no_such_column}
use Rattle.row_view.specs.FieldValue.{FieldValue}
use Rattle.filter_rule.specs.Resolving.{place_in, type_in}
use Rattle.filter_rule.specs.Standing.{HasNoColumn, HasUnfit}
use Rattle.filter_rule.proofs.StepLaws.{then_ok, find_none}
use Rattle.filter_rule.proofs.TableLaws.{is_named, place_found, column_found, type_in-is}

abbrev pub failed : {B : Type 0} → Fault → Result B Fault
failed e = Err e

pub same_fault : {B : Type 0} (d e : Fault) → failed {B = B} d ≡ Err e → d ≡ e
same_fault d e h = cc

-- the parts of a step that was refused
pub then_err : {A B P : Type 0} (f : A → Result B Fault) (r : Result A Fault) (e : Fault) → (r >>= f) ≡ Err e → (r ≡ Err e → P) → ((x : A) → r ≡ Ok x → f x ≡ Err e → P) → P
then_err {A} {B} f (Ok x) e h k l = l x refl h
then_err {A} {B} f (Err d) e h k l = k (ap (failed {B = A}) (same_fault {B = B} d e h))

-- the item that was refused
pub record Refused {A B : Type 0} (f : A → Result B Fault) (xs : List A) (e : Fault) : Type 0 where
  pub place : ℕ
  pub item : A
  pub stands : slice_get xs place ≡ Some item
  pub gives : f item ≡ Err e

later_refused : {A B : Type 0} (f : A → Result B Fault) (x : A) (xs : List A) (e : Fault) → Refused f xs e → Refused f (x ∷ xs) e
later_refused f x xs e r = record { place = suc r.place; item = r.item; stands = r.stands; gives = r.gives }

pub each_refused : {A B : Type 0} (f : A → Result B Fault) (xs : List A) (e : Fault) → each f xs ≡ Err e → Refused f xs e
each_refused f [] e h = cc
each_refused f (x ∷ xs) e h =
    then_err _ (f x) e h (λ x_is. record { place = 0; item = x; stands = refl; gives = x_is })
    (λ y y_is h2. then_err _ (each f xs) e h2 (λ xs_is. later_refused f x xs e (each_refused f xs e xs_is)) (λ ys ys_is h3. cc))

-- each item of a list that was read gave something
pub each_gives : {A B : Type 0} (f : A → Result B Fault) (xs : List A) (ys : List B) (i : ℕ) (x : A) → each f xs ≡ Ok ys → slice_get xs i ≡ Some x → (y : B) × (f x ≡ Ok y)
each_gives f [] ys i x h is = cc
each_gives f (z ∷ xs) ys zero x h is = then_ok _ (f z) ys h (λ y y_is h2. (y, ap f (sym (same_Some z x is)) ∙ y_is))
each_gives f (z ∷ xs) ys (suc i) x h is =
    then_ok _ (f z) ys h (λ y y_is h2. then_ok _ (each f xs) ys h2 (λ rest rest_is h3. each_gives f xs rest i x rest_is is))

pub none_from_err : {A : Type 0} (o : Option A) (fault e : Fault) → ok_or o fault ≡ Err e → (o ≡ None) × (fault ≡ e)
none_from_err {A} None fault e h = (refl, same_fault {B = A} fault e h)
none_from_err (Some x) fault e h = cc

-- ---- a name that no column has

past_end : (b : Bool) (n : ℕ) → cond b (Some n) None ≡ None → b ≡ false
past_end true n h = cc
past_end false n h = refl

none_found : {A : Type 0} (p : A → Bool) (xs : List A) → position p xs ≡ None → find p xs ≡ None
none_found p xs h =
    let not_inside : ltb (position_or_len p xs) (length xs) ≡ false = past_end (ltb (position_or_len p xs) (length xs)) (position_or_len p xs) h in
    let past : length xs ≤ position_or_len p xs = grind (arith, nat_tests) in
    find_at p xs ∙ slice_get_past xs (position_or_len p xs) past

not_named : (name : List ℕ) (column : FieldValue) → is_named name column ≡ false → column.name ≢ name
not_named name column differs same = let yes : is_named name column ≡ true = (bytes_eq-Decides column.name name).1 same in cc

pub absent : (table : List ℕ) (columns : List FieldValue) (name : List ℕ) (e : Fault) → place_in table columns name ≡ Err e → (no_such_column table name ≡ e) × HasNoColumn columns name
absent table columns name e h =
    let none = none_from_err (position (is_named name) columns) (no_such_column table name) e h in
    (none.1, λ i column is. not_named name column (find_none (is_named name) columns i column (none_found (is_named name) columns none.0) is))

-- ---- a column of an unfit type

pub unfit_column : (fits : ℕ → Bool) (table : List ℕ) (columns : List FieldValue) (name : List ℕ) (place : ℕ) → place_in table columns name ≡ Ok place → fits (type_in columns name) ≡ false → HasUnfit fits columns name
unfit_column fits table columns name place place_is unfit =
    let is = place_found table columns name place place_is in
    let there = column_found columns name place is in
    let type_is : type_in columns name ≡ there.column.type_number = type_in-is columns name place is ∙ ap (λ o. option_map_or (λ (c : FieldValue). c.type_number) o 0) there.stands in
    record {
      place = place;
      column = there.column;
      stands = there.stands;
      named = there.named;
      unfit = subst (λ n. fits n ≡ false) type_is unfit;
    }

-- the item that a search finds
pub record Found {A : Type 0} (p : A → Bool) (xs : List A) (x : A) : Type 0 where
  pub place : ℕ
  pub stands : slice_get xs place ≡ Some x
  pub passes : p x ≡ true

found_step : {A : Type 0} (p : A → Bool) (y : A) (ys : List A) (x : A) (b : Bool) → p y ≡ b → cond b (Some y) (find p ys) ≡ Some x → (find p ys ≡ Some x → Found p ys x) → Found p (y ∷ ys) x
found_step p y ys x true is h more = record { place = 0; stands = h; passes = subst (λ z. p z ≡ true) (same_Some y x h) is }
found_step p y ys x false is h more = let r = more h in record { place = suc r.place; stands = r.stands; passes = r.passes }

pub found : {A : Type 0} (p : A → Bool) (xs : List A) (x : A) → find p xs ≡ Some x → Found p xs x
found p [] x h = cc
found p (y ∷ ys) x h = found_step p y ys x (p y) refl h (found p ys x)
