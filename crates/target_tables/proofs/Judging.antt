-- What the changes of a group meet.
use Rattle.std.proofs.Common.{◌≡◌, ℕ, ◌+◌, ◌<◌, Bool, true, false, cond, List, [], ◌∷◌, ◌++◌, length, take, drop, get_or, Option, Some, None, ◌==◌, Ordering, refl, sym, ap, subst, ◌∙◌}
use mathlib.Core.Bool.{true≢false}
use borrow.Author.Tests.{eq-eqb}
use Rattle.std.proofs.lemmas.Bool.{ne_eqb}
use Rattle.std.proofs.lemmas.List.{get_or_default}
use Rattle.std.proofs.lemmas.Map.{lookup-none}
use Rattle.std.proofs.lemmas.Cmp.{tied_itself}
use Rattle.std.specs.declared.cmp.Ordering.TheVariants.{Less, Equal, Greater}
use Rattle.std.specs.Cmp.{IsTotalOrder}
use Rattle.std.specs.List.{AllByRecursion}
use Rattle.std.specs.Option.{option_or}
use Rattle.std.specs.Prelude.{is_some}
use Rattle.std.specs.Ordering.{is_eq, eq_by_cmp, flip_args}
use Rattle.list_laws.proofs.Fronts.{each}
use Rattle.target_tables.specs.declared.survey.ChangeVerdict.TheVariants.{NewKey, Foreign, Free}
use Rattle.target_tables.specs.Rising.{IsRising, AreAbove}
use Rattle.target_tables.specs.Contents.{value_at}
use Rattle.target_tables.specs.Touches.{change_at, owner_in_the_way, is_new, IsLeastClash, NoneInTheWay}
use Rattle.target_tables.specs.Places.{IsAt}
use Rattle.target_tables.specs.Kept.{verdict_of, IsFree, IsLastClash}
use Rattle.target_tables.proofs.Order.{split_at, before_middle}
use Rattle.target_tables.proofs.Placed.{found_there}
use Rattle.target_tables.proofs.Values.{lookup-append, none_above, same_found}

-- ---- what a verdict says

module _ {R : Type 0} where
  -- what a change meets: another stream's row, a new key, or neither
  pub record Says (stream : ℕ) (row : Option R) (there : Option (ℕ × R)) (owner : Option ℕ) (new : Bool) : Type 0 where
    pub owner_is : owner_in_the_way stream (Some row) there ≡ owner
    pub new_is : is_new row there ≡ new

  pub foreign_says : (stream : ℕ) (row : Option R) (there : Option (ℕ × R)) (owner : ℕ) → verdict_of stream row there ≡ Foreign owner → owner_in_the_way stream (Some row) there ≡ Some owner
  foreign_says stream None there owner e = cc
  foreign_says stream (Some row) None owner e = cc
  foreign_says stream (Some row) (Some v) owner e = by (v.0 == stream) e
    where
      by : (b : Bool) → cond b Free (Foreign v.0) ≡ Foreign owner → cond b None (Some v.0) ≡ Some owner
      by true e = cc
      by false e = cc

  pub new_says : (stream : ℕ) (row : Option R) (there : Option (ℕ × R)) → verdict_of stream row there ≡ NewKey → Says stream row there None true
  new_says stream None there e = cc
  new_says stream (Some row) None e = record { owner_is = refl; new_is = refl }
  new_says stream (Some row) (Some v) e = absurd (by (v.0 == stream) e)
    where
      by : (b : Bool) → cond b Free (Foreign v.0) ≡ NewKey → ⊥
      by true e = cc
      by false e = cc

  pub free_says : (stream : ℕ) (row : Option R) (there : Option (ℕ × R)) → verdict_of stream row there ≡ Free → Says stream row there None false
  free_says stream None there e = record { owner_is = refl; new_is = refl }
  free_says stream (Some row) None e = cc
  free_says stream (Some row) (Some v) e = record { owner_is = by (v.0 == stream) e; new_is = refl }
    where
      by : (b : Bool) → cond b Free (Foreign v.0) ≡ Free → cond b None (Some v.0) ≡ None
      by true e = refl
      by false e = cc

-- ---- from the changes to all keys

module _ {K R : Type 0} {cmp : K → K → Ordering} (o : IsTotalOrder cmp) (entries : List (K × (ℕ × R))) (stream : ℕ) where
  -- where no change meets another stream's row, none is in the way at any key
  pub free_everywhere : (changes : List (K × Option R)) → AllByRecursion (IsFree cmp entries stream) changes → NoneInTheWay cmp entries stream (change_at cmp changes)
  free_everywhere [] h k = refl
  free_everywhere (c ∷ changes) h k = by (free_everywhere changes h.1 k) (cmp k c.0) refl
    where
      other : owner_in_the_way stream (change_at cmp changes k) (value_at cmp entries k) ≡ None → is_eq (cmp k c.0) ≡ false → owner_in_the_way stream (cond (is_eq (cmp k c.0)) (Some c.1) (change_at cmp changes k)) (value_at cmp entries k) ≡ None
      other rest e = ap (λ b. owner_in_the_way stream (cond b (Some c.1) (change_at cmp changes k)) (value_at cmp entries k)) e ∙ rest

      by : owner_in_the_way stream (change_at cmp changes k) (value_at cmp entries k) ≡ None → (r : Ordering) → cmp k c.0 ≡ r → owner_in_the_way stream (cond (is_eq (cmp k c.0)) (Some c.1) (change_at cmp changes k)) (value_at cmp entries k) ≡ None
      by rest Less e = other rest (ap is_eq e)
      by rest Equal e =
          ap (λ b. owner_in_the_way stream (cond b (Some c.1) (change_at cmp changes k)) (value_at cmp entries k)) (ap is_eq e)
          ∙ ap (λ (v : Option (ℕ × R)). owner_in_the_way stream (Some c.1) v) (sym (same_found o k c.0 e entries))
          ∙ h.0
      by rest Greater e = other rest (ap is_eq e)

  module _ (touch : K → Option (Option R)) (front : List (K × Option R)) (x : K × Option R) (back : List (K × Option R)) (same : (k : K) → change_at cmp (front ++ x ∷ back) k ≡ touch k)
      (falling : IsRising (flip_args cmp) (front ++ x ∷ back)) (later : AllByRecursion (IsFree cmp entries stream) back) where
    greater : AreAbove cmp x.0 front
    greater = before_middle (λ a b. flip_args cmp a b ≡ Less) front x back falling

    at_x : change_at cmp (front ++ x ∷ back) x.0 ≡ Some x.1
    at_x =
        lookup-append (eq_by_cmp cmp x.0) front (x ∷ back)
        ∙ ap (λ (v : Option (Option R)). option_or v (change_at cmp (x ∷ back) x.0)) (none_above o x.0 x.0 front (tied_itself o x.0) greater)
        ∙ ap (λ b. cond b (Some x.1) (change_at cmp back x.0)) (ap is_eq (tied_itself o x.0))

    below_x : (k : K) → cmp k x.0 ≡ Less → change_at cmp (front ++ x ∷ back) k ≡ change_at cmp back k
    below_x k less =
        lookup-append (eq_by_cmp cmp k) front (x ∷ back)
        ∙ ap (λ (v : Option (Option R)). option_or v (change_at cmp (x ∷ back) k))
        (lookup-none (eq_by_cmp cmp k) front (each (λ e. cmp x.0 e.0 ≡ Less) (λ e. eq_by_cmp cmp k e.0 ≡ false) (λ e l. ap is_eq (o.trans k x.0 e.0 less l)) front greater))
        ∙ ap (λ b. cond b (Some x.1) (change_at cmp back k)) (ap is_eq less)

    least_of : (owner : ℕ) → owner_in_the_way stream (Some x.1) (value_at cmp entries x.0) ≡ Some owner → IsLeastClash cmp entries stream touch x.0 owner
    least_of owner h = record {
      here = ap (λ (v : Option (Option R)). owner_in_the_way stream v (value_at cmp entries x.0)) (sym (same x.0) ∙ at_x) ∙ h;
      none_less = λ k less. ap (λ (v : Option (Option R)). owner_in_the_way stream v (value_at cmp entries k)) (sym (same k) ∙ below_x k less) ∙ free_everywhere back later k;
    }

  -- of changes by falling key the last that meets another stream's row is the least clash
  pub least_clash : (touch : K → Option (Option R)) (changes : List (K × Option R)) (place owner : ℕ) (x : K × Option R)
      → ((k : K) → change_at cmp changes k ≡ touch k) → IsRising (flip_args cmp) changes → IsLastClash cmp entries stream changes place owner → x ≡ get_or changes place x
      → IsLeastClash cmp entries stream touch x.0 owner
  least_clash touch changes place owner x same falling h is =
      let parts : changes ≡ take place changes ++ x ∷ drop (place + 1) changes = split_at changes place x h.inside is in
      let P : List (K × Option R) → Type 0 = λ all. (k : K) → change_at cmp all k ≡ touch k in
      least_of touch (take place changes) x (drop (place + 1) changes) (subst P parts same) (subst (IsRising (flip_args cmp)) parts falling) h.later owner
      (let Q : K × Option R → Type 0 = λ c. owner_in_the_way stream (Some c.1) (value_at cmp entries c.0) ≡ Some owner in subst Q (sym is) (h.here x))

-- ---- what the entry at a key's place says of a change

module _ {R : Type 0} where
  pub verdict_new : (stream : ℕ) (row : Option R) (there : Option (ℕ × R)) → is_some row ≡ true → there ≡ None → NewKey ≡ verdict_of stream row there
  verdict_new stream None there h n = absurd (true≢false (sym h))
  verdict_new stream (Some row) there h n = sym (ap (λ (v : Option (ℕ × R)). verdict_of stream (Some row) v) n)

  verdict_own : (stream : ℕ) (row : Option R) (there : Option (ℕ × R)) (x : ℕ × R) → is_some row ≡ true → there ≡ Some x → x.0 ≡ stream → Free ≡ verdict_of stream row there
  verdict_own stream None there x h n own = refl
  verdict_own stream (Some row) there x h n own =
      sym (ap (λ (v : Option (ℕ × R)). verdict_of stream (Some row) v) n ∙ ap (λ b. cond b Free (Foreign x.0)) (eq-eqb x.0 stream own))

  verdict_other : (stream : ℕ) (row : Option R) (there : Option (ℕ × R)) (x : ℕ × R) → is_some row ≡ true → there ≡ Some x → (x.0 ≡ stream → ⊥) → Foreign x.0 ≡ verdict_of stream row there
  verdict_other stream None there x h n other = absurd (true≢false (sym h))
  verdict_other stream (Some row) there x h n other =
      sym (ap (λ (v : Option (ℕ × R)). verdict_of stream (Some row) v) n ∙ ap (λ b. cond b Free (Foreign x.0)) (ne_eqb x.0 stream other))

module _ {K R : Type 0} {cmp : K → K → Ordering} (o : IsTotalOrder cmp) (es : List (K × (ℕ × R))) (k : K) (i : ℕ) (rising : IsRising cmp es) (at : IsAt cmp es k i) (d : K × (ℕ × R)) where
  here : value_at cmp es k ≡ Some (get_or es i d).1
  here = found_there o es k i rising at (get_or es i d) (get_or_default es i d (get_or es i d) at.inside) k (tied_itself o k)

  pub judged_own : (stream : ℕ) (row : Option R) → is_some row ≡ true → (get_or es i d).1.0 ≡ stream → Free ≡ verdict_of stream row (value_at cmp es k)
  judged_own stream row h own = verdict_own stream row (value_at cmp es k) (get_or es i d).1 h here own

  pub judged_other : (stream : ℕ) (row : Option R) → is_some row ≡ true → ((get_or es i d).1.0 ≡ stream → ⊥) → Foreign (get_or es i d).1.0 ≡ verdict_of stream row (value_at cmp es k)
  judged_other stream row h other = verdict_other stream row (value_at cmp es k) (get_or es i d).1 h here other

-- the change that meets another stream's row, whatever stands for it outside the list
pub clash_here : {K R : Type 0} (cmp : K → K → Ordering) (entries : List (K × (ℕ × R))) (stream : ℕ) (changes : List (K × Option R)) (place owner : ℕ) (x : K × Option R) → place < length changes → x ≡ get_or changes place x
    → verdict_of stream x.1 (value_at cmp entries x.0) ≡ Foreign owner
    → (e : K × Option R) → owner_in_the_way stream (Some (get_or changes place e).1) (value_at cmp entries (get_or changes place e).0) ≡ Some owner
clash_here {K} {R} cmp entries stream changes place owner x inside is h e =
    let P : K × Option R → Type 0 = λ c. owner_in_the_way stream (Some c.1) (value_at cmp entries c.0) ≡ Some owner in
    subst P (is ∙ get_or_default changes place x e inside) (foreign_says stream x.1 (value_at cmp entries x.0) owner h)
