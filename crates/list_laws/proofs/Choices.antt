-- Options and results: the first of two options, a map of one, and a place that isn't found.
use Rattle.std.proofs.Common.{◌≡◌, ℕ, ◌≤◌, Bool, true, false, cond, Option, Some, None, option_map, Result, Ok, refl, sym, ap, ◌∙◌, arith}
use Rattle.std.specs.Prelude.{nat_lt, unwrap_or}
use Rattle.std.specs.Option.{option_or}
use Rattle.std.specs.Result.{result_ok}
use Rattle.std.proofs.lemmas.Bool.Decides.{nat_tests}
use Rattle.std.proofs.lemmas.Option.{none-some, same_Some}

-- ---- the first of two options

pub or_none : {A : Type 0} (v : Option A) → option_or v None ≡ v
or_none None = refl
or_none (Some x) = refl

pub or_assoc : {A : Type 0} (u v w : Option A) → option_or (option_or u v) w ≡ option_or u (option_or v w)
or_assoc None v w = refl
or_assoc (Some x) v w = refl

-- ---- a map of an option

pub map-or : {A B : Type 0} (f : A → B) (u v : Option A) → option_map f (option_or u v) ≡ option_or (option_map f u) (option_map f v)
map-or f None v = refl
map-or f (Some x) v = refl

pub map-cond : {A B : Type 0} (f : A → B) (b : Bool) (x : A) → option_map f (cond b (Some x) None) ≡ cond b (Some (f x)) None
map-cond f true x = refl
map-cond f false x = refl

-- what a map gives is of something
pub mapped : {A B : Type 0} (f : A → B) (o : Option A) (y : B) → option_map f o ≡ Some y → (x : A) × (o ≡ Some x) × (f x ≡ y)
mapped f None y h = cc
mapped f (Some x) y h = (x, refl, same_Some (f x) y h)

-- ---- a place, or the length where it isn't found

pub or_len_at : (n m : ℕ) (b : Bool) → nat_lt n m ≡ b → n ≤ m → unwrap_or (cond b (Some n) None) m ≡ n
or_len_at n m true e h = refl
or_len_at n m false e h = grind (arith, nat_tests)

-- ---- a result that is given

pub no_error : {A E P : Type 0} (r : Result A E) (g : A) → Some r ≡ Some (Ok g) → result_ok r ≡ None → P
no_error r g h none = absurd (none-some g (sym none ∙ ap result_ok (same_Some r (Ok g) h)))

pub same_good : {A E : Type 0} (r : Result A E) (x g : A) → Some r ≡ Some (Ok g) → result_ok r ≡ Some x → x ≡ g
same_good r x g h is = same_Some x g (sym is ∙ ap result_ok (same_Some r (Ok g) h))
