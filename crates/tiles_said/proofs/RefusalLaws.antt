-- The first file that is refused.
use Rattle.std.proofs.Common.{◌≡◌, ◌<◌, ◌∙◌, ℕ, suc, zero, List, [], ◌∷◌, length, take, map, Some, refl, sym, ap, arith, get_or}
use Rattle.std.specs.List.{AllByRecursion, slice_get}
use Rattle.tiles_said.specs.Said.{IsRead, IsRefusalOf, IsFirstRefusal, IsRefusal}
use Rattle.tiles_said.specs.declared.fault.TilesFault.{TilesFault}
use Rattle.tiles_said.specs.declared.fault.TilesFault.TheVariants.{Workflow, Memory}

-- the text at a place
at_place : {B : Type 0} (g : B → List ℕ) (xs : List B) (i : ℕ) (x : B) → i < length xs → x ≡ get_or xs i x → slice_get (map g xs) i ≡ Some (g x)
at_place g [] i x inside is = absurd (omega arith)
at_place g (y ∷ xs) zero x inside is = ap (λ z. Some (g z)) (sym is)
at_place g (y ∷ xs) (suc i) x inside is = at_place g xs i x (omega arith) is

-- those before it are read
before : {B : Type 0} (g : B → List ℕ) (xs : List B) (i j : ℕ) (other : List ℕ) → AllByRecursion IsRead (map g (take i xs)) → j < i → slice_get (map g xs) j ≡ Some other → IsRead other
before g xs zero j other read less stands = absurd (omega arith)
before g [] (suc i) j other read less stands = cc
before g (y ∷ xs) (suc i) zero other read less stands = cc
before g (y ∷ xs) (suc i) (suc j) other read less stands = before g xs i j other read.1 (omega arith) stands

pub refused_at : {B : Type 0} (g : B → List ℕ) (xs : List B) (i : ℕ) (x : B) (fault : TilesFault) → i < length xs → x ≡ get_or xs i x → AllByRecursion IsRead (map g (take i xs)) → IsRefusalOf i (g x) fault → IsRefusal (map g xs) fault
refused_at g xs i x Memory inside is read refused = tt
refused_at g xs i x (Workflow file fault) inside is read refused = record {
  text = g x;
  stands = ap (λ n. slice_get (map g xs) n) refused.0 ∙ at_place g xs i x inside is;
  refused = (refl, refused.1);
  before = λ j other less stands. before g xs i j other read (omega (arith, refused.0)) stands;
}
