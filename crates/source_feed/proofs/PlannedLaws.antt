-- Changes of planned tables, one after another.
use Rattle.std.proofs.Common.{◌≡◌, List, [], ◌∷◌, ◌++◌, Option, None, Some, refl, sym, ap, ◌∙◌}
use Rattle.std.specs.List.{filter_map, cons_option}
use Rattle.std.proofs.lemmas.List.Elements.{filter_map-append}

-- one more item that gives something
pub one_kept : {X Y : Type 0} (h : X → Option Y) (xs : List X) (x : X) (y : Y) → h x ≡ Some y → filter_map h (xs ++ x ∷ []) ≡ filter_map h xs ++ y ∷ []
one_kept {X} {Y} h xs x y is = filter_map-append h xs (x ∷ []) ∙ ap (λ (o : Option Y). filter_map h xs ++ cons_option o []) is

past_none : {X Y : Type 0} (h : X → Option Y) (xs : List X) (x : X) → h x ≡ None → filter_map h (xs ++ x ∷ []) ≡ filter_map h xs
past_none {X} {Y} h [] x is = ap (λ (o : Option Y). cons_option o []) is
past_none {X} {Y} h (z ∷ xs) x is = ap (cons_option (h z)) (past_none h xs x is)

-- one more item that gives nothing
pub one_dropped : {X Y : Type 0} (h : X → Option Y) (xs : List X) (x : X) (o : Option Y) → o ≡ h x → ((y : Y) → o ≡ Some y → ⊥) → filter_map h (xs ++ x ∷ []) ≡ filter_map h xs
one_dropped h xs x None is nothing = past_none h xs x (sym is)
one_dropped h xs x (Some y) is nothing = absurd (nothing y refl)
