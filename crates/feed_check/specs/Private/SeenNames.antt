-- Names in the order in which they first stand, beside a set of the same names.
use Rattle.std.specs.Prelude.{◌≡◌, ℕ, List, map}
use Rattle.std.specs.Borrow.{Bor}
use Rattle.std.specs.Cmp.Lexicographic.{slice_cmp}
use Rattle.std.specs.List.{list_any}
use Rattle.std.specs.Ordering.{nat_cmp, is_eq}
use Rattle.std.specs.Str.{bytes_eq}

-- the names, wherever they lie
abbrev pub texts : List (Bor (List ℕ)) → List (List ℕ)
texts names = map (λ one. one.now) names

-- the set has these names and no others
abbrev pub HasNames : List (Bor (List ℕ)) → List (List ℕ) → Type 0
HasNames keys names = (name : Bor (List ℕ)) → list_any (λ key. is_eq (slice_cmp nat_cmp name.now key.now)) keys ≡ list_any (bytes_eq name.now) names
