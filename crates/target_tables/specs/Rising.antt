-- Lists of pairs by key: pairs above and below a key, and lists whose keys rise.
use Rattle.std.specs.Prelude.{◌≡◌, false, List, [], ◌∷◌, ⊤}
use Rattle.std.specs.declared.cmp.Ordering.{Ordering}
use Rattle.std.specs.declared.cmp.Ordering.TheVariants.{Less}
use Rattle.std.specs.List.{AllByRecursion}
use Rattle.std.specs.Ordering.{is_gt}

module _ {K V : Type 0} where
  -- each pair stands in this relation to those after it, by their keys
  abbrev pub Ordered : (K → K → Type 0) → List (K × V) → Type 0
  Ordered R [] = ⊤
  Ordered R (e ∷ es) = AllByRecursion (λ later. R e.0 later.0) es × Ordered R es

  module _ (cmp : K → K → Ordering) where
    -- the keys rise, so no key comes twice
    abbrev pub IsRising : List (K × V) → Type 0
    IsRising = Ordered (λ a b. cmp a b ≡ Less)

    -- the keys don't fall
    abbrev pub NeverFalls : List (K × V) → Type 0
    NeverFalls = Ordered (λ a b. is_gt (cmp a b) ≡ false)

    -- each key is less than k
    abbrev pub AreBelow : K → List (K × V) → Type 0
    AreBelow k = AllByRecursion (λ e. cmp e.0 k ≡ Less)

    -- each key is greater than k
    abbrev pub AreAbove : K → List (K × V) → Type 0
    AreAbove k = AllByRecursion (λ e. cmp k e.0 ≡ Less)
