-- What any reader gives: items one after another, and then the end or one fault. Generic in what is read,
-- a list of `B` (bytes, or what a layer below has made of them), in the item `A` and in the fault `F`, so
-- that each format says only what one item is.
use Rattle.std.specs.Prelude.{◌≡◌, ◌≢◌, ℕ, zero, suc, List, [], ◌∷◌, ◌++◌, length, Option, Some, None, Result, Ok, Err}

-- what is still to come: the items in order, and the fault that ends them, if one does
pub record Reading (A F : Type 0) : Type 0 where
  pub items : List A
  pub fault : Option F

-- ---- as a relation

-- The list is these items one after another, and then either nothing is left or a fault stands in
-- the place of the next item. `IsItem front x` says what an item is, `NoItem list f` why none
-- stands at the front.
abbrev pub Spells : {B A F : Type 0} → (List B → A → Type 0) → (List B → F → Type 0) → List B → List A → Option F → Type 0
Spells IsItem NoItem list [] None = list ≡ []
Spells IsItem NoItem list [] (Some f) = (list ≢ []) × NoItem list f
Spells {B} IsItem NoItem list (x ∷ xs) end = (front : List B) × (rest : List B) × (list ≡ front ++ rest) × IsItem front x × Spells IsItem NoItem rest xs end

-- ---- as a function

-- the item at the front, and then the others; or the fault at the front
abbrev pub put_first : {B A F : Type 0} → Result (A × List B) F → (List B → Reading A F) → Reading A F
put_first (Ok x) others = let rest = others x.1 in record { items = x.0 ∷ rest.items; fault = rest.fault }
put_first (Err f) others = record { items = []; fault = Some f }

-- at most `n` items, where `at` reads the one at the front
unfoldable pub reading_within : {B A F : Type 0} → (List B → Result (A × List B) F) → ℕ → List B → Reading A F
reading_within at zero list = record { items = []; fault = None }
reading_within at (suc n) [] = record { items = []; fault = None }
reading_within at (suc n) (b ∷ list) = put_first (at (b ∷ list)) (λ rest. reading_within at n rest)

-- the whole reading of the list: each item takes an element at least
unfoldable pub reading_of : {B A F : Type 0} → (List B → Result (A × List B) F) → List B → Reading A F
reading_of at list = reading_within at (length list) list

-- ---- one call of a reader

-- What a call that gives the next item answers and leaves, where `view` is how an item is seen:
-- the item is taken off the front; at the end and at a fault nothing changes, so the next call
-- answers the same.
abbrev pub Next : {X A F : Type 0} → (X → A) → Reading A F → Result (Option X) F → Reading A F → Type 0
Next view old (Ok (Some x)) new = (old.items ≡ view x ∷ new.items) × (old.fault ≡ new.fault)
Next view old (Ok None) new = (old.items ≡ []) × (old.fault ≡ None) × (new ≡ old)
Next view old (Err f) new = (old.items ≡ []) × (old.fault ≡ Some f) × (new ≡ old)
