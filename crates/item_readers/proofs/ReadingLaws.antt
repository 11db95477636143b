-- Laws of any reader of items one after another.
use Rattle.std.proofs.Common.{◌≡◌, ◌≢◌, ℕ, zero, suc, ◌<◌, ◌≤◌, true, false, eqb, List, [], ◌∷◌, ◌++◌, length, Option, Some, None, Result, Ok, Err, refl, sym, ap, ◌∙◌, arith}
use Rattle.std.proofs.lemmas.Bool.{eqb-true}
use Rattle.std.proofs.lemmas.List.{nil_from_length}
use Rattle.item_readers.specs.Reading.{Reading, Spells, put_first, reading_within, reading_of}

-- each item takes an element at least
pub record TakesBytes {B A F : Type 0} (at : List B → Result (A × List B) F) : Type 0 where
  pub shorter : (bytes : List B) (x : A × List B) → at bytes ≡ Ok x → length x.1 < length bytes

put_first-same : {B A F : Type 0} (r : Result (A × List B) F) (f g : List B → Reading A F) → ((x : A × List B) → r ≡ Ok x → f x.1 ≡ g x.1) → put_first r f ≡ put_first r g
put_first-same {B} {A} {F} (Ok x) f g h = ap (λ (r : Reading A F). record { items = x.0 ∷ r.items; fault = r.fault }) (h x refl)
put_first-same (Err e) f g h = refl

within-same : {B A F : Type 0} (at : List B → Result (A × List B) F) → TakesBytes at → (n m : ℕ) (bytes : List B) → length bytes ≤ n → length bytes ≤ m → reading_within at n bytes ≡ reading_within at m bytes
unfolding reading_within
within-same at takes zero zero [] p q = refl
within-same at takes zero (suc m) [] p q = refl
within-same at takes (suc n) zero [] p q = refl
within-same at takes (suc n) (suc m) [] p q = refl
within-same at takes zero m (b ∷ bytes) p q = absurd (omega arith)
within-same at takes (suc n) zero (b ∷ bytes) p q = absurd (omega arith)
within-same at takes (suc n) (suc m) (b ∷ bytes) p q =
    put_first-same (at (b ∷ bytes)) (λ rest. reading_within at n rest) (λ rest. reading_within at m rest) (λ x e.
    let less : length x.1 < length (b ∷ bytes) = takes.shorter (b ∷ bytes) x e in
    within-same at takes n m x.1 (omega arith) (omega arith))

-- nothing is read of no bytes
pub reading-none : {B A F : Type 0} (at : List B → Result (A × List B) F) → reading_of at [] ≡ record { items = []; fault = None }
unfolding reading_of reading_within
reading-none at = refl

-- the item at the front, and the reading of the rest
pub reading-first : {B A F : Type 0} (at : List B → Result (A × List B) F) → TakesBytes at → (bytes : List B) (x : A × List B) → at bytes ≡ Ok x
    → reading_of at bytes ≡ record { items = x.0 ∷ (reading_of at x.1).items; fault = (reading_of at x.1).fault }
unfolding reading_of reading_within
reading-first at takes [] x e = let less : length x.1 < 0 = takes.shorter [] x e in absurd (omega arith)
reading-first {B} {A} {F} at takes (b ∷ bytes) x e =
    let less : length x.1 < length (b ∷ bytes) = takes.shorter (b ∷ bytes) x e in
    let front : put_first (at (b ∷ bytes)) (λ rest. reading_within at (length bytes) rest) ≡ put_first (Ok x) (λ rest. reading_within at (length bytes) rest) = ap (λ (r : Result (A × List B) F). put_first r (λ rest. reading_within at (length bytes) rest)) e in
    front ∙ ap (λ (r : Reading A F). record { items = x.0 ∷ r.items; fault = r.fault }) (within-same at takes (length bytes) (length x.1) x.1 (omega arith) (omega arith))

-- the fault at the front
pub reading-fault : {B A F : Type 0} (at : List B → Result (A × List B) F) (bytes : List B) (f : F) → bytes ≢ [] → at bytes ≡ Err f → reading_of at bytes ≡ record { items = []; fault = Some f }
unfolding reading_of reading_within
reading-fault at [] f ne e = absurd (ne refl)
reading-fault {B} {A} {F} at (b ∷ bytes) f ne e = ap (λ (r : Result (A × List B) F). put_first r (λ rest. reading_within at (length bytes) rest)) e

-- A function that reads the item at the front, and the relations that say what an item is and why
-- none stands there: each answer is right, and each right answer is given.
pub record IsReader {B A F : Type 0} (IsItem : List B → A → Type 0) (NoItem : List B → F → Type 0) (at : List B → Result (A × List B) F) : Type 0 where
  pub takes : TakesBytes at
  pub found : (bytes : List B) (x : A × List B) → at bytes ≡ Ok x → (front : List B) × (bytes ≡ front ++ x.1) × IsItem front x.0
  pub finds : (front rest : List B) (x : A) → IsItem front x → at (front ++ rest) ≡ Ok (x, rest)
  pub refused : (bytes : List B) (f : F) → at bytes ≡ Err f → NoItem bytes f
  pub refuses : (bytes : List B) (f : F) → NoItem bytes f → at bytes ≡ Err f

-- what a reading is at each answer
spells_first : {B A F : Type 0} (IsItem : List B → A → Type 0) (NoItem : List B → F → Type 0) (at : List B → Result (A × List B) F) → IsReader IsItem NoItem at
    → (n : ℕ) (bytes : List B) → length bytes ≤ n → (r : Result (A × List B) F) → at bytes ≡ r → Spells IsItem NoItem bytes (reading_of at bytes).items (reading_of at bytes).fault
spells_first IsItem NoItem at reads zero [] le r e = rw (reading-none at) refl
spells_first IsItem NoItem at reads (suc n) [] le r e = rw (reading-none at) refl
spells_first IsItem NoItem at reads zero (b ∷ bytes) le r e = absurd (omega arith)
spells_first IsItem NoItem at reads (suc n) (b ∷ bytes) le (Err f) e =
    let cons : b ∷ bytes ≢ [] = λ h. cc in
    rw (reading-fault at (b ∷ bytes) f cons e) (cons, reads.refused (b ∷ bytes) f e)
spells_first IsItem NoItem at reads (suc n) (b ∷ bytes) le (Ok x) e =
    let less : length x.1 < length (b ∷ bytes) = reads.takes.shorter (b ∷ bytes) x e in
    let one = reads.found (b ∷ bytes) x e in
    rw (reading-first at reads.takes (b ∷ bytes) x e) (one.0, x.1, one.1, one.2, spells_first IsItem NoItem at reads n x.1 (omega arith) (at x.1) refl)

-- the bytes are what the function reads
pub spells-reading : {B A F : Type 0} (IsItem : List B → A → Type 0) (NoItem : List B → F → Type 0) (at : List B → Result (A × List B) F) → IsReader IsItem NoItem at
    → (bytes : List B) → Spells IsItem NoItem bytes (reading_of at bytes).items (reading_of at bytes).fault
spells-reading IsItem NoItem at reads bytes = spells_first IsItem NoItem at reads (length bytes) bytes (omega arith) (at bytes) refl

-- and nothing else
pub only_reading : {B A F : Type 0} (IsItem : List B → A → Type 0) (NoItem : List B → F → Type 0) (at : List B → Result (A × List B) F) → IsReader IsItem NoItem at
    → (bytes : List B) (items : List A) (fault : Option F) → Spells IsItem NoItem bytes items fault → reading_of at bytes ≡ record { items = items; fault = fault }
only_reading IsItem NoItem at reads bytes [] None h = rw h (reading-none at)
only_reading IsItem NoItem at reads bytes [] (Some f) h = reading-fault at bytes f h.0 (reads.refuses bytes f h.1)
only_reading {B} {A} {F} IsItem NoItem at reads bytes (x ∷ xs) fault (front, rest, parts, item, others) =
    let one : at bytes ≡ Ok (x, rest) = rw parts (reads.finds front rest x item) in
    reading-first at reads.takes bytes (x, rest) one ∙ ap (λ (r : Reading A F). record { items = x ∷ r.items; fault = r.fault }) (only_reading IsItem NoItem at reads rest xs fault others)

-- ---- one call of a reader

-- a test of emptiness
pub empty_list : {B : Type 0} (bytes : List B) → true ≡ eqb (length bytes) 0 → bytes ≡ []
empty_list bytes e = nil_from_length bytes (eqb-true _ _ (sym e))

pub not_empty : {B : Type 0} (bytes : List B) → false ≡ eqb (length bytes) 0 → bytes ≢ []
not_empty bytes e is = let zero_long : eqb (length bytes) 0 ≡ true = rw is refl in cc

pub next_none : {B A F : Type 0} (at : List B → Result (A × List B) F) (bytes : List B) (old : Reading A F) → bytes ≡ [] → reading_of at bytes ≡ old → (old.items ≡ []) × (old.fault ≡ None) × (old ≡ old)
next_none {B} {A} {F} at bytes old e seen =
    let is : old ≡ record { items = []; fault = None } = sym seen ∙ ap (reading_of at) e ∙ reading-none at in
    (ap (λ (r : Reading A F). r.items) is, ap (λ (r : Reading A F). r.fault) is, refl)

pub next_err : {B A F : Type 0} (at : List B → Result (A × List B) F) (bytes : List B) (old : Reading A F) (f : F) → bytes ≢ [] → at bytes ≡ Err f → reading_of at bytes ≡ old → (old.items ≡ []) × (old.fault ≡ Some f) × (old ≡ old)
next_err {B} {A} {F} at bytes old f ne e seen =
    let is : old ≡ record { items = []; fault = Some f } = sym seen ∙ reading-fault at bytes f ne e in
    (ap (λ (r : Reading A F). r.items) is, ap (λ (r : Reading A F). r.fault) is, refl)

pub next_some : {B A F : Type 0} (at : List B → Result (A × List B) F) → TakesBytes at → (bytes : List B) (old : Reading A F) (x : A × List B) → at bytes ≡ Ok x → reading_of at bytes ≡ old
    → (old.items ≡ x.0 ∷ (reading_of at x.1).items) × (old.fault ≡ (reading_of at x.1).fault)
next_some {B} {A} {F} at takes bytes old x e seen =
    let is : old ≡ record { items = x.0 ∷ (reading_of at x.1).items; fault = (reading_of at x.1).fault } = sym seen ∙ reading-first at takes bytes x e in
    (ap (λ (r : Reading A F). r.items) is, ap (λ (r : Reading A F). r.fault) is)
