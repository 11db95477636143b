-- Rows and changes take bytes.
use Rattle.std.proofs.Common.{◌≡◌, ℕ, zero, suc, ◌+◌, ◌/◌, ◌<◌, ◌≤◌, Bool, true, false, ◌&&◌, ltb, List, [], ◌∷◌, length, map, take, drop, length-drop, Option, None, Some, Ok, Err, refl, sym, ap, ◌∙◌, inl, inr, arith}
use Rattle.std.proofs.lemmas.Bool.{cases_lt, cases_Bool, lt-ltb, le-ltb}
use Rattle.std.proofs.lemmas.List.{length-map}
use Rattle.list_laws.specs.Outcome.{◌>>=◌}
use Rattle.item_readers.proofs.ReadingLaws.{TakesBytes}
use Rattle.log_values.specs.declared.fault.ValueFault.TheVariants.{CutValue}
use Rattle.log_values.specs.declared.kind.Kind.{Kind}
use Rattle.log_values.specs.Value.{value_at, value_size, fits}
use Rattle.log_tables.specs.Column.{ColumnValue}
use Rattle.log_tables.proofs.Fronts.{first_step}
use Rattle.log_rows.specs.declared.change.RowsKind.{RowsKind}
use Rattle.log_rows.specs.declared.change.RowsKind.TheVariants.{Write, Update, Delete}
use Rattle.log_rows.specs.Image.{bit_of, bits_size, cell_at, cells_at, image_at}
use Rattle.log_rows.specs.Change.{Change, change_at}
use Rattle.log_rows.specs.Head.{are_all}

value_takes : (kind : Kind) (labels : List (List ℕ)) (bytes : List ℕ) (x : List ℕ × List ℕ) → value_at kind labels bytes ≡ Ok x → length x.1 ≤ length bytes
unfolding value_at
value_takes kind labels bytes x e =
    elim (cases_lt (length bytes) (value_size kind bytes)) [
      | inl lt ↦ let test : ltb (length bytes) (value_size kind bytes) ≡ true = lt-ltb _ _ lt in let none = rw test at e in cc
      | inr le ↦
          let test : ltb (length bytes) (value_size kind bytes) ≡ false = le-ltb _ _ le in
          elim (cases_Bool (fits kind labels (take (value_size kind bytes) bytes))) [
            | inl fit ↦
                let some = rw (test, fit) at e in
                let is : x.1 ≡ drop (value_size kind bytes) bytes = cc in
                rw is (omega (arith, length-drop (value_size kind bytes) bytes))
            | inr no_fit ↦ let none = rw (test, no_fit) at e in cc
          ]
    ]

cell_takes : (null : Bool) (c : ColumnValue) (bytes : List ℕ) (x : Option (List ℕ) × List ℕ) → cell_at null c bytes ≡ Ok x → length x.1 ≤ length bytes
cell_takes true c bytes x e = let is : x.1 ≡ bytes = cc in rw is (omega arith)
cell_takes false c bytes x e =
    let value = first_step (value_at c.kind c.labels bytes) (λ v. Ok (Some v.0, v.1)) x e in
    let le = value_takes c.kind c.labels bytes value.0 value.1 in
    let is : x.1 ≡ value.0.1 = cc in
    rw is le

cells_take : (nulls : List ℕ) (n : ℕ) (columns : List ColumnValue) (bytes : List ℕ) (x : List (Option (List ℕ)) × List ℕ) → cells_at nulls n columns bytes ≡ Ok x → length x.1 ≤ length bytes
unfolding cells_at
cells_take nulls n [] bytes x e = let is : x.1 ≡ bytes = cc in rw is (omega arith)
cells_take nulls n (c ∷ columns) bytes x e =
    let cell = first_step (cell_at (bit_of nulls n) c bytes) (λ v. cells_at nulls (n + 1) columns v.1 >>= λ others. Ok (v.0 ∷ others.0, others.1)) x e in
    let others = first_step (cells_at nulls (n + 1) columns cell.0.1) (λ others. Ok (cell.0.0 ∷ others.0, others.1)) x cell.2 in
    let one = cell_takes (bit_of nulls n) c bytes cell.0 cell.1 in
    let more = cells_take nulls (n + 1) columns cell.0.1 others.0 others.1 in
    let is : x.1 ≡ others.0.1 = cc in
    rw is (omega arith)

-- ---- a row

pub image-cut : (columns : List ColumnValue) (bytes : List ℕ) → length bytes < bits_size (length columns) → image_at columns bytes ≡ Err CutValue
unfolding image_at
image-cut columns bytes lt = let test : ltb (length bytes) (bits_size (length columns)) ≡ true = lt-ltb _ _ lt in rw test refl

pub image-whole : (columns : List ColumnValue) (bytes : List ℕ) → bits_size (length columns) ≤ length bytes
    → image_at columns bytes ≡ cells_at (take (bits_size (length columns)) bytes) 0 columns (drop (bits_size (length columns)) bytes)
unfolding image_at
image-whole columns bytes le = let test : ltb (length bytes) (bits_size (length columns)) ≡ false = le-ltb _ _ le in rw test refl

pub size_seen : {C : Type 0} (view : C → ColumnValue) (columns : List C) (size : ℕ) → size ≡ bits_size (length columns) → size ≡ bits_size (length (map view columns))
size_seen view columns size e = e ∙ ap bits_size (sym (length-map columns view))

image_takes : (columns : List ColumnValue) (bytes : List ℕ) (x : List (Option (List ℕ)) × List ℕ) → 0 < length columns → image_at columns bytes ≡ Ok x → length x.1 < length bytes
image_takes columns bytes x some e =
    elim (cases_lt (length bytes) (bits_size (length columns))) [
      | inl lt ↦ let none = sym (image-cut columns bytes lt) ∙ e in cc
      | inr le ↦
          let size : ℕ = bits_size (length columns) in
          let positive : 0 < (length columns + 7) / 8 = omega (arith, some) in
          let fewer = cells_take (take size bytes) 0 columns (drop size bytes) x (sym (image-whole columns bytes le) ∙ e) in
          omega (arith, length-drop size bytes, positive)
    ]

-- ---- a change

change_takes : (kind : RowsKind) (columns : List ColumnValue) → 0 < length columns → (bytes : List ℕ) (x : Change × List ℕ) → change_at kind columns bytes ≡ Ok x → length x.1 < length bytes
change_takes Write columns some bytes x e =
    let row = first_step (image_at columns bytes) (λ row. Ok (record { before = None; after = Some row.0 }, row.1)) x e in
    let less = image_takes columns bytes row.0 some row.1 in
    let is : x.1 ≡ row.0.1 = cc in
    rw is less
change_takes Update columns some bytes x e =
    let row = first_step (image_at columns bytes) (λ row. image_at columns row.1 >>= λ new. Ok (record { before = Some row.0; after = Some new.0 }, new.1)) x e in
    let new = first_step (image_at columns row.0.1) (λ new. Ok (record { before = Some row.0.0; after = Some new.0 }, new.1)) x row.2 in
    let less = image_takes columns bytes row.0 some row.1 in
    let more = image_takes columns row.0.1 new.0 some new.1 in
    let is : x.1 ≡ new.0.1 = cc in
    rw is (omega arith)
change_takes Delete columns some bytes x e =
    let row = first_step (image_at columns bytes) (λ row. Ok (record { before = Some row.0; after = None }, row.1)) x e in
    let less = image_takes columns bytes row.0 some row.1 in
    let is : x.1 ≡ row.0.1 = cc in
    rw is less

pub change_reader : (kind : RowsKind) (columns : List ColumnValue) → 0 < length columns → TakesBytes (change_at kind columns)
change_reader kind columns some = record { shorter = change_takes kind columns some }

pub columns_seen : {C : Type 0} (view : C → ColumnValue) (columns : List C) → 0 < length columns → 0 < length (map view columns)
columns_seen view columns some = rw (length-map columns view) some

-- ---- bits

pub are_all-none : (bits : List ℕ) → are_all 0 bits ≡ true
unfolding are_all
are_all-none bits = refl

pub are_all-more : (n : ℕ) (bits : List ℕ) → bit_of bits n ≡ true → are_all n bits ≡ true → are_all (n + 1) bits ≡ true
unfolding are_all
are_all-more n bits bit so_far = let one : n + 1 ≡ suc n = omega arith in rw (one, bit) so_far

pub are_all-not : (count n : ℕ) (bits : List ℕ) → n < count → bit_of bits n ≡ false → are_all count bits ≡ false
unfolding are_all
are_all-not zero n bits less bit = absurd (omega arith)
are_all-not (suc count) n bits less bit =
    elim (cases_lt n count) [
      | inl lt ↦ let rest = are_all-not count n bits lt bit in none_and (bit_of bits count) (are_all count bits) rest
      | inr le ↦ let same : count ≡ n = omega arith in rw (same, bit) refl
    ]
  where
    none_and : (a b : Bool) → b ≡ false → a && b ≡ false
    none_and true b e = e
    none_and false b e = refl
