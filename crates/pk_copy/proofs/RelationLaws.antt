-- The key of a row, and each of its refusals, said as relations.
use Rattle.std.specs.Prelude.{◌≡◌, ◌↔◌, ℕ, ◌||◌, Bool, true, false, List, [], ◌∷◌, map, Option, Some, None, Result, Ok, Err, is_none, if◌then◌else◌}
use Rattle.std.specs.List.{list_any, filter_map, cons_option}
use Rattle.std.proofs.Common.{refl, sym, ap, ◌∙◌}
use Rattle.std.proofs.lemmas.Bool.{true≢false}
use Rattle.std.proofs.lemmas.List.Folds.{Any-from_list_any, list_any-from_Any}
use Rattle.pk_copy.specs.KeyValue.{Part, KeyValue}
use Rattle.pk_copy.specs.KeyOf.{KeyCell, key_part_of, is_null, has_no_part, key_in, HoldsNull, LacksPart, IsKeyOf}
use Rattle.pk_copy.specs.declared.fault.KeyFault.{KeyFault}
use Rattle.pk_copy.specs.declared.fault.KeyFault.TheVariants.{NullKey, BadKey}

-- ---- the three answers, by the two tests

abbrev answer : Bool → Bool → KeyValue → Result KeyValue KeyFault
answer null lacking key = if null then Err NullKey else if lacking then Err BadKey else Ok key

answer-null : (null lacking : Bool) (key : KeyValue) → answer null lacking key ≡ Err NullKey → null ≡ true
answer-null true lacking key e = refl
answer-null false true key e = cc
answer-null false false key e = cc

answer-bad : (null lacking : Bool) (key : KeyValue) → answer null lacking key ≡ Err BadKey → (null ≡ false) × (lacking ≡ true)
answer-bad true lacking key e = cc
answer-bad false true key e = (refl, refl)
answer-bad false false key e = cc

answer-key : (null lacking : Bool) (key other : KeyValue) → answer null lacking key ≡ Ok other → (lacking ≡ false) × (key ≡ other)
answer-key true lacking key other e = cc
answer-key false true key other e = cc
answer-key false false key other e = (refl, cc)

not-found : {X : Type 0} (test : X → Bool) (xs : List X) (found : Bool) → list_any test xs ≡ found → ¬ (list_any test xs ≡ true) → list_any test xs ≡ false
not-found test xs true e none = absurd (none e)
not-found test xs false e none = e

-- ---- refusals

pub null_key-stands : (t : ℕ) (cells : List KeyCell) → (key_in t cells ≡ Err NullKey) ↔ HoldsNull cells
null_key-stands t cells = (
  λ e. Any-from_list_any is_null cells (answer-null (list_any is_null cells) (list_any has_no_part cells) _ e),
  λ stands. rw (list_any-from_Any is_null cells stands),
)

pub bad_key-stands : (t : ℕ) (cells : List KeyCell) → (key_in t cells ≡ Err BadKey) ↔ ((¬ HoldsNull cells) × LacksPart cells)
bad_key-stands t cells = (
  λ e.
      let tests = answer-bad (list_any is_null cells) (list_any has_no_part cells) _ e in
      (λ null. true≢false (sym (list_any-from_Any is_null cells null) ∙ tests.0), Any-from_list_any has_no_part cells tests.1),
  λ stands.
      let none : list_any is_null cells ≡ false = not-found is_null cells _ refl (λ found. stands.0 (Any-from_list_any is_null cells found)) in
      rw (none, list_any-from_Any has_no_part cells stands.1),
)

-- ---- keys

second-false : (a b : Bool) → (a || b) ≡ false → b ≡ false
second-false true b e = absurd (true≢false e)
second-false false b e = e

one_part : (o : Option Part) (lacking : Bool) (parts : List Part) (all : List (Option Part)) → (lacking ≡ false → map Some parts ≡ all) → (is_none o || lacking) ≡ false
    → map Some (cons_option o parts) ≡ o ∷ all
one_part None lacking parts all rest e = absurd (true≢false e)
one_part (Some part) lacking parts all rest e = ap (λ (more : List (Option Part)). Some part ∷ more) (rest e)

-- where no cell lacks its part, these are the parts
all_parts : (cells : List KeyCell) → list_any has_no_part cells ≡ false → map Some (filter_map key_part_of cells) ≡ map key_part_of cells
all_parts [] e = refl
all_parts (cell ∷ cells) e = one_part (key_part_of cell) (list_any has_no_part cells) (filter_map key_part_of cells) (map key_part_of cells) (all_parts cells) e

-- cells of which each has its part
parts_all : (cells : List KeyCell) (parts : List Part) → map Some parts ≡ map key_part_of cells → (list_any has_no_part cells ≡ false) × (filter_map key_part_of cells ≡ parts)
parts_all [] [] e = (refl, refl)
parts_all [] (part ∷ parts) e = cc
parts_all (cell ∷ cells) [] e = cc
parts_all (cell ∷ cells) (part ∷ parts) e =
    let found : key_part_of cell ≡ Some part = cc in
    let others : map Some parts ≡ map key_part_of cells = cc in
    let rest = parts_all cells parts others in
    (rw found rest.0, rw found (ap (λ (more : List Part). part ∷ more) rest.1))

one_value : (type_number : ℕ) (value : Option (List ℕ)) (null lacking : Bool) → (lacking ≡ false → null ≡ false) → (has_no_part (record { type_number = type_number; value = value }) || lacking) ≡ false
    → (is_none value || null) ≡ false
one_value type_number None null lacking rest e = absurd (true≢false e)
one_value type_number (Some text) null lacking rest e = rest (second-false _ lacking e)

-- NULL has no part
none_null : (cells : List KeyCell) → list_any has_no_part cells ≡ false → list_any is_null cells ≡ false
none_null [] e = refl
none_null (cell ∷ cells) e = one_value cell.type_number cell.value (list_any is_null cells) (list_any has_no_part cells) (none_null cells) e

pub key-stands : (t : ℕ) (cells : List KeyCell) (key : KeyValue) → (key_in t cells ≡ Ok key) ↔ IsKeyOf t cells key
key-stands t cells key = (
  λ e.
      let tests = answer-key (list_any is_null cells) (list_any has_no_part cells) (record { table = t; parts = filter_map key_part_of cells }) key e in
      record {
        table = ap (λ (key : KeyValue). key.table) (sym tests.1);
        parts = ap (λ (key : KeyValue). map Some key.parts) (sym tests.1) ∙ all_parts cells tests.0;
      },
  λ is.
      let found = parts_all cells key.parts is.parts in
      let same : record { table = t; parts = filter_map key_part_of cells } ≡ key = λ i. record { table = sym is.table i; parts = found.1 i } in
      rw (none_null cells found.0, found.0) (ap Ok same),
)
