-- The key of a row, as a row of its parts, is read as this key; keys that are read are keys of their table.
use Rattle.std.proofs.Common.{◌≡◌, ℕ, ℤ, Bool, true, false, cond, List, [], ◌∷◌, map, Option, Some, None, Ok, ◌<◌, suc, length, refl, sym, ap, subst, ◌∙◌}
use Rattle.std.specs.List.{AllByRecursion}
use Rattle.std.specs.Option.{option_map}
use Rattle.std.proofs.lemmas.List.{length-map}
use Rattle.std.proofs.lemmas.List.Elements.{recursion_from_All}
use Rattle.vindex.specs.NumberText.{number_of_text}
use Rattle.vindex.specs.NumberLaws.{ShortestTextsAreReadBack}
use Rattle.row_view.specs.FieldValue.{FieldValue}
use Rattle.filter_rule.specs.PlanValue.{PlanValue, columns_of, key_columns_of, column_at}
use Rattle.filter_rule.specs.TypeNumbers.{is_whole_number}
use Rattle.filter_rule.specs.WellFormed.{type_at}
use Rattle.pk_copy.specs.KeyValue.{Part, number, bytes, KeyValue, IsPart, AreParts}
use Rattle.pk_copy.specs.KeyOf.{KeyCell, key_part_of, cell_at, key_cells, key_of, IsKeyOf}
use Rattle.pk_copy.specs.Lastpk.{part_text, lastpk_of, key_cell, lastpk_cells, last_cells, key_of_lastpk, LastpksAreReadAgain, IsTableKey, KeysOfRowsAreTableKeys, KeysReadAreTableKeys}
use Rattle.pk_copy.proofs.RelationLaws.{key-stands}

no_bytes : (value : Option ℤ) (text : List ℕ) → option_map number value ≡ Some (bytes text) → ⊥
no_bytes None text e = absurd cc
no_bytes (Some v) text e = absurd cc

-- a part is that of its own text, in a column of its kind
of_text : ShortestTextsAreReadBack → (whole : Bool) (part : Part) (text : List ℕ) → IsPart part → cond whole (option_map number (number_of_text text)) (Some (bytes text)) ≡ Some part
    → cond whole (option_map number (number_of_text (part_text part))) (Some (bytes (part_text part))) ≡ Some part
of_text law true (number value) text is e = rw (law value is) refl
of_text law true (bytes b) text is e = absurd (no_bytes (number_of_text text) b e)
of_text law false (number value) text is e = absurd cc
of_text law false (bytes b) text is e = refl

of_value : ShortestTextsAreReadBack → (type_number : ℕ) (part : Part) (value : Option (List ℕ)) → IsPart part → key_part_of (record { type_number = type_number; value = value }) ≡ Some part
    → key_part_of (record { type_number = type_number; value = Some (part_text part) }) ≡ Some part
of_value law type_number part None is e = absurd cc
of_value law type_number part (Some text) is e = of_text law (is_whole_number type_number) part text is e

cons_same : {A : Type 0} (x y : A) (xs ys : List A) → x ≡ y → xs ≡ ys → x ∷ xs ≡ y ∷ ys
cons_same {A} x y xs ys e f = ap (λ (z : A). z ∷ xs) e ∙ ap (λ (zs : List A). y ∷ zs) f

-- parts that a row of key columns gives are given again by the row of their texts
parts_again : ShortestTextsAreReadBack → (columns : List FieldValue) (places : List ℕ) (row : List (Option (List ℕ))) (parts : List Part) → AllByRecursion IsPart parts
    → map Some parts ≡ map key_part_of (lastpk_cells columns places row) → map Some parts ≡ map key_part_of (lastpk_cells columns places (map (λ part. Some (part_text part)) parts))
parts_again law columns places row [] is e = refl
parts_again law columns places [] (q ∷ qs) is e = absurd cc
parts_again law columns [] (value ∷ row) (q ∷ qs) is e = absurd cc
parts_again law columns (p ∷ ps) (value ∷ row) (q ∷ qs) is e =
    let here : key_part_of (key_cell columns p value) ≡ Some q = cc in
    let rest : map Some qs ≡ map key_part_of (lastpk_cells columns ps row) = cc in
    cons_same (Some q) (key_part_of (key_cell columns p (Some (part_text q)))) (map Some qs) (map key_part_of (lastpk_cells columns ps (map (λ part. Some (part_text part)) qs)))
    (sym (of_value law (type_at columns p) q value is.0 here)) (parts_again law columns ps row qs is.1 rest)

read_again : ShortestTextsAreReadBack → (plan : PlanValue) (t : ℕ) (row : List (Option (List ℕ))) (key : KeyValue) → AreParts key.parts
    → IsKeyOf t (last_cells plan t row) key → key_of_lastpk plan t (lastpk_of key) ≡ Ok key
read_again law plan t row key parts is =
    let again = parts_again law (columns_of plan t) (key_columns_of plan t) row key.parts (recursion_from_All IsPart key.parts parts.each_part) is.parts in
    (key-stands t (last_cells plan t (lastpk_of key)) key).1 (record { table = is.table; parts = again })

-- ---- a row's cells are those of its key columns alone

cells_picked : (columns : List FieldValue) (row : List (Option (List ℕ))) (places : List ℕ) → map (cell_at columns row) places ≡ lastpk_cells columns places (map (column_at row) places)
cells_picked columns row [] = refl
cells_picked columns row (p ∷ ps) = ap (λ (cells : List KeyCell). cell_at columns row p ∷ cells) (cells_picked columns row ps)

key_picked : (plan : PlanValue) (t : ℕ) (row : List (Option (List ℕ))) (key : KeyValue) → key_of plan t row ≡ Ok key → IsKeyOf t (last_cells plan t (map (column_at row) (key_columns_of plan t))) key
key_picked plan t row key e =
    subst (λ cells. IsKeyOf t cells key) (cells_picked (columns_of plan t) row (key_columns_of plan t)) ((key-stands t (key_cells plan t row) key).0 e)

pub lastpks_again : ShortestTextsAreReadBack → LastpksAreReadAgain
lastpks_again law plan t row key parts e = read_again law plan t (map (column_at row) (key_columns_of plan t)) key parts (key_picked plan t row key e)

-- ---- keys of a table

cells_long : (columns : List FieldValue) (places : List ℕ) (row : List (Option (List ℕ))) → length row ≡ length places → length (lastpk_cells columns places row) ≡ length places
cells_long columns [] [] e = refl
cells_long columns [] (value ∷ row) e = absurd cc
cells_long columns (p ∷ ps) [] e = absurd cc
cells_long columns (p ∷ ps) (value ∷ row) e =
    let rest : length row ≡ length ps = cc in
    ap suc (cells_long columns ps row rest)

table_key : ShortestTextsAreReadBack → (plan : PlanValue) (t : ℕ) (row : List (Option (List ℕ))) (key : KeyValue) → t < length plan.tables
    → length row ≡ length (key_columns_of plan t) → AreParts key.parts → IsKeyOf t (last_cells plan t row) key → IsTableKey plan key
table_key law plan t row key within long parts is =
    let cells = last_cells plan t row in
    let count : length key.parts ≡ length (key_columns_of plan t)
    = sym (length-map key.parts Some) ∙ ap length is.parts ∙ length-map cells key_part_of ∙ cells_long (columns_of plan t) (key_columns_of plan t) row long in
    record {
      table = subst (λ n. n < length plan.tables) (sym is.table) within;
      count = count ∙ ap (λ n. length (key_columns_of plan n)) (sym is.table);
      read = subst (λ n. key_of_lastpk plan n (lastpk_of key) ≡ Ok key) (sym is.table) (read_again law plan t row key parts is);
    }

pub keys_of_rows : ShortestTextsAreReadBack → KeysOfRowsAreTableKeys
keys_of_rows law plan t row key within parts e =
    table_key law plan t (map (column_at row) (key_columns_of plan t)) key within (length-map (key_columns_of plan t) (column_at row)) parts (key_picked plan t row key e)

pub keys_read : ShortestTextsAreReadBack → KeysReadAreTableKeys
keys_read law plan t row key within long parts e = table_key law plan t row key within long parts ((key-stands t (last_cells plan t row) key).0 e)
