-- The key of a row of a plan's table has parts as a key can have them.
use Rattle.std.proofs.Common.{◌≡◌, ℕ, ℤ, zero, suc, pos, negsuc, neg_ℤ, ◌+◌, ◌^◌, ◌<◌, ◌≤◌, ◌==◌, ◌&&◌, nat_lt, Bool, true, false, cond, List, [], ◌∷◌, map, length, Option, Some, None, Result, Ok, refl, sym, ap, subst, ◌∙◌, arith}
use Rattle.std.specs.Prelude.{slice_get}
use Rattle.std.specs.List.{AllByRecursion, list_all}
use Rattle.std.specs.Char.{is_ascii_digit}
use Rattle.std.specs.Option.{option_map, option_map_or}
use Rattle.std.specs.Str.Parse.{digits_value}
use Rattle.std.proofs.lemmas.Bool.{ltb-true}
use Rattle.std.proofs.lemmas.List.{length-map}
use Rattle.std.proofs.lemmas.List.Elements.{All-from_recursion}
use Rattle.vindex.specs.NumberText.{IsNumber, decimal_below, number_of_text}
use Rattle.filter_rule.specs.PlanTable.{TableValue}
use Rattle.filter_rule.specs.PlanValue.{PlanValue, columns_of, key_columns_of}
use Rattle.filter_rule.specs.TypeNumbers.{is_whole_number}
use Rattle.filter_rule.specs.WellFormed.{IsPlan}
use Rattle.pk_copy.specs.KeyValue.{Part, number, bytes, KeyValue, IsPart, AreParts}
use Rattle.pk_copy.specs.KeyOf.{KeyCell, key_part_of, cell_at, key_cells, key_of}
use Rattle.pk_copy.proofs.RelationLaws.{key-stands}

-- ---- numbers

decimal_within : (limit : ℕ) (digits : List ℕ) (n : ℕ) → decimal_below limit digits ≡ Some n → n < limit
decimal_within limit [] n e = cc
decimal_within limit (digit ∷ digits) n e = by (list_all is_ascii_digit (digit ∷ digits)) (nat_lt (digits_value 10 (digit ∷ digits)) limit) refl e
  where
    by : (all less : Bool) → nat_lt (digits_value 10 (digit ∷ digits)) limit ≡ less → cond (all && less) (Some (digits_value 10 (digit ∷ digits))) None ≡ Some n → n < limit
    by true true l e =
        let is : digits_value 10 (digit ∷ digits) ≡ n = cc in
        let small : digits_value 10 (digit ∷ digits) < limit = ltb-true (digits_value 10 (digit ∷ digits)) limit l in
        subst (λ m. m < limit) is small
    by true false l e = cc
    by false less l e = cc

positive : (o : Option ℕ) (limit : ℕ) (value : ℤ) → ((n : ℕ) → o ≡ Some n → n < limit) → limit ≡ 2 ^ 64 → option_map pos o ≡ Some value → IsNumber value
positive None limit value h e is = cc
positive (Some n) limit value h e is =
    let same : pos n ≡ value = cc in
    let small : n < limit = h n refl in
    subst IsNumber same (omega (arith, small, e))

negative : (o : Option ℕ) (limit : ℕ) (value : ℤ) → ((n : ℕ) → o ≡ Some n → n < limit) → limit ≡ 2 ^ 63 + 1 → option_map (λ n. neg_ℤ (pos n)) o ≡ Some value → IsNumber value
negative None limit value h e is = cc
negative (Some zero) limit value h e is =
    let same : pos zero ≡ value = cc in
    subst IsNumber same (omega arith)
negative (Some (suc n)) limit value h e is =
    let same : negsuc n ≡ value = cc in
    let small : suc n < limit = h (suc n) refl in
    subst IsNumber same (omega (arith, small, e))

number_within : (text : List ℕ) (value : ℤ) → number_of_text text ≡ Some value → IsNumber value
unfolding number_of_text
number_within [] value e = cc
number_within (byte ∷ rest) value e = by (byte == 45) e
  where
    by : (minus : Bool) → cond minus (option_map (λ n. neg_ℤ (pos n)) (decimal_below (2 ^ 63 + 1) rest)) (option_map pos (decimal_below (2 ^ 64) (byte ∷ rest))) ≡ Some value → IsNumber value
    by true e = negative (decimal_below (2 ^ 63 + 1) rest) (2 ^ 63 + 1) value (decimal_within (2 ^ 63 + 1) rest) refl e
    by false e = positive (decimal_below (2 ^ 64) (byte ∷ rest)) (2 ^ 64) value (decimal_within (2 ^ 64) (byte ∷ rest)) refl e

-- ---- parts

number_part : (o : Option ℤ) (part : Part) → ((value : ℤ) → o ≡ Some value → IsNumber value) → option_map number o ≡ Some part → IsPart part
number_part None part h e = cc
number_part (Some value) part h e =
    let same : number value ≡ part = cc in
    subst IsPart same (h value refl)

text_part : (whole : Bool) (text : List ℕ) (part : Part) → cond whole (option_map number (number_of_text text)) (Some (bytes text)) ≡ Some part → IsPart part
text_part true text part e = number_part (number_of_text text) part (number_within text) e
text_part false text part e =
    let same : bytes text ≡ part = cc in
    subst IsPart same tt

cell_part : (type_number : ℕ) (value : Option (List ℕ)) (part : Part) → key_part_of (record { type_number = type_number; value = value }) ≡ Some part → IsPart part
cell_part type_number None part e = cc
cell_part type_number (Some text) part e = text_part (is_whole_number type_number) text part e

cell_parts : (cells : List KeyCell) (parts : List Part) → map Some parts ≡ map key_part_of cells → AllByRecursion IsPart parts
cell_parts cells [] e = tt
cell_parts [] (part ∷ parts) e = cc
cell_parts (cell ∷ cells) (part ∷ parts) e =
    let here : key_part_of cell ≡ Some part = cc in
    let rest : map Some parts ≡ map key_part_of cells = cc in
    (cell_part cell.type_number cell.value part here, cell_parts cells parts rest)

few_columns : (tables : List TableValue) (t : ℕ) → t < length tables → ((i : ℕ) (table : TableValue) → slice_get tables i ≡ Some table → length table.key ≤ 8)
    → length (option_map_or (λ table. table.key) (slice_get tables t) []) ≤ 8
few_columns [] t within h = absurd (omega arith)
few_columns (table ∷ tables) zero within h = h 0 table refl
few_columns (table ∷ tables) (suc t) within h = let less : suc t < suc (length tables) = within in few_columns tables t (omega (arith, less)) (λ i. h (suc i))

pub key_parts : (plan : PlanValue) (t : ℕ) (row : List (Option (List ℕ))) (key : KeyValue) → IsPlan plan → t < length plan.tables → key_of plan t row ≡ Ok key → AreParts key.parts
key_parts plan t row key whole within e =
    let is = (key-stands t (key_cells plan t row) key).0 e in
    let long : length key.parts ≡ length (key_columns_of plan t) =
    sym (length-map key.parts Some) ∙ ap length is.parts ∙ length-map (key_cells plan t row) key_part_of ∙ length-map (key_columns_of plan t) (cell_at (columns_of plan t) row) in
    let few : length (key_columns_of plan t) ≤ 8 = few_columns plan.tables t within (λ i table at. (whole.tables.each_table i table at).key_count.1) in
    record {
      few = omega (arith, long, few);
      each_part = All-from_recursion IsPart key.parts (cell_parts (key_cells plan t row) key.parts is.parts);
    }
