-- What the comparison is as JSON has no float, and lists that are made value by value.
use Rattle.std.proofs.Common.{◌≡◌, ◌∙◌, ℕ, ◌+◌, ◌-◌, ◌<◌, List, [], ◌∷◌, ◌++◌, refl, sym, ap, subst, false, Option, None, Some, map, append_assoc, append-nil}
use Rattle.std.proofs.lemmas.List.{map-append}
use Rattle.std.specs.Prelude.{codes}
use Rattle.filter_rule.specs.PlanTable.{TableValue, name_of_table}
use Rattle.pk_copy.specs.KeyValue.{Part, KeyValue}
use Rattle.pk_copy.specs.KeyOrder.{key_cmp}
use Rattle.target_tables.specs.Rising.{IsRising}
use Rattle.serde_json.specs.Data.{Data, Members, member, no_members, object, array, string}
use Rattle.serde_json.specs.View.{items_of}
use Rattle.serde_json.specs.Written.{has_float, items_have_float, members_have_float}
use Rattle.dump.specs.DumpRowsValue.{RowValue, DumpRowsValue}
use Rattle.vdiff.specs.declared.report.Report.{Report}
use Rattle.dump.specs.KeyText.{part_cell}
use Rattle.vdiff.specs.Json.{cell_data, row_data, side_data, key_data, difference_data, counts_before, table_data, comparison_data, error_data}
use Rattle.vdiff.specs.Differences.{Difference, AreFirstDifferences}
use Rattle.vdiff.specs.Found.{IsNextDifference}
use Rattle.vdiff.specs.Reports.{NamedReport}
use Rattle.vdiff.proofs.DifferenceLaws.{AreFoundTo, found_none, found_more}

-- ---- no float

items_no_float : {X : Type 0} (f : X → Data) → ((x : X) → has_float (f x) ≡ false) → (xs : List X) → items_have_float (items_of (map f xs)) ≡ false
items_no_float f none [] = refl
items_no_float f none (x ∷ xs) = rw (none x, items_no_float f none xs) refl

cell_no_float : (column : Option (List ℕ)) → has_float (cell_data column) ≡ false
cell_no_float None = refl
cell_no_float (Some value) = refl

side_no_float : (row : Option RowValue) → has_float (side_data row) ≡ false
side_no_float None = refl
side_no_float (Some row) = items_no_float cell_data cell_no_float row

key_no_float : (key : KeyValue) → has_float (key_data key) ≡ false
key_no_float key = items_no_float (λ part. string (part_cell part)) (λ part. refl) key.parts

difference_no_float : (tables : List TableValue) (one : Difference) → has_float (difference_data tables one) ≡ false
difference_no_float tables one = rw (key_no_float one.key, side_no_float one.source, side_no_float one.target) refl

counts_no_float : (report : Report) (others : Members) → members_have_float others ≡ false → members_have_float (counts_before report others) ≡ false
counts_no_float report others none = none

pub comparison_no_float : (tables : List TableValue) (report : Report) (reports : List NamedReport) (found : List Difference) → has_float (comparison_data tables report reports found) ≡ false
comparison_no_float tables report reports found =
    rw (
      items_no_float (difference_data tables) (difference_no_float tables) found,
      items_no_float table_data (λ table. counts_no_float table.report (member (codes "table") (string table.name) no_members) refl) reports,
    ) refl

-- ---- one value more

pub made_more : {X : Type 0} (f : X → Data) (done : List Data) (made : Data) (whole left : List X) (x : X) (rest : List X) → left ≡ x ∷ rest → made ≡ f x → done ++ map f left ≡ map f whole → (done ++ made ∷ []) ++ map f rest ≡ map f whole
made_more f done made whole left x rest is one so_far =
    append_assoc done (made ∷ []) (map f rest) ∙ ap (λ (d : Data). done ++ d ∷ map f rest) one ∙ ap (λ l. done ++ map f l) (sym is) ∙ so_far

-- ---- the loop over differences

pub record AreMadeTo (tables : List TableValue) (n i : ℕ) (source target left right : DumpRowsValue) (made : List Data) : Type 0 where
  pub found : List Difference
  pub are_found : AreFoundTo n i source target left right found
  pub are_made : made ≡ map (difference_data tables) found

pub made_none : (tables : List TableValue) (n : ℕ) (source target : DumpRowsValue) (made : List Data) → made ≡ [] → IsRising key_cmp source → IsRising key_cmp target → AreMadeTo tables n 0 source target source target made
made_none tables n source target made none rising rises = record { found = []; are_found = found_none n source target rising rises; are_made = none }

pub made_one : (tables : List TableValue) (n i : ℕ) (source target left right : DumpRowsValue) (made : List Data) (least : Difference) (lefts rights : DumpRowsValue) (one : Data) → i < n → AreMadeTo tables n i source target left right made
    → IsNextDifference left right least lefts rights → one ≡ difference_data tables least → AreMadeTo tables n (i + 1) source target lefts rights (made ++ one ∷ [])
made_one tables n i source target left right made least lefts rights one lt so_far next is = record {
  found = so_far.found ++ least ∷ [];
  are_found = found_more n i source target left right so_far.found least lefts rights lt so_far.are_found next;
  are_made = ap (λ (l : List Data). l ++ one ∷ []) so_far.are_made ∙ ap (λ (d : Data). map (difference_data tables) so_far.found ++ d ∷ []) is ∙ sym (map-append (difference_data tables) so_far.found (least ∷ []));
}
