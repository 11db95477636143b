-- The columns that a rule keeps of a table may be kept of it.
use Rattle.std.proofs.Common.{◌≡◌, ℕ, zero, suc, ◌<◌, List, [], ◌∷◌, length, map, Bool, true, false, cond, Option, Some, None, Result, Ok, Err, codes, refl, sym, ap, subst, ◌∙◌, arith}
use Rattle.std.specs.Prelude.{◌||◌, ◌==◌, slice_get, option_map, option_and_then}
use Rattle.std.specs.Option.{option_map_or}
use Rattle.std.specs.Str.{bytes_eq}
use Rattle.std.proofs.lemmas.Option.{slice_get_within, slice_get-map, same_Some}
use Rattle.std.proofs.lemmas.Slice.Eq.{bytes_eq-Decides}
use Rattle.std.proofs.lemmas.Bool.{or_parts}
use Rattle.list_laws.specs.Outcome.{each}
use Rattle.vindex.specs.Bounds.{Bounds}
use Rattle.vindex.specs.RangeText.{key_range_of_text}
use Rattle.filter_text.specs.ColumnList.{columns_of, has_column, has_twice}
use Rattle.filter_text.specs.FilterText.{FilterMeaning, RowsSaid, every_row, in_own_range, without_table, selected, begins_with_select, rows_of, table_rows, all_of, listed_rows, behind_select, selection_of, filter_of}
use Rattle.filter_text.specs.Lexemes.{Lexeme, is_key, named}
use Rattle.filter_text.specs.RuleScope.{scope_of}
use Rattle.filter_text.specs.Tokens.{tokens_of}
use Rattle.filter_rule.specs.Document.{RuleSaid}
use Rattle.filter_rule.specs.Faults.{Fault, bad_rule}
use Rattle.row_view.specs.FieldValue.{FieldValue}
use Rattle.filter_rule.specs.PlanTable.{TableValue}
use Rattle.filter_rule.specs.Resolving.{all_places, name_at, lists_key, place_in}
use Rattle.filter_rule.specs.Rules.{RuleForm, form_of, or_bad, agreeing, kept_by}
use Rattle.filter_rule.specs.WellFormed.{AreDistinct, AreColumnPlaces, Holds, AreKept, IsTable}
use Rattle.filter_rule.proofs.FirstRuleLaws.{found_ok}
use Rattle.filter_rule.proofs.StepLaws.{then_ok, same_ok, each_at, list_all_get}
use Rattle.filter_rule.proofs.RefusedSteps.{each_gives}
use Rattle.filter_rule.proofs.TableLaws.{place_found, column_found, distinct_places, kept_places}

-- ---- a filter lists no column twice

abbrev pub AreApart : Option (List (List ℕ)) → Type 0
AreApart None = Unit {0}
AreApart (Some names) = has_twice names ≡ false

selected_columns : (table : Option (List ℕ)) (rows : Option RowsSaid) (columns : Option (List (List ℕ))) (said : FilterMeaning)
    → option_and_then (λ t. option_and_then (λ r. Some (selected t columns r)) rows) table ≡ Some said → columns ≡ said.columns
selected_columns None rows columns said h = cc
selected_columns (Some t) None columns said h = cc
selected_columns (Some t) (Some r) columns said h = ap (λ (m : FilterMeaning). m.columns) (same_Some (selected t columns r) said h)

table_columns : (columns : Option (List (List ℕ))) (ts : List Lexeme) (said : FilterMeaning) → table_rows columns ts ≡ Some said → columns ≡ said.columns
unfolding table_rows
table_columns columns [] said h = cc
table_columns columns (t ∷ ts) said h = selected_columns (named t) (rows_of ts) columns said h

once : {A : Type 0} (b : Bool) (o : Option A) (y : A) → cond b None o ≡ Some y → (b ≡ false) × (o ≡ Some y)
once true o y h = cc
once false o y h = (refl, h)

listed_apart : (o : Option (List (List ℕ) × List Lexeme)) (said : FilterMeaning) → option_and_then listed_rows o ≡ Some said → AreApart said.columns
listed_apart None said h = cc
listed_apart (Some listed) said h =
    let parts = once (has_twice listed.0) (table_rows (Some listed.0) listed.1) said h in
    subst AreApart (table_columns (Some listed.0) listed.1 said parts.1) parts.0

behind_apart : (all : Option (List Lexeme)) (ts : List Lexeme) (said : FilterMeaning) → behind_select ts all ≡ Some said → AreApart said.columns
behind_apart None ts said h = listed_apart (columns_of ts) said h
behind_apart (Some rest) ts said h = subst AreApart (table_columns None rest said h) tt

if_so : {A : Type 0} (b : Bool) (o : Option A) (y : A) → cond b o None ≡ Some y → o ≡ Some y
if_so true o y h = h
if_so false o y h = cc

selection_apart : (o : Option (List Lexeme)) (said : FilterMeaning) → option_and_then selection_of o ≡ Some said → AreApart said.columns
unfolding selection_of
selection_apart None said h = cc
selection_apart (Some []) said h = cc
selection_apart (Some (t ∷ ts)) said h = behind_apart (all_of ts) ts said (if_so (is_key (codes "select") t) (behind_select ts (all_of ts)) said h)

range_apart : (o : Option Bounds) (said : FilterMeaning) → option_map (λ bounds. without_table (in_own_range bounds)) o ≡ Some said → AreApart said.columns
range_apart None said h = cc
range_apart (Some bounds) said h = subst AreApart (ap (λ (m : FilterMeaning). m.columns) (same_Some (without_table (in_own_range bounds)) said h)) tt

text_apart : (empty selects : Bool) (text : List ℕ) (said : FilterMeaning)
    → cond empty (Some (without_table every_row)) (cond selects (option_and_then selection_of (tokens_of text)) (option_map (λ bounds. without_table (in_own_range bounds)) (key_range_of_text text))) ≡ Some said → AreApart said.columns
text_apart true selects text said h = subst AreApart (ap (λ (m : FilterMeaning). m.columns) (same_Some (without_table every_row) said h)) tt
text_apart false true text said h = selection_apart (tokens_of text) said h
text_apart false false text said h = range_apart (key_range_of_text text) said h

filter_apart : (text : List ℕ) (said : FilterMeaning) → filter_of text ≡ Some said → AreApart said.columns
unfolding filter_of
filter_apart text said h = text_apart (length text == 0) (begins_with_select text) text said h

pub form_apart : (s n : ℕ) (r : RuleSaid) (form : RuleForm) → form_of s n r ≡ Ok form → AreApart form.columns
unfolding form_of
form_apart s n r form is =
    then_ok _ (or_bad s n (scope_of r.matches)) form is (λ scope scope_is h2.
    then_ok _ (or_bad s n (filter_of r.filter)) form h2 (λ filter filter_is h3.
    then_ok _ (agreeing s n r.uses_hash scope filter) form h3 (λ a a_is h4.
    subst AreApart (ap (λ (f : RuleForm). f.columns) (same_ok (record { scope = scope; columns = filter.columns; rows = filter.rows }) form h4))
    (filter_apart r.filter filter (found_ok s n (filter_of r.filter) filter filter_is)))))

-- ---- names of which none stands twice

name_there : (name : List ℕ) (names : List (List ℕ)) (i : ℕ) → slice_get names i ≡ Some name → has_column name names ≡ false → ⊥
name_there name [] i is h = cc
name_there name (n ∷ names) zero is h =
    let same : bytes_eq n name ≡ true = (bytes_eq-Decides n name).1 (same_Some n name is) in
    let other : bytes_eq n name ≡ false = (or_parts (bytes_eq n name) (has_column name names) h).0 in cc
name_there name (n ∷ names) (suc i) is h = name_there name names i is (or_parts (bytes_eq n name) (has_column name names) h).1

pub once_apart : (names : List (List ℕ)) → has_twice names ≡ false → AreDistinct names
once_apart [] h i j x a b = cc
once_apart (n ∷ names) h zero zero x a b = refl
once_apart (n ∷ names) h zero (suc j) x a b =
    absurd (name_there n names j (b ∙ sym a) (or_parts (has_column n names) (has_twice names) h).0)
once_apart (n ∷ names) h (suc i) zero x a b =
    absurd (name_there n names i (a ∙ sym b) (or_parts (has_column n names) (has_twice names) h).0)
once_apart (n ∷ names) h (suc i) (suc j) x a b = ap suc (once_apart names (or_parts (has_column n names) (has_twice names) h).1 i j x a b)

-- ---- the key

-- a name stands among these
record Stands (names : List (List ℕ)) (name : List ℕ) : Type 0 where
  place : ℕ
  is : slice_get names place ≡ Some name

stands_at : (b : Bool) (n : List ℕ) (names : List (List ℕ)) (name : List ℕ) → bytes_eq n name ≡ b → (b || has_column name names) ≡ true → (has_column name names ≡ true → Stands names name) → Stands (n ∷ names) name
stands_at true n names name is h more = record { place = 0; is = ap Some ((bytes_eq-Decides n name).0 is) }
stands_at false n names name is h more = let there = more h in record { place = suc there.place; is = there.is }

stands : (names : List (List ℕ)) (name : List ℕ) → has_column name names ≡ true → Stands names name
stands [] name h = let e : false ≡ true = h in cc
stands (n ∷ names) name h = stands_at (bytes_eq n name) n names name refl h (λ more. stands names name more)

-- what was read of an item stands at its place
each_there : {A B : Type 0} (f : A → Result B Fault) (xs : List A) (ys : List B) (i : ℕ) (x : A) (y : B) → each f xs ≡ Ok ys → slice_get xs i ≡ Some x → f x ≡ Ok y → slice_get ys i ≡ Some y
each_there f [] ys i x y h is gives = cc
each_there f (z ∷ xs) ys zero x y h is gives =
    then_ok _ (f z) ys h (λ w w_is h2. then_ok _ (each f xs) ys h2 (λ rest rest_is h3.
    let same : w ≡ y = same_ok w y (sym w_is ∙ ap f (same_Some z x is) ∙ gives) in
    ap (λ zs. slice_get zs 0) (sym (same_ok (w ∷ rest) ys h3)) ∙ ap Some same))
each_there f (z ∷ xs) ys (suc i) x y h is gives =
    then_ok _ (f z) ys h (λ w w_is h2. then_ok _ (each f xs) ys h2 (λ rest rest_is h3.
    ap (λ zs. slice_get zs (suc i)) (sym (same_ok (w ∷ rest) ys h3)) ∙ each_there f xs rest i x y rest_is is gives))

name_of_column : (columns : List FieldValue) (place : ℕ) (column : FieldValue) → slice_get columns place ≡ Some column → name_at columns place ≡ column.name
name_of_column columns place column is = ap (λ o. option_map_or (λ (c : FieldValue). c.name) o []) is

there_within : (columns : List FieldValue) (place : ℕ) → place < length columns → (column : FieldValue) × (slice_get columns place ≡ Some column)
there_within [] place h = absurd (omega arith)
there_within (c ∷ columns) zero h = (c, refl)
there_within (c ∷ columns) (suc place) h = there_within columns place (omega arith)

names_at : (columns : List FieldValue) (place : ℕ) (column : FieldValue) → slice_get columns place ≡ Some column → slice_get (map (λ (c : FieldValue). c.name) columns) place ≡ Some column.name
names_at columns place column is = slice_get-map (λ (c : FieldValue). c.name) columns place ∙ ap (option_map (λ (c : FieldValue). c.name)) is

-- the column of a name, where names are distinct
same_column : (columns : List FieldValue) (place other : ℕ) (name : List ℕ) → AreDistinct (map (λ (c : FieldValue). c.name) columns) → place < length columns → name_at columns place ≡ name
    → (column : FieldValue) → slice_get columns other ≡ Some column → column.name ≡ name → other ≡ place
same_column columns place other name apart within is column there named =
    let here = there_within columns place within in
    let same : column.name ≡ here.0.name = named ∙ sym is ∙ name_of_column columns place here.0 here.1 in
    apart other place column.name (names_at columns other column there) (names_at columns place here.0 here.1 ∙ ap Some (sym same))

listed_key : (table : List ℕ) (columns : List FieldValue) (names : List (List ℕ)) (kept : List ℕ) (place : ℕ) → AreDistinct (map (λ (c : FieldValue). c.name) columns) → each (place_in table columns) names ≡ Ok kept → place < length columns
    → has_column (name_at columns place) names ≡ true → Holds kept place
listed_key table columns names kept place apart are within has =
    let there = stands names (name_at columns place) has in
    let found = each_gives (place_in table columns) names kept there.place (name_at columns place) are there.is in
    let column = column_found columns (name_at columns place) found.0 (place_found table columns (name_at columns place) found.0 found.1) in
    let same = same_column columns place found.0 (name_at columns place) apart within refl column.column column.stands column.named in
    (there.place, each_there (place_in table columns) names kept there.place (name_at columns place) place are there.is (found.1 ∙ ap Ok same))

listed_within : (table : List ℕ) (columns : List FieldValue) (names : List (List ℕ)) (kept : List ℕ) → each (place_in table columns) names ≡ Ok kept → AreColumnPlaces columns kept
listed_within table columns names kept are i place is =
    let from = each_at (place_in table columns) names kept are i place is in
    let column = column_found columns from.item place (place_found table columns from.item place from.gives) in
    slice_get_within columns place column.column column.stands

list_kept : (b : Bool) (s n : ℕ) (names : List (List ℕ)) (t : TableValue) (kept : List ℕ) → IsTable t → has_twice names ≡ false → lists_key names t.columns t.key ≡ b
    → cond b (each (place_in t.name t.columns) names) (Err (bad_rule s n)) ≡ Ok kept → AreKept t.columns t.key kept
list_kept true s n names t kept fit twice listed h = record {
  places = listed_within t.name t.columns names kept h;
  apart = distinct_places t.name t.columns names kept (once_apart names twice) h;
  key_kept = λ i place is.
      listed_key t.name t.columns names kept place fit.column_names h (fit.key_columns i place is).within
      (list_all_get (λ p. has_column (name_at t.columns p) names) t.key i place listed is);
}
list_kept false s n names t kept fit twice listed h = cc

pub rule_kept : (s n : ℕ) (columns : Option (List (List ℕ))) (t : TableValue) (kept : List ℕ) → IsTable t → AreApart columns → kept_by s n columns t ≡ Ok kept → AreKept t.columns t.key kept
rule_kept s n None t kept fit apart h = subst (AreKept t.columns t.key) (same_ok (all_places t.columns) kept h) (kept_places t.columns t.key (λ i place is. (fit.key_columns i place is).within))
rule_kept s n (Some names) t kept fit apart h = list_kept (lists_key names t.columns t.key) s n names t kept fit apart refl h
