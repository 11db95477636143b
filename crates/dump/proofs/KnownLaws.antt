-- Lines that are known as text, and the rows that they are.
use Rattle.std.proofs.Common.{◌≡◌, ℕ, ◌-◌, ◌<◌, ◌≤◌, ◌⊎◌, inl, inr, List, [], ◌∷◌, ◌++◌, length, take, map, get_or, refl, sym, ap, ◌∙◌, subst, append_assoc, append-nil, length-append, arith, Some, Result, Ok, Err}
use Rattle.std.specs.Prelude.{slice_get}
use Rattle.std.specs.List.{AllByRecursion}
use Rattle.std.proofs.lemmas.List.{map-append, take_at, get_or-map, get_or_append_left, length-map}
use Rattle.std.proofs.lemmas.List.Elements.{All-from_recursion}
use Rattle.std.proofs.lemmas.Option.{slice_get_within, slice_get-get_or, same_Some}
use Rattle.filter_rule.specs.PlanValue.{PlanValue}
use Rattle.pk_copy.specs.KeyValue.{KeyValue}
use Rattle.dump.specs.Dump.{row_line}
use Rattle.dump.specs.DumpReading.{FitsPlan, Behind, CanStand}
use Rattle.dump.specs.Private.Known.{AreLinesOf, KeepsLine, StandsKnown}
use Rattle.dump.specs.Private.Reading.{TakesLine}
use Rattle.dump.specs.DumpRowsValue.{RowValue, DumpRowsValue}

abbrev lines_of : DumpRowsValue → List (List ℕ)
lines_of rows = map (λ row. row_line row.1) rows

-- ---- the line at a place

pub line_there : (lines : List (List ℕ)) (rows : DumpRowsValue) (i : ℕ) (line : List ℕ) (row : KeyValue × RowValue) → AreLinesOf lines rows → slice_get lines i ≡ Some line → slice_get rows i ≡ Some row → line ≡ row_line row.1
line_there lines rows i line row are lines_at rows_at =
    let within : i < length lines = slice_get_within lines i line lines_at in
    let front : i < length are.front = omega (arith, within, ap length are.lines_are, length-map are.front (λ (row : KeyValue × RowValue). row_line row.1)) in
    let inside : i < length rows = slice_get_within rows i row rows_at in
    let line_is : line ≡ get_or lines i line = same_Some line (get_or lines i line) (sym lines_at ∙ slice_get-get_or lines i line within) in
    let row_is : row ≡ get_or rows i row = same_Some row (get_or rows i row) (sym rows_at ∙ slice_get-get_or rows i row inside) in
    let there : row ≡ get_or are.front i row = row_is ∙ ap (λ (all : DumpRowsValue). get_or all i row) are.parts ∙ get_or_append_left are.front are.others row i front in
    line_is
    ∙ ap (λ (all : List (List ℕ)). get_or all i line) are.lines_are
    ∙ get_or-map (λ (row : KeyValue × RowValue). row_line row.1) are.front i row line front
    ∙ ap (λ (r : KeyValue × RowValue). row_line r.1) (sym there)

-- ---- a line more

-- lines stay those of the first rows where rows are added
lines_stay : (lines : List (List ℕ)) (rows more : DumpRowsValue) → AreLinesOf lines rows → AreLinesOf lines (rows ++ more)
lines_stay lines rows more are = record {
  front = are.front;
  others = are.others ++ more;
  parts = ap (λ (all : DumpRowsValue). all ++ more) are.parts ∙ append_assoc are.front are.others more;
  lines_are = are.lines_are;
}

none_left : (others : DumpRowsValue) → length others ≡ 0 → others ≡ []
none_left [] e = refl
none_left (row ∷ others) e = absurd (omega arith)

-- the line of the row that is added behind rows whose lines are all known
line_more : (lines : List (List ℕ)) (rows : DumpRowsValue) (row : KeyValue × RowValue) (line : List ℕ) → AreLinesOf lines rows → length lines ≡ length rows → line ≡ row_line row.1 → AreLinesOf (lines ++ line ∷ []) (rows ++ row ∷ [])
line_more lines rows row line are all is =
    let count : length are.others ≡ 0 = omega (arith, all, ap length are.lines_are, length-map are.front (λ (row : KeyValue × RowValue). row_line row.1), ap length are.parts, length-append are.front are.others) in
    let rows_are : rows ≡ are.front = are.parts ∙ ap (λ (others : DumpRowsValue). are.front ++ others) (none_left are.others count) ∙ append-nil are.front in
    record {
      front = rows ++ row ∷ [];
      others = [];
      parts = sym (append-nil (rows ++ row ∷ []));
      lines_are =
          ap (λ (l : List ℕ). lines ++ l ∷ []) is
          ∙ ap (λ (all : List (List ℕ)). all ++ row_line row.1 ∷ []) (are.lines_are ∙ ap lines_of (sym rows_are))
          ∙ sym (map-append (λ (row : KeyValue × RowValue). row_line row.1) rows (row ∷ []));
    }

-- a line was taken: the lines that are known, and perhaps it, are those of the first rows
module _ (plan : PlanValue) (old new : Behind) (text rest : List ℕ) (lines more : List (List ℕ)) (count : ℕ) (are : AreLinesOf lines old.rows) (count_is : count ≡ length old.rows) where
  stayed : (line : List ℕ) → CanStand plan old new line → AreLinesOf lines new.rows
  stayed line (inl table) = subst (AreLinesOf lines) (sym (ap (λ (s : Behind). s.rows) table.is_new)) are
  stayed line (inr row) = subst (AreLinesOf lines) (sym (ap (λ (s : Behind). s.rows) row.is_new)) (lines_stay lines old.rows (row.row ∷ []) are)

  kept : (line : List ℕ) → text ≡ line ++ rest → CanStand plan old new line → KeepsLine count (length new.rows) lines more (take (length text - length rest) text) → AreLinesOf more new.rows
  kept line parts (inl table) keeps = absurd (omega (arith, keeps.added, count_is, ap length (ap (λ (s : Behind). s.rows) table.is_new)))
  kept line parts (inr row) keeps =
      let size : length line ≡ length text - length rest = omega (arith, ap length parts, length-append line rest) in
      let is : take (length text - length rest) text ≡ row_line row.row.1 = ap (take (length text - length rest)) parts ∙ take_at line rest (length text - length rest) size ∙ row.is_line in
      subst (AreLinesOf more) (sym (ap (λ (s : Behind). s.rows) row.is_new))
      (subst (λ (all : List (List ℕ)). AreLinesOf all (old.rows ++ row.row ∷ [])) (sym keeps.kept) (line_more lines old.rows row.row (take (length text - length rest) text) are (keeps.all ∙ count_is) is))

  pub lines_follow : TakesLine plan old new text rest → (more ≡ lines) ⊎ KeepsLine count (length new.rows) lines more (take (length text - length rest) text) → AreLinesOf more new.rows
  lines_follow taken (inl same) = subst (λ (all : List (List ℕ)). AreLinesOf all new.rows) (sym same) (stayed taken.line taken.can)
  lines_follow taken (inr keeps) = kept taken.line taken.parts taken.can keeps

-- what stands behind a line is no longer than the text
pub rest_within : (plan : PlanValue) (old new : Behind) (text rest : List ℕ) → TakesLine plan old new text rest → length rest ≤ length text
rest_within plan old new text rest taken = omega (arith, ap length taken.parts, length-append taken.line rest)

-- ---- a known line in front

fits_there : (plan : PlanValue) (known : DumpRowsValue) (i : ℕ) (row : KeyValue × RowValue) → AllByRecursion (FitsPlan plan) known → slice_get known i ≡ Some row → FitsPlan plan row
fits_there plan known i row all at =
    let inside : i < length known = slice_get_within known i row at in
    subst (FitsPlan plan) (same_Some (get_or known i row) row (sym (slice_get-get_or known i row inside) ∙ at)) (All-from_recursion (FitsPlan plan) known all i row inside)

pub known_fits : (plan : PlanValue) (known : DumpRowsValue) (old : Behind) (text : List ℕ) (row : KeyValue × RowValue) (rest : List ℕ) → AllByRecursion (FitsPlan plan) known → StandsKnown known old text row rest → FitsPlan plan row
known_fits plan known old text row rest all found = fits_there plan known found.place row all found.stands

-- it is the line of a row that can stand there
pub known_stands : (plan : PlanValue) (known : DumpRowsValue) (old : Behind) (text rest : List ℕ) (row : KeyValue × RowValue) → AllByRecursion (FitsPlan plan) known → StandsKnown known old text row rest → TakesLine plan old (record { begun = old.begun; rows = old.rows ++ row ∷ [] }) text rest
known_stands plan known old text rest row all found = record {
  line = row_line row.1;
  parts = found.parts;
  can = inr record { row = row; fits = fits_there plan known found.place row all found.stands; begun_last = found.begun_last; above = found.above; is_line = refl; is_new = refl };
}

-- ---- results

pub no_fault : {X E : Type 0} (x : X) (a b : E) → (◌≡◌ {A = Result X E} (Ok x) (Err a)) ⊎ (◌≡◌ {A = Result X E} (Ok x) (Err b)) → ⊥
no_fault x a b (inl e) = cc
no_fault x a b (inr e) = cc
