-- What is read of a filter's text is what the text says.
use Rattle.std.proofs.Common.{◌≡◌, ℕ, List, [], ◌∷◌, length, Bool, true, false, cond, Option, Some, None, Result, Ok, Err, option_map, option_and_then, refl, sym, ap, subst, ◌∙◌, codes, true≢false}
use Rattle.std.specs.Prelude.{◌==◌, ◌&&◌, IfOk}
use Rattle.std.specs.Str.{bytes_eq, str_eq_ignore_ascii_case}
use Rattle.std.proofs.lemmas.Bool.{and_parts}
use Rattle.std.proofs.lemmas.Slice.Eq.{bytes_eq-Decides}
use Rattle.std.proofs.lemmas.Option.{same_Some}
use Rattle.list_laws.proofs.Choices.{mapped}
use Rattle.vindex.specs.Bounds.{Bounds}
use Rattle.vindex.specs.RangeText.{key_range_of_text}
use Rattle.vindex.specs.KeyspaceId.{vindex_of_name, vindex_name}
use Rattle.vindex.specs.declared.vindexes.Vindex.{Vindex}
use Rattle.vindex.specs.declared.vindexes.Vindex.TheVariants.{Numeric, ReverseBits, Binary, BinaryMd5, Hash}
use Rattle.filter_text.specs.Lexemes.{Lexeme, word, name, quoted, mark, is_key, is_this_mark, named, text_in_quotes}
use Rattle.filter_text.specs.Tokens.{SpellsTokens, tokens_of}
use Rattle.filter_text.specs.FilterText.{RowsSaid, every_row, in_own_range, in_range_of, FilterMeaning, without_table, selected, begins_with_select, Place, key, a_name, in_quotes, a_mark, Fill, condition_places, list_places, column_places, selection_places, AreColumns, WritesRange, Says, says_nothing, gives_range, selects, range_in, vindex_in, rows_of_own_range, named_rows, are_between, arguments_of, opens_condition, rows_of, from_table, table_rows, opens_all, all_of, listed_rows, behind_select, selection_of, filter_of}
use Rattle.filter_text.specs.ColumnList.{column_of, last_column, with_column, columns_of, has_twice}
use Rattle.filter_text.specs.Views.{Reads, meaning}
use Rattle.filter_text.specs.declared.filter.Filter.{Filter}
use Rattle.filter_text.specs.declared.fault.FilterFault.{FilterFault}
use Rattle.filter_text.proofs.SpellLaws.{read_of_spelled, spells_of_read, first_word_is, some_length}

-- ---- what is written is read

vindex_back : (vindex : Vindex) → vindex_of_name (vindex_name vindex) ≡ Some vindex
vindex_back Numeric = refl
vindex_back ReverseBits = refl
vindex_back Binary = refl
vindex_back BinaryMd5 = refl
vindex_back Hash = refl

own_read : (r c : Lexeme) (range : List ℕ) (bounds : Bounds) → text_in_quotes r ≡ Some range → is_this_mark 41 c ≡ true → key_range_of_text range ≡ Some bounds → rows_of_own_range r c ≡ Some (in_own_range bounds)
own_read r c range bounds q m h = rw (m, q, h) refl

own_back : (ts : List Lexeme) (range : List ℕ) (bounds : Bounds) → Fill ts (in_quotes range ∷ a_mark 41 ∷ []) → key_range_of_text range ≡ Some bounds → arguments_of ts ≡ Some (in_own_range bounds)
unfolding arguments_of
own_back [] range bounds f h = absurd f
own_back (r ∷ []) range bounds f h = absurd f.1
own_back (r ∷ c ∷ []) range bounds f h = own_read r c range bounds f.0 f.1.0 h
own_back (r ∷ c ∷ x ∷ ts) range bounds f h = absurd f.1.1

named_read : (c v r : Lexeme) (column range : List ℕ) (vindex : Vindex) (bounds : Bounds) → named c ≡ Some column → text_in_quotes v ≡ Some (vindex_name vindex) → text_in_quotes r ≡ Some range → key_range_of_text range ≡ Some bounds
    → named_rows c v r ≡ Some (in_range_of column vindex bounds)
named_read c v r column range vindex bounds n q p h = rw (n, q, vindex_back vindex, p, h) refl

both : (k m e : Lexeme) → is_this_mark 44 k ≡ true → is_this_mark 44 m ≡ true → is_this_mark 41 e ≡ true → are_between k m e ≡ true
both k m e f g h = rw (f, g, h) refl

named_back : (ts : List Lexeme) (column range : List ℕ) (vindex : Vindex) (bounds : Bounds) → Fill ts (a_name column ∷ a_mark 44 ∷ in_quotes (vindex_name vindex) ∷ a_mark 44 ∷ in_quotes range ∷ a_mark 41 ∷ []) → key_range_of_text range ≡ Some bounds
    → arguments_of ts ≡ Some (in_range_of column vindex bounds)
unfolding arguments_of
named_back [] column range vindex bounds f h = absurd f
named_back (c ∷ []) column range vindex bounds f h = absurd f.1
named_back (c ∷ k ∷ []) column range vindex bounds f h = absurd f.1.1
named_back (c ∷ k ∷ v ∷ []) column range vindex bounds f h = absurd f.1.1.1
named_back (c ∷ k ∷ v ∷ m ∷ []) column range vindex bounds f h = absurd f.1.1.1.1
named_back (c ∷ k ∷ v ∷ m ∷ r ∷ []) column range vindex bounds f h = absurd f.1.1.1.1.1
named_back (c ∷ k ∷ v ∷ m ∷ r ∷ e ∷ []) column range vindex bounds f h =
    ap (λ b. cond b (named_rows c v r) None) (both k m e f.1.0 f.1.1.1.0 f.1.1.1.1.1.0)
    ∙ named_read c v r column range vindex bounds f.0 f.1.1.0 f.1.1.1.1.0 h
named_back (c ∷ k ∷ v ∷ m ∷ r ∷ e ∷ x ∷ ts) column range vindex bounds f h = absurd f.1.1.1.1.1.1

opens : (a b c : Lexeme) → is_key (codes "where") a ≡ true → is_key (codes "in_keyrange") b ≡ true → is_this_mark 40 c ≡ true → opens_condition a b c ≡ true
opens a b c f g h = rw (f, g, h) refl

rows_back : (ts : List Lexeme) (range : List ℕ) (rows : RowsSaid) → Fill ts (condition_places range rows) → WritesRange range rows → rows_of ts ≡ Some rows
unfolding rows_of
rows_back [] range every_row f w = refl
rows_back (t ∷ ts) range every_row f w = absurd f
rows_back [] range (in_own_range bounds) f w = absurd f
rows_back (a ∷ []) range (in_own_range bounds) f w = absurd f.1
rows_back (a ∷ b ∷ []) range (in_own_range bounds) f w = absurd f.1.1
rows_back (a ∷ b ∷ c ∷ ts) range (in_own_range bounds) f w =
    ap (λ x. cond x (arguments_of ts) None) (opens a b c f.0 f.1.0 f.1.1.0) ∙ own_back ts range bounds f.1.1.1 w
rows_back [] range (in_range_of column vindex bounds) f w = absurd f
rows_back (a ∷ []) range (in_range_of column vindex bounds) f w = absurd f.1
rows_back (a ∷ b ∷ []) range (in_range_of column vindex bounds) f w = absurd f.1.1
rows_back (a ∷ b ∷ c ∷ ts) range (in_range_of column vindex bounds) f w =
    ap (λ x. cond x (arguments_of ts) None) (opens a b c f.0 f.1.0 f.1.1.0) ∙ named_back ts column range vindex bounds f.1.1.1 w

all_opens : (a b : Lexeme) → is_this_mark 42 a ≡ true → is_key (codes "from") b ≡ true → opens_all a b ≡ true
all_opens a b f g = rw (f, g) refl

table_read : (t : Lexeme) (ts : List Lexeme) (table : List ℕ) (columns : Option (List (List ℕ))) (rows : RowsSaid) → named t ≡ Some table → rows_of ts ≡ Some rows → from_table columns t ts ≡ Some (selected table columns rows)
table_read t ts table columns rows n r = rw (n, r) refl

table_back : (ts : List Lexeme) (table : List ℕ) (columns : Option (List (List ℕ))) (range : List ℕ) (rows : RowsSaid) → Fill ts (a_name table ∷ condition_places range rows) → WritesRange range rows
    → table_rows columns ts ≡ Some (selected table columns rows)
unfolding table_rows
table_back [] table columns range rows f w = absurd f
table_back (t ∷ ts) table columns range rows f w = table_read t ts table columns rows f.0 (rows_back ts range rows f.1 w)

-- ---- listed columns

-- the tokens behind a list
record Behind (ts : List Lexeme) (columns : List (List ℕ)) (places : List Place) : Type 0 where
  rest : List Lexeme
  is : columns_of ts ≡ Some (columns, rest)
  fill : Fill rest places

no_comma_key : (m : Lexeme) (k : List ℕ) → is_this_mark 44 m ≡ true → is_key k m ≡ false
no_comma_key (word w) k h = let e : false ≡ true = h in cc
no_comma_key (name n) k h = let e : false ≡ true = h in cc
no_comma_key (quoted q) k h = let e : false ≡ true = h in cc
no_comma_key (mark m) k h = refl

last_is : (a b : Lexeme) (ts : List Lexeme) (c : List ℕ) → column_of a ≡ Some c → is_key (codes "from") b ≡ true → columns_of (a ∷ b ∷ ts) ≡ Some (c ∷ [], ts)
unfolding columns_of
last_is a b ts c f g = rw (g, f) refl

more_is : (a b : Lexeme) (ts : List Lexeme) (c : List ℕ) (columns : List (List ℕ)) (rest : List Lexeme) → column_of a ≡ Some c → is_this_mark 44 b ≡ true → columns_of ts ≡ Some (columns, rest) → columns_of (a ∷ b ∷ ts) ≡ Some (c ∷ columns, rest)
unfolding columns_of
more_is a b ts c columns rest f g h = rw (no_comma_key b (codes "from") g, g, f, h) refl

list_back : (ts : List Lexeme) (c : List ℕ) (cs : List (List ℕ)) (places : List Place) → Fill ts (list_places (c ∷ cs) places) → Behind ts (c ∷ cs) places
list_back [] c [] places f = absurd f
list_back [] c (d ∷ cs) places f = absurd f
list_back (a ∷ []) c [] places f = absurd f.1
list_back (a ∷ []) c (d ∷ cs) places f = absurd f.1
list_back (a ∷ b ∷ ts) c [] places f = record { rest = ts; is = last_is a b ts c f.0 f.1.0; fill = f.1.1 }
list_back (a ∷ b ∷ ts) c (d ∷ cs) places f =
    let more = list_back ts d cs places f.1.1 in
    record { rest = more.rest; is = more_is a b ts c (d ∷ cs) more.rest f.0 f.1.0 more.is; fill = more.fill }

-- a list doesn't begin with `*`
no_star : (a : Lexeme) (ts : List Lexeme) (c : List ℕ) → column_of a ≡ Some c → all_of (a ∷ ts) ≡ None
unfolding all_of
no_star (word w) [] c h = refl
no_star (word w) (b ∷ ts) c h = refl
no_star (name n) [] c h = refl
no_star (name n) (b ∷ ts) c h = refl
no_star (quoted q) ts c h = cc
no_star (mark m) ts c h = cc

list_opens : (ts : List Lexeme) (c : List ℕ) (cs : List (List ℕ)) (places : List Place) → Fill ts (list_places (c ∷ cs) places) → all_of ts ≡ None
list_opens [] c [] places f = absurd f
list_opens [] c (d ∷ cs) places f = absurd f
list_opens (a ∷ ts) c [] places f = no_star a ts c f.0
list_opens (a ∷ ts) c (d ∷ cs) places f = no_star a ts c f.0

listed_back : (ts : List Lexeme) (table : List ℕ) (c : List ℕ) (cs : List (List ℕ)) (range : List ℕ) (rows : RowsSaid) → has_twice (c ∷ cs) ≡ false → Fill ts (list_places (c ∷ cs) (a_name table ∷ condition_places range rows)) → WritesRange range rows
    → option_and_then listed_rows (columns_of ts) ≡ Some (selected table (Some (c ∷ cs)) rows)
listed_back ts table c cs range rows once f w =
    let list = list_back ts c cs (a_name table ∷ condition_places range rows) f in
    ap (option_and_then listed_rows) list.is
    ∙ ap (λ b. cond b None (table_rows (Some (c ∷ cs)) list.rest)) once
    ∙ table_back list.rest table (Some (c ∷ cs)) range rows list.fill w

behind_back : (ts : List Lexeme) (table : List ℕ) (columns : Option (List (List ℕ))) (range : List ℕ) (rows : RowsSaid) → AreColumns columns → Fill ts (column_places columns (a_name table ∷ condition_places range rows)) → WritesRange range rows
    → behind_select ts (all_of ts) ≡ Some (selected table columns rows)
unfolding all_of
behind_back [] table None range rows are f w = absurd f
behind_back (a ∷ []) table None range rows are f w = absurd f.1
behind_back (a ∷ b ∷ ts) table None range rows are f w =
    ap (λ x. behind_select (a ∷ b ∷ ts) (cond x (Some ts) None)) (all_opens a b f.0 f.1.0) ∙ table_back ts table None range rows f.1.1 w
behind_back ts table (Some []) range rows are f w = absurd (are.0 refl)
behind_back ts table (Some (c ∷ cs)) range rows are f w =
    ap (behind_select ts) (list_opens ts c cs (a_name table ∷ condition_places range rows) f) ∙ listed_back ts table c cs range rows are.1 f w

selection_back : (ts : List Lexeme) (table : List ℕ) (columns : Option (List (List ℕ))) (range : List ℕ) (rows : RowsSaid) → AreColumns columns → Fill ts (selection_places table columns range rows) → WritesRange range rows
    → selection_of ts ≡ Some (selected table columns rows)
unfolding selection_of
selection_back [] table columns range rows are f w = absurd f
selection_back (a ∷ ts) table columns range rows are f w =
    ap (λ x. cond x (behind_select ts (all_of ts)) None) f.0 ∙ behind_back ts table columns range rows are f.1 w

selects_first : (ts : List Lexeme) (text : List ℕ) (places : List Place) → SpellsTokens ts text → Fill ts (key (codes "select") ∷ places) → begins_with_select text ≡ true
selects_first [] text places spells f = absurd f
selects_first (word w ∷ ts) text places spells f = ap (λ x. str_eq_ignore_ascii_case x (codes "select")) (first_word_is text w spells.0 spells.1) ∙ f.0
selects_first (name n ∷ ts) text places spells f = let h : false ≡ true = f.0 in cc
selects_first (quoted q ∷ ts) text places spells f = let h : false ≡ true = f.0 in cc
selects_first (mark m ∷ ts) text places spells f = let h : false ≡ true = f.0 in cc

cons_apart : (b : ℕ) (text : List ℕ) → (b ∷ text) ≡ [] → ⊥
cons_apart b text e = cc

begins_not_empty : (text : List ℕ) → begins_with_select text ≡ true → (length text == 0) ≡ false
begins_not_empty [] h = let e : false ≡ true = h in cc
begins_not_empty (b ∷ text) h = some_length (b ∷ text) (λ e. cons_apart b text e)

pub filter_of_says : (text : List ℕ) (said : FilterMeaning) → Says text said → filter_of text ≡ Some said
unfolding filter_of
filter_of_says text said (says_nothing empty is) = rw (empty, is) refl
filter_of_says text said (gives_range bounds some other read is) = rw (some_length text some, other, read, is) refl
filter_of_says text said (selects ts table columns range rows spells fill are writes is) =
    let first = selects_first ts text (column_places columns (a_name table ∷ condition_places range rows)) spells fill in
    rw (begins_not_empty text first, first, read_of_spelled ts text spells) (selection_back ts table columns range rows are fill writes ∙ ap Some (sym is))

-- ---- what is read is written

-- a rows' text, in the places of its condition
pub record Arguments (ts : List Lexeme) (rows : RowsSaid) : Type 0 where
  pub range : List ℕ
  pub writes : WritesRange range rows
  pub fill : (a b c : Lexeme) → is_key (codes "where") a ≡ true → is_key (codes "in_keyrange") b ≡ true → is_this_mark 40 c ≡ true → Fill (a ∷ b ∷ c ∷ ts) (condition_places range rows)

chosen : {A : Type 0} (x : Bool) (o : Option A) (y : A) → cond x o None ≡ Some y → (x ≡ true) × (o ≡ Some y)
chosen true o y h = (refl, h)
chosen false o y h = cc

all_three : (x y z : Bool) → ((x && y) && z) ≡ true → (x ≡ true) × (y ≡ true) × (z ≡ true)
all_three true true true h = (refl, refl, refl)
all_three true true false h = cc
all_three true false z h = cc
all_three false y z h = cc

range_found : (o : Option (List ℕ)) (bounds : Bounds) → option_and_then key_range_of_text o ≡ Some bounds → (range : List ℕ) × (o ≡ Some range) × (key_range_of_text range ≡ Some bounds)
range_found None bounds h = cc
range_found (Some range) bounds h = (range, refl, h)

own_found : (o : Option Bounds) (rows : RowsSaid) → option_map in_own_range o ≡ Some rows → (bounds : Bounds) × (o ≡ Some bounds) × (in_own_range bounds ≡ rows)
own_found None rows h = cc
own_found (Some bounds) rows h = (bounds, refl, same_Some (in_own_range bounds) rows h)

own_parts : (r c : Lexeme) (rows : RowsSaid) → rows_of_own_range r c ≡ Some rows → Arguments (r ∷ c ∷ []) rows
own_parts r c rows h =
    let marked = chosen (is_this_mark 41 c) (option_map in_own_range (range_in r)) rows h in
    let found = own_found (range_in r) rows marked.1 in
    let range = range_found (text_in_quotes r) found.0 found.1 in
    subst (λ (x : RowsSaid). Arguments (r ∷ c ∷ []) x) found.2 (record {
      range = range.0;
      writes = range.2;
      fill = λ a b d f g k. (f, (g, (k, (range.1, (marked.0, tt)))));
    })

same_text : (q n : List ℕ) → bytes_eq q n ≡ true → q ≡ n
same_text q n h = (bytes_eq-Decides q n).0 h

vindex_at : (x y z w v : Bool) (q : List ℕ) (vindex : Vindex) → bytes_eq q (vindex_name Numeric) ≡ x → bytes_eq q (vindex_name ReverseBits) ≡ y → bytes_eq q (vindex_name Binary) ≡ z → bytes_eq q (vindex_name BinaryMd5) ≡ w → bytes_eq q (vindex_name Hash) ≡ v
    → cond x (Some Numeric) (cond y (Some ReverseBits) (cond z (Some Binary) (cond w (Some BinaryMd5) (cond v (Some Hash) None)))) ≡ Some vindex → q ≡ vindex_name vindex
vindex_at true y z w v q vindex e f g h k is = same_text q (vindex_name Numeric) e ∙ ap vindex_name (same_Some Numeric vindex is)
vindex_at false true z w v q vindex e f g h k is = same_text q (vindex_name ReverseBits) f ∙ ap vindex_name (same_Some ReverseBits vindex is)
vindex_at false false true w v q vindex e f g h k is = same_text q (vindex_name Binary) g ∙ ap vindex_name (same_Some Binary vindex is)
vindex_at false false false true v q vindex e f g h k is = same_text q (vindex_name BinaryMd5) h ∙ ap vindex_name (same_Some BinaryMd5 vindex is)
vindex_at false false false false true q vindex e f g h k is = same_text q (vindex_name Hash) k ∙ ap vindex_name (same_Some Hash vindex is)
vindex_at false false false false false q vindex e f g h k is = cc

vindex_name_of : (q : List ℕ) (vindex : Vindex) → vindex_of_name q ≡ Some vindex → q ≡ vindex_name vindex
vindex_name_of q vindex h =
    vindex_at (bytes_eq q (vindex_name Numeric)) (bytes_eq q (vindex_name ReverseBits)) (bytes_eq q (vindex_name Binary)) (bytes_eq q (vindex_name BinaryMd5)) (bytes_eq q (vindex_name Hash)) q vindex refl refl refl refl refl h

vindex_found : (o : Option (List ℕ)) (vindex : Vindex) → option_and_then vindex_of_name o ≡ Some vindex → o ≡ Some (vindex_name vindex)
vindex_found None vindex h = cc
vindex_found (Some q) vindex h = ap Some (vindex_name_of q vindex h)

pub record NamedFound (n : Option (List ℕ)) (v : Option Vindex) (r : Option Bounds) (rows : RowsSaid) : Type 0 where
  pub column : List ℕ
  pub vindex : Vindex
  pub bounds : Bounds
  pub column_is : n ≡ Some column
  pub vindex_is : v ≡ Some vindex
  pub bounds_is : r ≡ Some bounds
  pub is : in_range_of column vindex bounds ≡ rows

named_found : (n : Option (List ℕ)) (v : Option Vindex) (r : Option Bounds) (rows : RowsSaid) → option_and_then (λ column. option_and_then (λ vindex. option_and_then (λ bounds. Some (in_range_of column vindex bounds)) r) v) n ≡ Some rows → NamedFound n v r rows
named_found None v r rows h = cc
named_found (Some column) None r rows h = cc
named_found (Some column) (Some vindex) None rows h = cc
named_found (Some column) (Some vindex) (Some bounds) rows h =
    record { column = column; vindex = vindex; bounds = bounds; column_is = refl; vindex_is = refl; bounds_is = refl; is = same_Some (in_range_of column vindex bounds) rows h }

named_parts : (c k v m r e : Lexeme) (rows : RowsSaid) → cond (are_between k m e) (named_rows c v r) None ≡ Some rows → Arguments (c ∷ k ∷ v ∷ m ∷ r ∷ e ∷ []) rows
named_parts c k v m r e rows h =
    let marked = chosen (are_between k m e) (named_rows c v r) rows h in
    let marks = all_three (is_this_mark 44 k) (is_this_mark 44 m) (is_this_mark 41 e) marked.0 in
    let found = named_found (named c) (vindex_in v) (range_in r) rows marked.1 in
    let vindex = vindex_found (text_in_quotes v) found.vindex found.vindex_is in
    let range = range_found (text_in_quotes r) found.bounds found.bounds_is in
    subst (λ (x : RowsSaid). Arguments (c ∷ k ∷ v ∷ m ∷ r ∷ e ∷ []) x) found.is (record {
      range = range.0;
      writes = range.2;
      fill = λ a b d f g i. (f, (g, (i, (found.column_is, (marks.0, (vindex, (marks.1, (range.1, (marks.2, tt)))))))));
    })

arguments_parts : (ts : List Lexeme) (rows : RowsSaid) → arguments_of ts ≡ Some rows → Arguments ts rows
unfolding arguments_of
arguments_parts [] rows h = cc
arguments_parts (a ∷ []) rows h = cc
arguments_parts (r ∷ c ∷ []) rows h = own_parts r c rows h
arguments_parts (a ∷ b ∷ c ∷ []) rows h = cc
arguments_parts (a ∷ b ∷ c ∷ d ∷ []) rows h = cc
arguments_parts (a ∷ b ∷ c ∷ d ∷ e ∷ []) rows h = cc
arguments_parts (c ∷ k ∷ v ∷ m ∷ r ∷ e ∷ []) rows h = named_parts c k v m r e rows h
arguments_parts (a ∷ b ∷ c ∷ d ∷ e ∷ f ∷ g ∷ ts) rows h = cc

-- what stands behind a table is a condition for these rows
pub record Condition (ts : List Lexeme) (rows : RowsSaid) : Type 0 where
  pub range : List ℕ
  pub writes : WritesRange range rows
  pub fill : Fill ts (condition_places range rows)

condition_at : (a b c : Lexeme) (ts : List Lexeme) (rows : RowsSaid) → cond (opens_condition a b c) (arguments_of ts) None ≡ Some rows → Condition (a ∷ b ∷ c ∷ ts) rows
condition_at a b c ts rows h =
    let opened = chosen (opens_condition a b c) (arguments_of ts) rows h in
    let three = all_three (is_key (codes "where") a) (is_key (codes "in_keyrange") b) (is_this_mark 40 c) opened.0 in
    let parts = arguments_parts ts rows opened.1 in
    record { range = parts.range; writes = parts.writes; fill = parts.fill a b c three.0 three.1 three.2 }

rows_parts : (ts : List Lexeme) (rows : RowsSaid) → rows_of ts ≡ Some rows → Condition ts rows
unfolding rows_of
rows_parts [] rows h = subst (λ (x : RowsSaid). Condition [] x) (same_Some every_row rows h) (record { range = []; writes = tt; fill = tt })
rows_parts (a ∷ []) rows h = cc
rows_parts (a ∷ b ∷ []) rows h = cc
rows_parts (a ∷ b ∷ c ∷ ts) rows h = condition_at a b c ts rows h

pub record TableFound (t : Option (List ℕ)) (r : Option RowsSaid) (columns : Option (List (List ℕ))) (said : FilterMeaning) : Type 0 where
  pub table : List ℕ
  pub rows : RowsSaid
  pub table_is : t ≡ Some table
  pub rows_is : r ≡ Some rows
  pub is : selected table columns rows ≡ said

table_found : (t : Option (List ℕ)) (r : Option RowsSaid) (columns : Option (List (List ℕ))) (said : FilterMeaning) → option_and_then (λ table. option_and_then (λ rows. Some (selected table columns rows)) r) t ≡ Some said → TableFound t r columns said
table_found None r columns said h = cc
table_found (Some table) None columns said h = cc
table_found (Some table) (Some rows) columns said h = record { table = table; rows = rows; table_is = refl; rows_is = refl; is = same_Some (selected table columns rows) said h }

-- what stands behind `from` is a table and a condition for these rows
record TableRows (ts : List Lexeme) (columns : Option (List (List ℕ))) (said : FilterMeaning) : Type 0 where
  table : List ℕ
  range : List ℕ
  rows : RowsSaid
  writes : WritesRange range rows
  fill : Fill ts (a_name table ∷ condition_places range rows)
  is : said ≡ selected table columns rows

table_parts : (ts : List Lexeme) (columns : Option (List (List ℕ))) (said : FilterMeaning) → table_rows columns ts ≡ Some said → TableRows ts columns said
unfolding table_rows
table_parts [] columns said h = cc
table_parts (t ∷ ts) columns said h =
    let found = table_found (named t) (rows_of ts) columns said h in
    let parts = rows_parts ts found.rows found.rows_is in
    record { table = found.table; range = parts.range; rows = found.rows; writes = parts.writes; fill = (found.table_is, parts.fill); is = sym found.is }

-- listed columns, and what fills the places of a list that goes on so
record ListParts (ts rest : List Lexeme) (columns : List (List ℕ)) : Type 0 where
  first : List ℕ
  others : List (List ℕ)
  is : columns ≡ first ∷ others
  fill : (places : List Place) → Fill rest places → Fill ts (list_places (first ∷ others) places)

list_parts_at : (a b : Lexeme) (ts rest : List Lexeme) (columns : List (List ℕ)) (from comma : Bool) (column : Option (List ℕ)) → is_key (codes "from") b ≡ from → is_this_mark 44 b ≡ comma → column_of a ≡ column
    → cond from (option_map (last_column ts) column) (cond comma (option_and_then (λ name. option_map (with_column name) (columns_of ts)) column) None) ≡ Some (columns, rest)
    → ((more : List (List ℕ)) (left : List Lexeme) → columns_of ts ≡ Some (more, left) → ListParts ts left more) → ListParts (a ∷ b ∷ ts) rest columns
list_parts_at a b ts rest columns true comma None e f g h more = cc
list_parts_at a b ts rest columns true comma (Some c) e f g h more =
    let same : last_column ts c ≡ (columns, rest) = same_Some (last_column ts c) (columns, rest) h in
    let left : ts ≡ rest = ap (λ (p : List (List ℕ) × List Lexeme). p.1) same in
    record { first = c; others = []; is = sym (ap (λ (p : List (List ℕ) × List Lexeme). p.0) same); fill = λ places fill. (g, (e, subst (λ (xs : List Lexeme). Fill xs places) (sym left) fill)) }
list_parts_at a b ts rest columns false false column e f g h more = cc
list_parts_at a b ts rest columns false true None e f g h more = cc
list_parts_at a b ts rest columns false true (Some c) e f g h more =
    let found = mapped (with_column c) (columns_of ts) (columns, rest) h in
    let parts = more found.0.0 found.0.1 found.1 in
    let left : found.0.1 ≡ rest = ap (λ (p : List (List ℕ) × List Lexeme). p.1) found.2 in
    record {
      first = c;
      others = parts.first ∷ parts.others;
      is = sym (ap (λ (p : List (List ℕ) × List Lexeme). p.0) found.2) ∙ ap (λ more. c ∷ more) parts.is;
      fill = λ places fill. (g, (f, parts.fill places (subst (λ (xs : List Lexeme). Fill xs places) (sym left) fill)));
    }

list_parts : (ts rest : List Lexeme) (columns : List (List ℕ)) → columns_of ts ≡ Some (columns, rest) → ListParts ts rest columns
unfolding columns_of
list_parts [] rest columns h = cc
list_parts (a ∷ []) rest columns h = cc
list_parts (a ∷ b ∷ ts) rest columns h =
    list_parts_at a b ts rest columns (is_key (codes "from") b) (is_this_mark 44 b) (column_of a) refl refl refl h (λ more left is. list_parts ts left more is)

once_chosen : {A : Type 0} (x : Bool) (o : Option A) (y : A) → cond x None o ≡ Some y → (x ≡ false) × (o ≡ Some y)
once_chosen true o y h = cc
once_chosen false o y h = (refl, h)

no_nil : {A : Type 0} (x : A) (xs : List A) → (x ∷ xs) ≡ [] → ⊥
no_nil x xs e = cc

listed_says : (o : Option (List (List ℕ) × List Lexeme)) (s : Lexeme) (ts : List Lexeme) (text : List ℕ) (said : FilterMeaning) → columns_of ts ≡ o → SpellsTokens (s ∷ ts) text → is_key (codes "select") s ≡ true → option_and_then listed_rows o ≡ Some said → Says text said
listed_says None s ts text said is spells opens h = cc
listed_says (Some (columns, rest)) s ts text said is spells opens h =
    let chosen = once_chosen (has_twice columns) (table_rows (Some columns) rest) said h in
    let rows = table_parts rest (Some columns) said chosen.1 in
    let list = list_parts ts rest columns is in
    selects (s ∷ ts) rows.table (Some (list.first ∷ list.others)) rows.range rows.rows spells (opens, list.fill (a_name rows.table ∷ condition_places rows.range rows.rows) rows.fill)
    (no_nil list.first list.others, ap has_twice (sym list.is) ∙ chosen.0) rows.writes (rows.is ∙ ap (λ more. selected rows.table (Some more) rows.rows) list.is)

all_found : (ts rest : List Lexeme) → all_of ts ≡ Some rest → (places : List Place) → Fill rest places → Fill ts (column_places None places)
unfolding all_of
all_found [] rest h places fill = cc
all_found (a ∷ []) rest h places fill = cc
all_found (a ∷ b ∷ ts) rest h places fill =
    let opened = chosen (opens_all a b) (Some ts) rest h in
    let two = and_parts (is_this_mark 42 a) (is_key (codes "from") b) opened.0 in
    (two.0, (two.1, subst (λ (xs : List Lexeme). Fill xs places) (sym (same_Some ts rest opened.1)) fill))

behind_says : (all : Option (List Lexeme)) (s : Lexeme) (ts : List Lexeme) (text : List ℕ) (said : FilterMeaning) → all_of ts ≡ all → SpellsTokens (s ∷ ts) text → is_key (codes "select") s ≡ true → behind_select ts all ≡ Some said → Says text said
behind_says None s ts text said is spells opens h = listed_says (columns_of ts) s ts text said refl spells opens h
behind_says (Some rest) s ts text said is spells opens h =
    let rows = table_parts rest None said h in
    selects (s ∷ ts) rows.table None rows.range rows.rows spells (opens, all_found ts rest is (a_name rows.table ∷ condition_places rows.range rows.rows) rows.fill) tt rows.writes rows.is

selection_says : (ts : List Lexeme) (text : List ℕ) (said : FilterMeaning) → SpellsTokens ts text → selection_of ts ≡ Some said → Says text said
unfolding selection_of
selection_says [] text said spells h = cc
selection_says (s ∷ ts) text said spells h =
    let opened = chosen (is_key (codes "select") s) (behind_select ts (all_of ts)) said h in
    behind_says (all_of ts) s ts text said refl spells opened.0 opened.1

tokens_say : (o : Option (List Lexeme)) (text : List ℕ) (said : FilterMeaning) → tokens_of text ≡ o → option_and_then selection_of o ≡ Some said → Says text said
tokens_say None text said is h = cc
tokens_say (Some ts) text said is h = selection_says ts text said (spells_of_read text ts is) h

range_says : (o : Option Bounds) (text : List ℕ) (said : FilterMeaning) → (text ≡ [] → ⊥) → begins_with_select text ≡ false → key_range_of_text text ≡ o → option_map (λ bounds. without_table (in_own_range bounds)) o ≡ Some said → Says text said
range_says None text said some other is h = cc
range_says (Some bounds) text said some other is h = gives_range bounds some other is (sym (same_Some (without_table (in_own_range bounds)) said h))

empty_of_length : (text : List ℕ) → (length text == 0) ≡ true → text ≡ []
empty_of_length [] h = refl
empty_of_length (b ∷ text) h = absurd (true≢false (sym h ∙ some_length (b ∷ text) (λ e. cons_apart b text e)))

not_empty : (text : List ℕ) → (length text == 0) ≡ false → text ≡ [] → ⊥
not_empty [] h e = cc
not_empty (b ∷ text) h e = cons_apart b text e

says_at : (x y : Bool) (text : List ℕ) (said : FilterMeaning) → (length text == 0) ≡ x → begins_with_select text ≡ y
    → cond x (Some (without_table every_row)) (cond y (option_and_then selection_of (tokens_of text)) (option_map (λ bounds. without_table (in_own_range bounds)) (key_range_of_text text))) ≡ Some said → Says text said
says_at true y text said empty first h = says_nothing (empty_of_length text empty) (sym (same_Some (without_table every_row) said h))
says_at false true text said some first h = tokens_say (tokens_of text) text said refl h
says_at false false text said some first h = range_says (key_range_of_text text) text said (not_empty text some) first refl h

pub says_of_filter : (text : List ℕ) (said : FilterMeaning) → filter_of text ≡ Some said → Says text said
unfolding filter_of
says_of_filter text said h = says_at (length text == 0) (begins_with_select text) text said refl refl h

-- ---- of a call's answer

pub says_of_read : (text : List ℕ) (r : Result Filter FilterFault) → Reads meaning r (filter_of text) → IfOk r (λ filter. Says text (meaning filter))
says_of_read text (Ok filter) h = says_of_filter text (meaning filter) h
says_of_read text (Err fault) h = tt

pub read_of_says : (text : List ℕ) (r : Result Filter FilterFault) (said : FilterMeaning) → Reads meaning r (filter_of text) → Says text said → Reads meaning r (Some said)
read_of_says text r said h says = subst (λ (o : Option FilterMeaning). Reads meaning r o) (filter_of_says text said says) h
