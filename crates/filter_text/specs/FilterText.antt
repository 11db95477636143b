-- The forms of a filter's text (this profile, after the Vitess filter rules): nothing, a key range, or a
-- `select` of all or listed columns `from` its table with or without an `in_keyrange`. Key words are in
-- any case.
use Rattle.std.specs.Prelude.{◌≡◌, ◌≢◌, ℕ, ◌==◌, ◌&&◌, List, [], ◌∷◌, length, Bool, false, Option, Some, None, codes, IsTrue, option_map, option_and_then, if◌then◌else◌}
use Rattle.std.specs.Str.{str_eq_ignore_ascii_case}
use Rattle.vindex.specs.Bounds.{Bounds}
use Rattle.vindex.specs.RangeText.{key_range_of_text}
use Rattle.vindex.specs.KeyspaceId.{vindex_of_name, vindex_name}
use Rattle.vindex.specs.declared.vindexes.Vindex.{Vindex}
use Rattle.filter_text.specs.ColumnList.{column_of, columns_of, has_twice}
use Rattle.filter_text.specs.Lexemes.{Lexeme, is_key, is_this_mark, named, text_in_quotes}
use Rattle.filter_text.specs.Tokens.{SpellsTokens, tokens_of, first_word}

infixl 10 ◌>>=◌
abbrev pub ◌>>=◌ : {A B : Type 0} → Option A → (A → Option B) → Option B
o >>= f = option_and_then f o

-- which rows a filter names: every one, those whose id under the table's own vindex is in a range, or
-- those whose id of a column under a vindex is in a range
pub data RowsSaid : Type 0 where
  every_row : RowsSaid
  in_own_range : Bounds → RowsSaid
  in_range_of : List ℕ → Vindex → Bounds → RowsSaid

-- the table that a filter selects from, if it does, the names of the columns that it lists, none where it
-- keeps all, and the rows
pub record FilterMeaning : Type 0 where
  pub table : Option (List ℕ)
  pub columns : Option (List (List ℕ))
  pub rows : RowsSaid

abbrev pub without_table : RowsSaid → FilterMeaning
without_table rows = record { table = None; columns = None; rows = rows }

abbrev pub selected : List ℕ → Option (List (List ℕ)) → RowsSaid → FilterMeaning
selected table columns rows = record { table = Some table; columns = columns; rows = rows }

-- the first word is `select`
abbrev pub begins_with_select : List ℕ → Bool
begins_with_select text = str_eq_ignore_ascii_case (first_word text) (codes "select")

-- ---- the text of a selection as a function of its meaning

-- what a form asks for at one place
pub data Place : Type 0 where
  key : List ℕ → Place
  a_name : List ℕ → Place
  a_column : List ℕ → Place
  in_quotes : List ℕ → Place
  a_mark : ℕ → Place

-- a token fills a place: a key word in any case, a name with or without backquotes; in a list of columns
-- `from` without backquotes is no name
abbrev pub Fills : Lexeme → Place → Type 0
Fills token (key k) = IsTrue (is_key k token)
Fills token (a_name n) = named token ≡ Some n
Fills token (a_column n) = column_of token ≡ Some n
Fills token (in_quotes q) = text_in_quotes token ≡ Some q
Fills token (a_mark m) = IsTrue (is_this_mark m token)

-- tokens fill places, one each
abbrev pub Fill : List Lexeme → List Place → Type 0
Fill [] [] = Unit {0}
Fill [] (place ∷ places) = ⊥
Fill (token ∷ tokens) [] = ⊥
Fill (token ∷ tokens) (place ∷ places) = Fills token place × Fill tokens places

-- a condition, whose range a text writes
abbrev pub condition_places : List ℕ → RowsSaid → List Place
condition_places range every_row = []
condition_places range (in_own_range bounds) = key (codes "where") ∷ key (codes "in_keyrange") ∷ a_mark 40 ∷ in_quotes range ∷ a_mark 41 ∷ []
condition_places range (in_range_of column vindex bounds) =
    key (codes "where") ∷ key (codes "in_keyrange") ∷ a_mark 40 ∷ a_name column ∷ a_mark 44 ∷ in_quotes (vindex_name vindex) ∷ a_mark 44 ∷ in_quotes range ∷ a_mark 41 ∷ []

-- listed columns with commas between, then `from`, and then other places
abbrev pub list_places : List (List ℕ) → List Place → List Place
list_places [] places = []
list_places (column ∷ []) places = a_column column ∷ key (codes "from") ∷ places
list_places (column ∷ next ∷ columns) places = a_column column ∷ a_mark 44 ∷ list_places (next ∷ columns) places

-- all columns or those that are listed, then `from`, and then other places
abbrev pub column_places : Option (List (List ℕ)) → List Place → List Place
column_places None places = a_mark 42 ∷ key (codes "from") ∷ places
column_places (Some columns) places = list_places columns places

-- a selection of columns from a table, whose range a text writes
abbrev pub selection_places : List ℕ → Option (List (List ℕ)) → List ℕ → RowsSaid → List Place
selection_places table columns range rows = key (codes "select") ∷ column_places columns (a_name table ∷ condition_places range rows)

-- one or more columns, none of them twice, where any are listed
abbrev pub AreColumns : Option (List (List ℕ)) → Type 0
AreColumns None = Unit {0}
AreColumns (Some columns) = (columns ≢ []) × (has_twice columns ≡ false)

-- a text writes the range of the rows, where they have one
abbrev pub WritesRange : List ℕ → RowsSaid → Type 0
WritesRange range every_row = Unit {0}
WritesRange range (in_own_range bounds) = key_range_of_text range ≡ Some bounds
WritesRange range (in_range_of column vindex bounds) = key_range_of_text range ≡ Some bounds

-- What a filter's text says. A text whose first word is `select` is read by its tokens, any other that
-- isn't empty as a key range under the table's own vindex.
pub data Says (text : List ℕ) (said : FilterMeaning) : Type 0 where
  says_nothing : text ≡ [] → said ≡ without_table every_row → Says text said
  gives_range : (bounds : Bounds) → text ≢ [] → begins_with_select text ≡ false → key_range_of_text text ≡ Some bounds → said ≡ without_table (in_own_range bounds) → Says text said
  selects : (tokens : List Lexeme) (table : List ℕ) (columns : Option (List (List ℕ))) (range : List ℕ) (rows : RowsSaid) → SpellsTokens tokens text → Fill tokens (selection_places table columns range rows)
      → AreColumns columns → WritesRange range rows → said ≡ selected table columns rows → Says text said

-- ---- what tokens and texts say

abbrev pub range_in : Lexeme → Option Bounds
range_in token = text_in_quotes token >>= key_range_of_text

abbrev pub vindex_in : Lexeme → Option Vindex
vindex_in token = text_in_quotes token >>= vindex_of_name

-- `'range')`
abbrev pub rows_of_own_range : Lexeme → Lexeme → Option RowsSaid
rows_of_own_range range close = if is_this_mark 41 close then option_map in_own_range (range_in range) else None

-- the column, the vindex and the range of `column, 'vindex', 'range')`, and its marks
abbrev pub named_rows : Lexeme → Lexeme → Lexeme → Option RowsSaid
named_rows column vindex range = do
  c ← named column
  v ← vindex_in vindex
  r ← range_in range
  Some (in_range_of c v r)

abbrev pub are_between : Lexeme → Lexeme → Lexeme → Bool
are_between comma second close = is_this_mark 44 comma && is_this_mark 44 second && is_this_mark 41 close

-- the arguments of `in_keyrange`
unfoldable pub arguments_of : List Lexeme → Option RowsSaid
arguments_of (range ∷ close ∷ []) = rows_of_own_range range close
arguments_of (column ∷ comma ∷ vindex ∷ second ∷ range ∷ close ∷ []) = if are_between comma second close then named_rows column vindex range else None
arguments_of _ = None

-- `where in_keyrange(`
abbrev pub opens_condition : Lexeme → Lexeme → Lexeme → Bool
opens_condition first call bracket = is_key (codes "where") first && is_key (codes "in_keyrange") call && is_this_mark 40 bracket

-- what stands behind the table
unfoldable pub rows_of : List Lexeme → Option RowsSaid
rows_of [] = Some every_row
rows_of (first ∷ call ∷ bracket ∷ rest) = if opens_condition first call bracket then arguments_of rest else None
rows_of _ = None

-- a table and a condition, for these columns
abbrev pub from_table : Option (List (List ℕ)) → Lexeme → List Lexeme → Option FilterMeaning
from_table columns table rest = do
  t ← named table
  rows ← rows_of rest
  Some (selected t columns rows)

-- what stands behind `from`, for these columns
unfoldable pub table_rows : Option (List (List ℕ)) → List Lexeme → Option FilterMeaning
table_rows columns [] = None
table_rows columns (table ∷ rest) = from_table columns table rest

-- `* from`
abbrev pub opens_all : Lexeme → Lexeme → Bool
opens_all star from = is_this_mark 42 star && is_key (codes "from") from

-- what tokens behind `* from` say
unfoldable pub all_of : List Lexeme → Option (List Lexeme)
all_of (star ∷ from ∷ rest) = if opens_all star from then Some rest else None
all_of _ = None

-- what tokens behind a list of columns say, none of which stands twice
abbrev pub listed_rows : List (List ℕ) × List Lexeme → Option FilterMeaning
listed_rows listed = if has_twice listed.0 then None else table_rows (Some listed.0) listed.1

-- what tokens behind `select` say, where those behind `* from`, if it stands there, are these
abbrev pub behind_select : List Lexeme → Option (List Lexeme) → Option FilterMeaning
behind_select tokens None = columns_of tokens >>= listed_rows
behind_select tokens (Some rest) = table_rows None rest

-- the selection that tokens write
unfoldable pub selection_of : List Lexeme → Option FilterMeaning
selection_of [] = None
selection_of (select ∷ tokens) = if is_key (codes "select") select then behind_select tokens (all_of tokens) else None

-- what a text says
unfoldable pub filter_of : List ℕ → Option FilterMeaning
filter_of text =
    if length text == 0 then Some (without_table every_row)
    else if begins_with_select text then tokens_of text >>= selection_of
    else option_map (λ bounds. without_table (in_own_range bounds)) (key_range_of_text text)
