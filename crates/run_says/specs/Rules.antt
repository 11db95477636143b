-- What a rule's filter says (this profile, after the Vitess filter rules): nothing, a key range, or a `select` of all or
-- listed columns from a table, with a range or without.
use Rattle.std.specs.Prelude.{◌≡◌, ◌≢◌, ◌⊎◌, ℕ, ◌==◌, List, [], ◌∷◌, ◌++◌, false, not, Option, Some, None, Ok, IsTrue, codes}
use Rattle.std.specs.List.{list_all}
use Rattle.std.specs.Str.{str_eq_ignore_ascii_case}
use Rattle.hex.specs.Hex.{decode_of}
use Rattle.vindex.specs.Bounds.{Bounds, bounds_of, whole}
use Rattle.vindex.specs.KeyspaceId.{vindex_name}
use Rattle.filter_text.specs.Lexemes.{is_blank, is_word_byte}
use Rattle.filter_text.specs.Tokens.{begins_in_word}
use Rattle.filter_text.specs.FilterText.{RowsSaid, every_row, in_own_range, in_range_of}

-- the names of the columns that a filter keeps, none where it keeps all, and the rows
pub record Filter : Type 0 where
  pub columns : Option (List (List ℕ))
  pub rows : RowsSaid

-- a key range: the hexadecimal digits of its start and of its end, either empty where it is open; `0` is the whole one
abbrev pub SaysRange : List ℕ → Bounds → Type 0
SaysRange text bounds = ((text ≡ codes "0") × (bounds ≡ whole))
    ⊎ ((first last start end : List ℕ) × (text ≡ first ++ 45 ∷ last) × (decode_of first ≡ Ok start) × (decode_of last ≡ Ok end) × (bounds ≡ bounds_of start end))

-- ---- tokens

-- what a form has at one place: a key word in any case, a name, a text in quotes, or a mark
pub data Token : Type 0 where
  key : List ℕ → Token
  a_name : List ℕ → Token
  in_quotes : List ℕ → Token
  a_mark : ℕ → Token

-- how it is written, before the rest: a word goes on as far as it can, and any name may stand between backquotes
abbrev pub Writes : Token → List ℕ → List ℕ → Type 0
Writes (key k) text rest = IsTrue (str_eq_ignore_ascii_case text k) × (begins_in_word rest ≡ false)
Writes (a_name n) text rest = ((text ≡ n) × IsTrue (list_all is_word_byte n) × (begins_in_word rest ≡ false)) ⊎ ((text ≡ 96 ∷ n ++ 96 ∷ []) × IsTrue (list_all (λ b. not (b == 96)) n))
Writes (in_quotes q) text rest = (text ≡ 39 ∷ q ++ 39 ∷ []) × IsTrue (list_all (λ b. not (b == 39)) q)
Writes (a_mark m) text rest = text ≡ m ∷ []

-- the text is these tokens; blanks may stand round each
abbrev pub AreTokens : List Token → List ℕ → Type 0
AreTokens [] text = IsTrue (list_all is_blank text)
AreTokens (token ∷ tokens) text = (blanks front rest : List ℕ) × (text ≡ blanks ++ (front ++ rest)) × IsTrue (list_all is_blank blanks) × Writes token front rest × AreTokens tokens rest

-- ---- a selection

-- columns with commas between
abbrev pub listed_columns : List (List ℕ) → List Token
listed_columns [] = []
listed_columns (column ∷ []) = a_name column ∷ []
listed_columns (column ∷ next ∷ columns) = a_name column ∷ a_mark 44 ∷ listed_columns (next ∷ columns)

-- the columns, or `*`
abbrev pub kept_columns : Option (List (List ℕ)) → List Token
kept_columns None = a_mark 42 ∷ []
kept_columns (Some columns) = listed_columns columns

-- the condition, with the text of its range
abbrev pub condition : List ℕ → RowsSaid → List Token
condition range every_row = []
condition range (in_own_range bounds) = key (codes "where") ∷ key (codes "in_keyrange") ∷ a_mark 40 ∷ in_quotes range ∷ a_mark 41 ∷ []
condition range (in_range_of column vindex bounds) = key (codes "where") ∷ key (codes "in_keyrange") ∷ a_mark 40 ∷ a_name column ∷ a_mark 44 ∷ in_quotes (vindex_name vindex) ∷ a_mark 44 ∷ in_quotes range ∷ a_mark 41 ∷ []

-- the text writes the range of the rows, where they have one
abbrev pub WritesRange : List ℕ → RowsSaid → Type 0
WritesRange range every_row = Unit {0}
WritesRange range (in_own_range bounds) = SaysRange range bounds
WritesRange range (in_range_of column vindex bounds) = SaysRange range bounds

-- ---- the text

-- the text is empty, a key range under the table's own vindex, or a selection
pub data SaysFilter (text : List ℕ) (filter : Filter) : Type 0 where
  says_nothing : text ≡ [] → filter ≡ record { columns = None; rows = every_row } → SaysFilter text filter
  gives_range : (bounds : Bounds) → SaysRange text bounds → filter ≡ record { columns = None; rows = in_own_range bounds } → SaysFilter text filter
  selects : (table range : List ℕ) → filter.columns ≢ Some [] → AreTokens (key (codes "select") ∷ kept_columns filter.columns ++ (key (codes "from") ∷ a_name table ∷ condition range filter.rows)) text → WritesRange range filter.rows → SaysFilter text filter
