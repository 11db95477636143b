-- One text for each selection: its places in order, key words in small letters, names between backquotes,
-- and a blank behind each.
use Rattle.std.specs.Prelude.{◌≡◌, ◌≢◌, ℕ, ◌==◌, ◌++◌, List, [], ◌∷◌, Option, Some, None, not, IsTrue}
use Rattle.std.specs.List.{list_all}
use Rattle.filter_text.specs.FilterText.{RowsSaid, every_row, in_own_range, in_range_of, Place, key, a_name, a_column, in_quotes, a_mark, selection_places, AreColumns, WritesRange}

abbrev pub spelled_place : Place → List ℕ
spelled_place (key k) = k ++ 32 ∷ []
spelled_place (a_name n) = (96 ∷ n ++ 96 ∷ []) ++ 32 ∷ []
spelled_place (a_column n) = (96 ∷ n ++ 96 ∷ []) ++ 32 ∷ []
spelled_place (in_quotes q) = (39 ∷ q ++ 39 ∷ []) ++ 32 ∷ []
spelled_place (a_mark m) = m ∷ 32 ∷ []

abbrev pub spelled : List Place → List ℕ
spelled [] = []
spelled (place ∷ places) = spelled_place place ++ spelled places

-- backquotes can hold the name
abbrev pub IsName : List ℕ → Type 0
IsName n = (n ≢ []) × IsTrue (list_all (λ b. not (b == 96)) n)

abbrev pub NamesColumn : RowsSaid → Type 0
NamesColumn every_row = Unit {0}
NamesColumn (in_own_range bounds) = Unit {0}
NamesColumn (in_range_of column vindex bounds) = IsName column

abbrev pub AreNames : List (List ℕ) → Type 0
AreNames [] = Unit {0}
AreNames (n ∷ ns) = IsName n × AreNames ns

abbrev pub NamesColumns : Option (List (List ℕ)) → Type 0
NamesColumns None = Unit {0}
NamesColumns (Some columns) = AreNames columns

-- the text spells the selection of these columns and rows from a table, whose range another text writes
pub record IsSpelling (text table : List ℕ) (columns : Option (List (List ℕ))) (range : List ℕ) (rows : RowsSaid) : Type 0 where
  pub table_name : IsName table
  pub columns_are : AreColumns columns
  pub column_names : NamesColumns columns
  pub column_name : NamesColumn rows
  pub no_quote : IsTrue (list_all (λ b. not (b == 39)) range)
  pub writes : WritesRange range rows
  pub is : text ≡ spelled (selection_places table columns range rows)
