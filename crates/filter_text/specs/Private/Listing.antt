-- Cutting a column off the front of a list, for the loops that walk one.
use Rattle.std.specs.Prelude.{◌≡◌, ℕ, List, [], Option, Some, None, option_map, unwrap_or, true, if◌then◌else◌}
use Rattle.std.specs.Borrow.{Bor}
use Rattle.filter_text.specs.ColumnList.{last_column, with_column, list_of}
use Rattle.filter_text.specs.FilterText.{opens_all}
use Rattle.filter_text.specs.Lexemes.{Lexeme}
use Rattle.filter_text.specs.Tokens.{tokens_of, with_token}
use Rattle.filter_text.specs.Views.{lexeme}
use Rattle.filter_text.specs.declared.column.Column.{Column}
use Rattle.filter_text.specs.declared.token.Token.{Token}

-- the token that a text begins with was cut off, or there is none
abbrev pub IsNext : Option (List Lexeme) → Option (Token × Bor (List ℕ)) → Type 0
IsNext tokens None = unwrap_or tokens [] ≡ []
IsNext tokens (Some cut) = tokens ≡ with_token (lexeme cut.0) (tokens_of cut.1.now)

-- the list that ends in this column, or goes on behind it
abbrev pub list_from : Column → Option (List (List ℕ) × List Lexeme)
list_from column = if column.is_last then option_map (λ rest. last_column rest column.name.now) (tokens_of column.behind.now) else option_map (with_column column.name.now) (list_of column.behind.now)

-- the column that a list begins with was cut off, or there is no list
abbrev pub IsFirstColumn : List ℕ → Option Column → Type 0
IsFirstColumn text None = list_of text ≡ None
IsFirstColumn text (Some column) = list_of text ≡ list_from column

-- the list of a text ends, and its columns are these
pub record IsListBefore (text rest : List ℕ) : Type 0 where
  pub columns : List (List ℕ)
  pub is : list_of text ≡ option_map (λ tokens. (columns, tokens)) (tokens_of rest)

-- `* from` stands before the rest of a text
pub record IsAllBefore (text rest : List ℕ) : Type 0 where
  pub star : Lexeme
  pub from : Lexeme
  pub opens : opens_all star from ≡ true
  pub is : tokens_of text ≡ with_token star (with_token from (tokens_of rest))
