-- The list of columns of a selection: names parted by commas, up to the key word `from`.
use Rattle.std.specs.Prelude.{◌≡◌, ◌⊎◌, ℕ, ◌||◌, List, [], ◌∷◌, Bool, false, Option, None, codes, option_map, option_and_then, IsSome, if◌then◌else◌}
use Rattle.std.specs.List.{list_any}
use Rattle.std.specs.Option.{option_map_or}
use Rattle.std.specs.Str.{bytes_eq}
use Rattle.filter_text.specs.Lexemes.{Lexeme, is_key, is_this_mark, named}
use Rattle.filter_text.specs.Tokens.{tokens_of}

-- a name; `from` without backquotes, in any case, is the key word and no name here
abbrev pub column_of : Lexeme → Option (List ℕ)
column_of token = if is_key (codes "from") token then None else named token

abbrev pub last_column : List Lexeme → List ℕ → List (List ℕ) × List Lexeme
last_column rest column = (column ∷ [], rest)

abbrev pub with_column : List ℕ → List (List ℕ) × List Lexeme → List (List ℕ) × List Lexeme
with_column column listed = (column ∷ listed.0, listed.1)

-- the columns of a list, and the tokens behind its `from`
unfoldable pub columns_of : List Lexeme → Option (List (List ℕ) × List Lexeme)
columns_of [] = None
columns_of (column ∷ []) = None
columns_of (column ∷ next ∷ rest) =
    if is_key (codes "from") next then option_map (last_column rest) (column_of column)
    else if is_this_mark 44 next then option_and_then (λ name. option_map (with_column name) (columns_of rest)) (column_of column)
    else None

-- the list that a text begins with
abbrev pub list_of : List ℕ → Option (List (List ℕ) × List Lexeme)
list_of text = option_and_then columns_of (tokens_of text)

-- the columns of the list that a text begins with, no column where there is no list
abbrev pub listed_in : List ℕ → List (List ℕ)
listed_in text = option_map_or (λ listed. listed.0) (list_of text) []

-- nothing is left of a list, or a list is
abbrev pub IsLeft : List ℕ → Type 0
IsLeft text = (text ≡ []) ⊎ IsSome (list_of text)

-- the list has a column of this name
abbrev pub has_column : List ℕ → List (List ℕ) → Bool
has_column name columns = list_any (λ column. bytes_eq column name) columns

-- some column stands twice
abbrev pub has_twice : List (List ℕ) → Bool
has_twice [] = false
has_twice (column ∷ columns) = has_column column columns || has_twice columns
