-- Cutting the columns of a list off the front of a text.
use Rattle.std.proofs.Common.{◌≡◌, inl, inr, ℕ, ◌<◌, List, [], ◌∷◌, ◌++◌, length, Bool, true, false, cond, Option, Some, None, option_map, option_and_then, refl, sym, ap, subst, ◌∙◌, codes, append_assoc, arith}
use Rattle.std.specs.Prelude.{◌==◌, ◌||◌, IsUtf8, IsSome, unwrap_or}
use Rattle.filter_text.specs.ColumnList.{column_of, last_column, with_column, columns_of, list_of, listed_in, IsLeft}
use Rattle.filter_text.specs.Lexemes.{Lexeme, is_key, is_this_mark}
use Rattle.filter_text.specs.Tokens.{tokens_of, with_token}
use Rattle.filter_text.specs.Private.Listing.{IsListBefore, list_from}
use Rattle.filter_text.specs.declared.column.Column.{Column}
use Rattle.filter_text.proofs.CutLaws.{no_bytes}

abbrev pub Listed : Type 0
Listed = List (List ℕ) × List Lexeme

-- ---- the first token

pub none_next : (text rest : List ℕ) → tokens_of rest ≡ tokens_of text → (length rest == 0) ≡ true → unwrap_or (tokens_of text) [] ≡ []
none_next text rest same ended = ap (λ o. unwrap_or o []) (sym same ∙ no_bytes rest ended)

-- ---- the first column

-- what a name and the token behind it come to
abbrev list_at : Bool → Bool → Option (List ℕ) → List Lexeme → Option Listed
list_at from comma column rest = cond from (option_map (last_column rest) column) (cond comma (option_and_then (λ name. option_map (with_column name) (columns_of rest)) column) None)

no_column : (from comma : Bool) (rest : List Lexeme) → list_at from comma None rest ≡ None
no_column true comma rest = refl
no_column false true rest = refl
no_column false false rest = refl

no_list : (o : Option (List Lexeme)) → unwrap_or o [] ≡ [] → option_and_then columns_of o ≡ None
unfolding columns_of
no_list None h = refl
no_list (Some []) h = refl
no_list (Some (t ∷ ts)) h = cc

one_token : (t : Lexeme) (o : Option (List Lexeme)) → unwrap_or o [] ≡ [] → option_and_then columns_of (with_token t o) ≡ None
unfolding columns_of
one_token t None h = refl
one_token t (Some []) h = refl
one_token t (Some (m ∷ ts)) h = cc

not_column : (t : Lexeme) (o : Option (List Lexeme)) → column_of t ≡ None → option_and_then columns_of (with_token t o) ≡ None
unfolding columns_of
not_column t None h = refl
not_column t (Some []) h = refl
not_column t (Some (m ∷ ts)) h =
    ap (λ column. list_at (is_key (codes "from") m) (is_this_mark 44 m) column ts) h ∙ no_column (is_key (codes "from") m) (is_this_mark 44 m) ts

at_two : (t m : Lexeme) (o : Option (List Lexeme)) (from comma : Bool) (column : Option (List ℕ)) → is_key (codes "from") m ≡ from → is_this_mark 44 m ≡ comma → column_of t ≡ column
    → option_and_then columns_of (with_token t (with_token m o)) ≡ option_and_then (list_at from comma column) o
unfolding columns_of
at_two t m None from comma column e f g = refl
at_two t m (Some ts) from comma column e f g =
    ap (λ x. list_at x (is_this_mark 44 m) (column_of t) ts) e ∙ ap (λ x. list_at from x (column_of t) ts) f ∙ ap (λ x. list_at from comma x ts) g

last_at : (name : List ℕ) (comma : Bool) (o : Option (List Lexeme)) → option_and_then (list_at true comma (Some name)) o ≡ option_map (λ rest. last_column rest name) o
last_at name comma None = refl
last_at name comma (Some ts) = refl

more_at : (name : List ℕ) (o : Option (List Lexeme)) → option_and_then (list_at false true (Some name)) o ≡ option_map (with_column name) (option_and_then columns_of o)
more_at name None = refl
more_at name (Some ts) = refl

none_at : (column : Option (List ℕ)) (o : Option (List Lexeme)) → option_and_then (list_at false false column) o ≡ None
none_at column None = refl
none_at column (Some ts) = refl

pub no_first : (text : List ℕ) → unwrap_or (tokens_of text) [] ≡ [] → list_of text ≡ None
no_first text h = no_list (tokens_of text) h

pub no_second : (text rest : List ℕ) (t : Lexeme) → tokens_of text ≡ with_token t (tokens_of rest) → unwrap_or (tokens_of rest) [] ≡ [] → list_of text ≡ None
no_second text rest t is h = ap (option_and_then columns_of) is ∙ one_token t (tokens_of rest) h

pub no_name : (text rest : List ℕ) (t : Lexeme) → tokens_of text ≡ with_token t (tokens_of rest) → column_of t ≡ None → list_of text ≡ None
no_name text rest t is h = ap (option_and_then columns_of) is ∙ not_column t (tokens_of rest) h

two_cut : (text rest behind : List ℕ) (t m : Lexeme) → tokens_of text ≡ with_token t (tokens_of rest) → tokens_of rest ≡ with_token m (tokens_of behind) → list_of text ≡ option_and_then columns_of (with_token t (with_token m (tokens_of behind)))
two_cut text rest behind t m is next = ap (option_and_then columns_of) (is ∙ ap (with_token t) next)

pub last_cut : (text rest behind : List ℕ) (t m : Lexeme) (name : List ℕ) → tokens_of text ≡ with_token t (tokens_of rest) → tokens_of rest ≡ with_token m (tokens_of behind) → column_of t ≡ Some name → is_key (codes "from") m ≡ true
    → list_of text ≡ option_map (λ rest. last_column rest name) (tokens_of behind)
last_cut text rest behind t m name is next named from =
    two_cut text rest behind t m is next ∙ at_two t m (tokens_of behind) true (is_this_mark 44 m) (Some name) from refl named ∙ last_at name (is_this_mark 44 m) (tokens_of behind)

pub more_cut : (text rest behind : List ℕ) (t m : Lexeme) (name : List ℕ) → tokens_of text ≡ with_token t (tokens_of rest) → tokens_of rest ≡ with_token m (tokens_of behind) → column_of t ≡ Some name → is_key (codes "from") m ≡ false
    → is_this_mark 44 m ≡ true → list_of text ≡ option_map (with_column name) (list_of behind)
more_cut text rest behind t m name is next named from comma =
    two_cut text rest behind t m is next ∙ at_two t m (tokens_of behind) false true (Some name) from comma named ∙ more_at name (tokens_of behind)

pub neither_cut : (text rest behind : List ℕ) (t m : Lexeme) → tokens_of text ≡ with_token t (tokens_of rest) → tokens_of rest ≡ with_token m (tokens_of behind) → is_key (codes "from") m ≡ false → is_this_mark 44 m ≡ false → list_of text ≡ None
neither_cut text rest behind t m is next from comma =
    two_cut text rest behind t m is next ∙ at_two t m (tokens_of behind) false false (column_of t) from comma refl ∙ none_at (column_of t) (tokens_of behind)

pub column_cut : (text rest behind : List ℕ) (t m : Lexeme) (name : List ℕ) (last : Bool) → tokens_of text ≡ with_token t (tokens_of rest) → tokens_of rest ≡ with_token m (tokens_of behind) → column_of t ≡ Some name
    → is_key (codes "from") m ≡ last → (last || is_this_mark 44 m) ≡ true → list_of text ≡ cond last (option_map (λ rest. last_column rest name) (tokens_of behind)) (option_map (with_column name) (list_of behind))
column_cut text rest behind t m name true is next named from either = last_cut text rest behind t m name is next named from
column_cut text rest behind t m name false is next named from either = more_cut text rest behind t m name is next named from either

-- ---- the loop

abbrev behind_columns : List (List ℕ) → Listed → Listed
behind_columns front listed = (front ++ listed.0, listed.1)

-- the columns so far, and the list that is left
pub record HasListed (text left : List ℕ) : Type 0 where
  pub front : List (List ℕ)
  pub so_far : list_of text ≡ option_map (behind_columns front) (list_of left)
  pub utf8 : IsUtf8 left

one_more : (front : List (List ℕ)) (name : List ℕ) (o : Option Listed) → option_map (behind_columns front) (option_map (with_column name) o) ≡ option_map (behind_columns (front ++ name ∷ [])) o
one_more front name None = refl
one_more front name (Some listed) = ap (λ columns. Some (columns, listed.1)) (sym (append_assoc front (name ∷ []) listed.0))

pub listed_more : (text left behind name : List ℕ) → HasListed text left → list_of left ≡ option_map (with_column name) (list_of behind) → IsUtf8 behind → HasListed text behind
listed_more text left behind name so is utf8 =
    record { front = so.front ++ name ∷ []; so_far = so.so_far ∙ ap (option_map (behind_columns so.front)) is ∙ one_more so.front name (list_of behind); utf8 = utf8 }

last_of : (front : List (List ℕ)) (name : List ℕ) (o : Option (List Lexeme)) → option_map (behind_columns front) (option_map (λ rest. last_column rest name) o) ≡ option_map (λ tokens. (front ++ name ∷ [], tokens)) o
last_of front name None = refl
last_of front name (Some ts) = refl

pub listed_last : (text left behind name : List ℕ) → HasListed text left → list_of left ≡ option_map (λ rest. last_column rest name) (tokens_of behind) → IsListBefore text behind
listed_last text left behind name so is =
    record { columns = so.front ++ name ∷ []; is = so.so_far ∙ ap (option_map (behind_columns so.front)) is ∙ last_of so.front name (tokens_of behind) }

-- ---- one column after another

none_listed : (o : Option Listed) → o ≡ None → unwrap_or (option_map (λ (listed : Listed). listed.0) o) [] ≡ []
none_listed None h = refl
none_listed (Some listed) h = cc

pub no_columns : (text : List ℕ) → list_of text ≡ None → listed_in text ≡ []
no_columns text none = rw none refl

pub nothing_left : listed_in [] ≡ []
unfolding tokens_of columns_of
nothing_left = refl

-- what is left behind a column
pub record IsStep (text behind : List ℕ) (name : List ℕ) : Type 0 where
  pub columns : listed_in text ≡ name ∷ listed_in behind
  pub left : IsLeft behind

some_list : (text : List ℕ) → IsLeft text → 0 < length text → IsSome (list_of text)
some_list text (inl none) some = let empty : length text ≡ 0 = ap length none in absurd (omega arith)
some_list text (inr is) some = is

step_on : (text behind name : List ℕ) (o p : Option Listed) → list_of text ≡ o → list_of behind ≡ p → IsSome o → o ≡ option_map (with_column name) p → IsStep text behind name
step_on text behind name None p o_is p_is some is = let e : false ≡ true = some in cc
step_on text behind name (Some listed) None o_is p_is some is = cc
step_on text behind name (Some listed) (Some more) o_is p_is some is =
    record { columns = rw (o_is ∙ is, p_is) refl; left = inr (subst IsSome (sym p_is) refl) }

pub more_left : (text behind name : List ℕ) → IsLeft text → 0 < length text → list_of text ≡ option_map (with_column name) (list_of behind) → IsStep text behind name
more_left text behind name left some is = step_on text behind name (list_of text) (list_of behind) refl refl (some_list text left some) is

last_on : (text name : List ℕ) (o : Option Listed) (p : Option (List Lexeme)) → list_of text ≡ o → IsSome o → o ≡ option_map (λ rest. last_column rest name) p → listed_in text ≡ name ∷ []
last_on text name None p o_is some is = let e : false ≡ true = some in cc
last_on text name (Some listed) None o_is some is = cc
last_on text name (Some listed) (Some rest) o_is some is = rw (o_is ∙ is) refl

pub last_left : (text behind name : List ℕ) → IsLeft text → 0 < length text → list_of text ≡ option_map (λ rest. last_column rest name) (tokens_of behind) → IsStep text [] name
last_left text behind name left some is =
    record { columns = last_on text name (list_of text) (tokens_of behind) refl (some_list text left some) is ∙ ap (λ columns. name ∷ columns) (sym nothing_left); left = inl refl }

-- ---- what a column that was cut off says

pub last_from : (text : List ℕ) (column : Column) → list_of text ≡ list_from column → column.is_last ≡ true → list_of text ≡ option_map (λ rest. last_column rest column.name.now) (tokens_of column.behind.now)
last_from text column is last =
    is ∙ ap (λ b. cond b (option_map (λ rest. last_column rest column.name.now) (tokens_of column.behind.now)) (option_map (with_column column.name.now) (list_of column.behind.now))) last

pub more_from : (text : List ℕ) (column : Column) → list_of text ≡ list_from column → column.is_last ≡ false → list_of text ≡ option_map (with_column column.name.now) (list_of column.behind.now)
more_from text column is last =
    is ∙ ap (λ b. cond b (option_map (λ rest. last_column rest column.name.now) (tokens_of column.behind.now)) (option_map (with_column column.name.now) (list_of column.behind.now))) last

some_above : (n m : ℕ) → n < m → 0 < m
some_above n m h = omega arith

pub last_step : (text : List ℕ) (column : Column) → IsLeft text → length column.behind.now < length text → list_of text ≡ list_from column → column.is_last ≡ true → IsStep text [] column.name.now
last_step text column left shorter is last =
    last_left text column.behind.now column.name.now left (some_above (length column.behind.now) (length text) shorter) (last_from text column is last)

pub more_step : (text : List ℕ) (column : Column) → IsLeft text → length column.behind.now < length text → list_of text ≡ list_from column → column.is_last ≡ false → IsStep text column.behind.now column.name.now
more_step text column left shorter is last =
    more_left text column.behind.now column.name.now left (some_above (length column.behind.now) (length text) shorter) (more_from text column is last)

-- ---- a name among columns
