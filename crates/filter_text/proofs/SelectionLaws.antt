-- A selection by what was cut off the front of its text.
use Rattle.std.proofs.Common.{◌≡◌, ℕ, ◌<◌, List, [], ◌∷◌, length, Bool, true, false, cond, Option, Some, None, Result, refl, sym, ap, subst, ◌∙◌, codes, arith, option_map, option_and_then}
use Rattle.std.specs.Prelude.{◌&&◌, IfSome, IsSome, unwrap_or}
use Rattle.list_laws.proofs.Truths.{and-false}
use Rattle.filter_text.specs.ColumnList.{columns_of, list_of, listed_in, has_twice}
use Rattle.filter_text.specs.Lexemes.{Lexeme, is_key, is_this_mark, named}
use Rattle.filter_text.specs.FilterText.{◌>>=◌, RowsSaid, FilterMeaning, selected, arguments_of, opens_condition, rows_of, table_rows, opens_all, all_of, listed_rows, behind_select, selection_of}
use Rattle.filter_text.specs.Tokens.{tokens_of, with_token}
use Rattle.filter_text.specs.Private.Listing.{IsListBefore, IsAllBefore}
use Rattle.filter_text.specs.Views.{Reads, meaning}
use Rattle.filter_text.specs.declared.filter.Filter.{Filter}
use Rattle.filter_text.specs.declared.fault.FilterFault.{FilterFault}

-- ---- no more than ten tokens stand behind `from`

none_either_way : {A : Type 0} (b : Bool) (o : Option A) → o ≡ None → cond b o None ≡ None
none_either_way true o none = none
none_either_way false o none = refl

long_arguments : (ts : List Lexeme) → 6 < length ts → arguments_of ts ≡ None
unfolding arguments_of
long_arguments [] h = absurd (omega arith)
long_arguments (a ∷ []) h = absurd (omega arith)
long_arguments (a ∷ b ∷ []) h = absurd (omega arith)
long_arguments (a ∷ b ∷ c ∷ []) h = absurd (omega arith)
long_arguments (a ∷ b ∷ c ∷ d ∷ []) h = absurd (omega arith)
long_arguments (a ∷ b ∷ c ∷ d ∷ e ∷ []) h = absurd (omega arith)
long_arguments (a ∷ b ∷ c ∷ d ∷ e ∷ f ∷ []) h = absurd (omega arith)
long_arguments (a ∷ b ∷ c ∷ d ∷ e ∷ f ∷ g ∷ ts) h = refl

long_condition : (ts : List Lexeme) → 9 < length ts → rows_of ts ≡ None
unfolding rows_of
long_condition [] h = absurd (omega arith)
long_condition (a ∷ []) h = absurd (omega arith)
long_condition (a ∷ b ∷ []) h = absurd (omega arith)
long_condition (a ∷ b ∷ c ∷ ts) h = none_either_way (opens_condition a b c) (arguments_of ts) (long_arguments ts (omega arith))

no_rows : (columns : Option (List (List ℕ))) (table : Option (List ℕ)) (rows : Option RowsSaid) → rows ≡ None → (table >>= (λ t. rows >>= (λ said. Some (selected t columns said)))) ≡ None
no_rows columns None rows none = refl
no_rows columns (Some t) rows none = ap (λ o. o >>= (λ said. Some (selected t columns said))) none

long_rows : (columns : Option (List (List ℕ))) (ts : List Lexeme) → 10 < length ts → table_rows columns ts ≡ None
unfolding table_rows
long_rows columns [] h = absurd (omega arith)
long_rows columns (t ∷ ts) h = no_rows columns (named t) (rows_of ts) (long_condition ts (omega arith))

-- ---- `select`

pub no_selection : (text : List ℕ) → unwrap_or (tokens_of text) [] ≡ [] → option_and_then selection_of (tokens_of text) ≡ None
unfolding selection_of
no_selection text h = none_of (tokens_of text) h where
  none_of : (o : Option (List Lexeme)) → unwrap_or o [] ≡ [] → option_and_then selection_of o ≡ None
  none_of None h = refl
  none_of (Some []) h = refl
  none_of (Some (t ∷ ts)) h = cc

abbrev pub behind : List Lexeme → Option FilterMeaning
behind tokens = behind_select tokens (all_of tokens)

opened : (t : Lexeme) (b : Bool) (o : Option (List Lexeme)) → is_key (codes "select") t ≡ b → option_and_then selection_of (with_token t o) ≡ option_and_then (λ ts. cond b (behind ts) None) o
unfolding selection_of
opened t b None is = refl
opened t b (Some ts) is = ap (λ x. cond x (behind ts) None) is

not_opened : (o : Option (List Lexeme)) → option_and_then (λ ts. cond false (behind ts) None) o ≡ None
not_opened None = refl
not_opened (Some ts) = refl

pub selection_cut : (text rest : List ℕ) (t : Lexeme) (r : Result Filter FilterFault) → tokens_of text ≡ with_token t (tokens_of rest) → is_key (codes "select") t ≡ true
    → Reads meaning r (option_and_then behind (tokens_of rest)) → Reads meaning r (option_and_then selection_of (tokens_of text))
selection_cut text rest t r is key h = subst (λ (o : Option FilterMeaning). Reads meaning r o) (sym (ap (option_and_then selection_of) is ∙ opened t true (tokens_of rest) key)) h

pub selection_not : (text rest : List ℕ) (t : Lexeme) → tokens_of text ≡ with_token t (tokens_of rest) → is_key (codes "select") t ≡ false → option_and_then selection_of (tokens_of text) ≡ None
selection_not text rest t is key = ap (option_and_then selection_of) is ∙ opened t false (tokens_of rest) key ∙ not_opened (tokens_of rest)

-- ---- `* from`

pub no_all : (text : List ℕ) → unwrap_or (tokens_of text) [] ≡ [] → option_and_then all_of (tokens_of text) ≡ None
unfolding all_of
no_all text h = none_of (tokens_of text) h where
  none_of : (o : Option (List Lexeme)) → unwrap_or o [] ≡ [] → option_and_then all_of o ≡ None
  none_of None h = refl
  none_of (Some []) h = refl
  none_of (Some (t ∷ ts)) h = cc

pub no_from : (text rest : List ℕ) (t : Lexeme) → tokens_of text ≡ with_token t (tokens_of rest) → unwrap_or (tokens_of rest) [] ≡ [] → option_and_then all_of (tokens_of text) ≡ None
unfolding all_of
no_from text rest t is h = ap (option_and_then all_of) is ∙ none_of (tokens_of rest) h where
  none_of : (o : Option (List Lexeme)) → unwrap_or o [] ≡ [] → option_and_then all_of (with_token t o) ≡ None
  none_of None h = refl
  none_of (Some []) h = refl
  none_of (Some (m ∷ ts)) h = cc

all_at : (t m : Lexeme) (b : Bool) (o : Option (List Lexeme)) → opens_all t m ≡ b → option_and_then all_of (with_token t (with_token m o)) ≡ option_and_then (λ ts. cond b (Some ts) None) o
unfolding all_of
all_at t m b None is = refl
all_at t m b (Some ts) is = ap (λ x. cond x (Some ts) None) is

none_opened : (o : Option (List Lexeme)) → option_and_then (λ ts. cond false (Some ts) None) o ≡ None
none_opened None = refl
none_opened (Some ts) = refl

pub star_other : (t m : Lexeme) → is_this_mark 42 t ≡ false → opens_all t m ≡ false
star_other t m h = ap (λ b. b && is_key (codes "from") m) h

pub from_other : (t m : Lexeme) → is_key (codes "from") m ≡ false → opens_all t m ≡ false
from_other t m h = ap (λ b. is_this_mark 42 t && b) h ∙ and-false (is_this_mark 42 t)

pub not_all : (text rest more : List ℕ) (t m : Lexeme) → tokens_of text ≡ with_token t (tokens_of rest) → tokens_of rest ≡ with_token m (tokens_of more) → opens_all t m ≡ false → option_and_then all_of (tokens_of text) ≡ None
not_all text rest more t m is next opens =
    ap (option_and_then all_of) (is ∙ ap (with_token t) next) ∙ all_at t m false (tokens_of more) opens ∙ none_opened (tokens_of more)

-- ---- all columns

all_rows : (t m : Lexeme) (o : Option (List Lexeme)) → opens_all t m ≡ true → option_and_then behind (with_token t (with_token m o)) ≡ option_and_then (table_rows None) o
unfolding all_of
all_rows t m None opens = refl
all_rows t m (Some ts) opens = ap (λ b. behind_select (t ∷ m ∷ ts) (cond b (Some ts) None)) opens

no_table : (columns : Option (List (List ℕ))) (o : Option (List Lexeme)) → IfSome o (λ ts. 10 < length ts) → option_and_then (table_rows columns) o ≡ None
no_table columns None h = refl
no_table columns (Some ts) h = long_rows columns ts h

pub all_long : (text rest : List ℕ) → IsAllBefore text rest → IfSome (tokens_of rest) (λ ts. 10 < length ts) → option_and_then behind (tokens_of text) ≡ None
all_long text rest before long = ap (option_and_then behind) before.is ∙ all_rows before.star before.from (tokens_of rest) before.opens ∙ no_table None (tokens_of rest) long

pub all_read : (text rest : List ℕ) (ts : List Lexeme) (r : Result Filter FilterFault) → IsAllBefore text rest → tokens_of rest ≡ Some ts → Reads meaning r (table_rows None ts) → Reads meaning r (option_and_then behind (tokens_of text))
all_read text rest ts r before is h =
    subst (λ (o : Option FilterMeaning). Reads meaning r o)
    (sym (ap (option_and_then behind) before.is ∙ all_rows before.star before.from (tokens_of rest) before.opens ∙ ap (option_and_then (table_rows None)) is)) h

-- ---- listed columns

behind_list : (o : Option (List Lexeme)) → option_and_then all_of o ≡ None → option_and_then behind o ≡ option_and_then listed_rows (option_and_then columns_of o)
behind_list None h = refl
behind_list (Some ts) h = ap (behind_select ts) h

pub no_list : (text : List ℕ) → option_and_then all_of (tokens_of text) ≡ None → list_of text ≡ None → option_and_then behind (tokens_of text) ≡ None
no_list text all none = behind_list (tokens_of text) all ∙ ap (option_and_then listed_rows) none

long_list : (columns : List (List ℕ)) (o : Option (List Lexeme)) → IfSome o (λ ts. 10 < length ts) → option_and_then listed_rows (option_map (λ ts. (columns, ts)) o) ≡ None
long_list columns None h = refl
long_list columns (Some ts) h = twice_or (has_twice columns) (table_rows (Some columns) ts) (long_rows (Some columns) ts h) where
  twice_or : (b : Bool) (o : Option FilterMeaning) → o ≡ None → cond b None o ≡ None
  twice_or true o none = refl
  twice_or false o none = none

pub listed_long : (text rest : List ℕ) → IsListBefore text rest → IfSome (tokens_of rest) (λ ts. 10 < length ts) → option_and_then listed_rows (list_of text) ≡ None
listed_long text rest before long = ap (option_and_then listed_rows) before.is ∙ long_list before.columns (tokens_of rest) long

-- a list before tokens
pub record IsListed (text : List ℕ) (ts : List Lexeme) : Type 0 where
  pub some : IsSome (list_of text)
  pub rows : option_and_then listed_rows (list_of text) ≡ cond (has_twice (listed_in text)) None (table_rows (Some (listed_in text)) ts)
