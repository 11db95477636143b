-- A slice of tokens by its length, and what its forms say.
use Rattle.std.proofs.Common.{◌≡◌, ℕ, ◌<◌, ◌≤◌, List, [], ◌∷◌, length, map, true, false, cond, Option, Some, None, Result, refl, sym, ap, subst, ◌∙◌, arith}
use Rattle.filter_text.specs.FilterText.{RowsSaid, every_row, FilterMeaning, rows_of_own_range, named_rows, are_between, arguments_of, opens_condition, rows_of, from_table, table_rows}
use Rattle.filter_text.specs.Views.{Reads, lexeme, rows_said, meaning}
use Rattle.filter_text.specs.declared.token.Token.{Token}
use Rattle.filter_text.specs.declared.filter.Filter.{Filter}
use Rattle.filter_text.specs.declared.filter.Rows.{Rows}
use Rattle.filter_text.specs.declared.fault.FilterFault.{FilterFault}

-- ---- what a slice of a length is made of

pub record Two (ts : List Token) : Type 0 where
  pub a : Token
  pub b : Token
  pub is : ts ≡ a ∷ b ∷ []

pub two : (ts : List Token) → 2 ≤ length ts → length ts < 3 → Two ts
two [] h k = absurd (omega arith)
two (a ∷ []) h k = absurd (omega arith)
two (a ∷ b ∷ []) h k = record { a = a; b = b; is = refl }
two (a ∷ b ∷ c ∷ ts) h k = absurd (omega arith)

pub record Six (ts : List Token) : Type 0 where
  pub a : Token
  pub b : Token
  pub c : Token
  pub d : Token
  pub e : Token
  pub f : Token
  pub is : ts ≡ a ∷ b ∷ c ∷ d ∷ e ∷ f ∷ []

pub six : (ts : List Token) → 6 ≤ length ts → length ts < 7 → Six ts
six [] h k = absurd (omega arith)
six (a ∷ []) h k = absurd (omega arith)
six (a ∷ b ∷ []) h k = absurd (omega arith)
six (a ∷ b ∷ c ∷ []) h k = absurd (omega arith)
six (a ∷ b ∷ c ∷ d ∷ []) h k = absurd (omega arith)
six (a ∷ b ∷ c ∷ d ∷ e ∷ []) h k = absurd (omega arith)
six (a ∷ b ∷ c ∷ d ∷ e ∷ f ∷ []) h k = record { a = a; b = b; c = c; d = d; e = e; f = f; is = refl }
six (a ∷ b ∷ c ∷ d ∷ e ∷ f ∷ g ∷ ts) h k = absurd (omega arith)

pub record Three (ts : List Token) : Type 0 where
  pub a : Token
  pub b : Token
  pub c : Token
  pub rest : List Token
  pub is : ts ≡ a ∷ b ∷ c ∷ rest

pub three : (ts : List Token) → 3 ≤ length ts → Three ts
three [] h = absurd (omega arith)
three (a ∷ []) h = absurd (omega arith)
three (a ∷ b ∷ []) h = absurd (omega arith)
three (a ∷ b ∷ c ∷ ts) h = record { a = a; b = b; c = c; rest = ts; is = refl }

pub record One (ts : List Token) : Type 0 where
  pub a : Token
  pub rest : List Token
  pub is : ts ≡ a ∷ rest

pub one : (ts : List Token) → 1 ≤ length ts → One ts
one [] h = absurd (omega arith)
one (a ∷ ts) h = record { a = a; rest = ts; is = refl }

-- ---- the arguments

pub two_read : (a b : Token) (r : Result Rows FilterFault) → Reads rows_said r (rows_of_own_range (lexeme a) (lexeme b)) → Reads rows_said r (arguments_of (map lexeme (a ∷ b ∷ [])))
unfolding arguments_of
two_read a b r h = h

pub six_read : (a b c d e f : Token) (r : Result Rows FilterFault) → are_between (lexeme b) (lexeme d) (lexeme f) ≡ true → Reads rows_said r (named_rows (lexeme a) (lexeme c) (lexeme e))
    → Reads rows_said r (arguments_of (map lexeme (a ∷ b ∷ c ∷ d ∷ e ∷ f ∷ [])))
unfolding arguments_of
six_read a b c d e f r marks h = subst (λ (o : Option RowsSaid). Reads rows_said r o) (sym (ap (λ x. cond x (named_rows (lexeme a) (lexeme c) (lexeme e)) None) marks)) h

pub six_not : (a b c d e f : Token) → are_between (lexeme b) (lexeme d) (lexeme f) ≡ false → arguments_of (map lexeme (a ∷ b ∷ c ∷ d ∷ e ∷ f ∷ [])) ≡ None
unfolding arguments_of
six_not a b c d e f marks = ap (λ x. cond x (named_rows (lexeme a) (lexeme c) (lexeme e)) None) marks

pub no_arguments : (ts : List Token) → (length ts ≡ 2 → ⊥) → (length ts ≡ 6 → ⊥) → arguments_of (map lexeme ts) ≡ None
unfolding arguments_of
no_arguments [] h k = refl
no_arguments (a ∷ []) h k = refl
no_arguments (a ∷ b ∷ []) h k = absurd (h refl)
no_arguments (a ∷ b ∷ c ∷ []) h k = refl
no_arguments (a ∷ b ∷ c ∷ d ∷ []) h k = refl
no_arguments (a ∷ b ∷ c ∷ d ∷ e ∷ []) h k = refl
no_arguments (a ∷ b ∷ c ∷ d ∷ e ∷ f ∷ []) h k = absurd (k refl)
no_arguments (a ∷ b ∷ c ∷ d ∷ e ∷ f ∷ g ∷ ts) h k = refl

-- ---- what stands behind the table

pub none_left : (ts : List Token) → length ts < 1 → rows_of (map lexeme ts) ≡ Some every_row
unfolding rows_of
none_left [] h = refl
none_left (a ∷ ts) h = absurd (omega arith)

pub short_condition : (ts : List Token) → 1 ≤ length ts → length ts < 3 → rows_of (map lexeme ts) ≡ None
unfolding rows_of
short_condition [] h k = absurd (omega arith)
short_condition (a ∷ []) h k = refl
short_condition (a ∷ b ∷ []) h k = refl
short_condition (a ∷ b ∷ c ∷ ts) h k = absurd (omega arith)

pub condition_read : (a b c : Token) (ts rest : List Token) (r : Result Rows FilterFault) → opens_condition (lexeme a) (lexeme b) (lexeme c) ≡ true → Reads rows_said r (arguments_of (map lexeme rest)) → rest ≡ ts → Reads rows_said r (rows_of (map lexeme (a ∷ b ∷ c ∷ ts)))
unfolding rows_of
condition_read a b c ts rest r opens h same =
    subst (λ (o : Option RowsSaid). Reads rows_said r o) (ap (λ (s : List Token). arguments_of (map lexeme s)) same ∙ sym (ap (λ x. cond x (arguments_of (map lexeme ts)) None) opens)) h

pub condition_not : (a b c : Token) (ts : List Token) → opens_condition (lexeme a) (lexeme b) (lexeme c) ≡ false → rows_of (map lexeme (a ∷ b ∷ c ∷ ts)) ≡ None
unfolding rows_of
condition_not a b c ts opens = ap (λ x. cond x (arguments_of (map lexeme ts)) None) opens

-- ---- what stands behind `from`

pub nothing_behind : (columns : Option (List (List ℕ))) (ts : List Token) → length ts < 1 → table_rows columns (map lexeme ts) ≡ None
unfolding table_rows
nothing_behind columns [] h = refl
nothing_behind columns (a ∷ ts) h = absurd (omega arith)

pub table_read : (columns : Option (List (List ℕ))) (a : Token) (ts rest : List Token) (r : Result Filter FilterFault) → Reads meaning r (from_table columns (lexeme a) (map lexeme rest)) → rest ≡ ts
    → Reads meaning r (table_rows columns (map lexeme (a ∷ ts)))
unfolding table_rows
table_read columns a ts rest r h same = subst (λ (o : Option FilterMeaning). Reads meaning r o) (ap (λ (s : List Token). from_table columns (lexeme a) (map lexeme s)) same) h
