-- What the logs say of tables, one change further.
use Rattle.std.proofs.Common.{◌≡◌, ◌≢◌, ℕ, zero, suc, ◌+◌, ◌<◌, ◌≤◌, ◌⊎◌, Bool, true, false, cond, List, [], ◌∷◌, length, get_or, set, Option, None, Some, Result, Ok, Err, refl, sym, ap, ◌∙◌, inl, inr, arith}
use Rattle.std.proofs.lemmas.Bool.{cases_Bool, cases_eq, cases_lt, false≢true}
use Rattle.std.proofs.lemmas.List.{get_or-set_same, get_or-set_other}
use Rattle.std.specs.Prelude.{◌&&◌, if◌then◌else◌}
use Rattle.std.specs.Str.{bytes_eq}
use Rattle.std.specs.Cmp.Lexicographic.{same_text}
use Rattle.list_laws.specs.Outcome.{◌>>=◌}
use Rattle.log_groups.specs.Body.{QueryValue}
use Rattle.log_feed.specs.declared.fault.Trouble.{Trouble}
use Rattle.log_feed.specs.declared.fault.Trouble.TheVariants as trouble
use Rattle.log_feed.specs.declared.fault.ChangeFault.{ChangeFault}
use Rattle.log_feed.specs.Fault.{in_table}
use Rattle.log_feed.specs.declared.table.Stage.{Stage}
use Rattle.log_feed.specs.declared.table.Stage.TheVariants.{Absent, Made, Filled}
use Rattle.log_feed.specs.Statement.{concerns, moves_rows, makes, unfilled_to, by_stage, alters_to}
use Rattle.log_feed.specs.Words.{begins_by_word}
use Rattle.log_feed.specs.Table.{TableValue, table_from, table_of, stage_at}
use Rattle.log_feed.specs.Group.{altered_at, altered_from}
use Rattle.log_laws.proofs.Steps.{given, same_value}

-- ---- a table's place

-- a table that is found at a place stands there, and has the name
record StandsAt (from place : ℕ) (name : List ℕ) (tables : List TableValue) (table : TableValue) : Type 0 where
  own : table.name ≡ name
  behind : ℕ
  at : place ≡ from + behind
  there : get_or tables behind table ≡ table
  inside : behind < length tables

stands_from : (from place : ℕ) (name : List ℕ) (tables : List TableValue) (table : TableValue) → table_from from name tables ≡ Some (place, table) → StandsAt from place name tables table
stands_from from place name [] table e = cc
stands_from from place name (t ∷ tables) table e = elim (cases_Bool (bytes_eq t.name name)) [
  | inl same ↦
      let it : ◌≡◌ {A = Option (ℕ × TableValue)} (Some (from, t)) (Some (place, table)) = (let h = rw same at e in h) in
      let pair : ◌≡◌ {A = ℕ × TableValue} (from, t) (place, table) = cc in
      let is : t ≡ table = ap (λ (p : ℕ × TableValue). p.1) pair in
      let at : from ≡ place = ap (λ (p : ℕ × TableValue). p.0) pair in
      record {
        own = ap (λ (x : TableValue). x.name) (sym is) ∙ same_text t.name name (sym same);
        behind = 0;
        at = omega (arith, at);
        there = is;
        inside = omega arith;
      }
  | inr other ↦
      let rest : table_from (from + 1) name tables ≡ Some (place, table) = (let h = rw other at e in h) in
      let s : StandsAt (from + 1) place name tables table = stands_from (from + 1) place name tables table rest in
      record { own = s.own; behind = suc s.behind; at = omega (arith, s.at); there = s.there; inside = omega (arith, s.inside) }
]

-- tables at one place are one table
pub same_table : (place : ℕ) (one other : List ℕ) (tables : List TableValue) (table another : TableValue) → table_of one tables ≡ Some (place, table) → table_of other tables ≡ Some (place, another) → table ≡ another
same_table place one other tables table another e f =
    let a : StandsAt 0 place one tables table = stands_from 0 place one tables table e in
    let b : StandsAt 0 place other tables another = stands_from 0 place other tables another f in
    let at : a.behind ≡ b.behind = omega (arith, a.at, b.at) in
    sym a.there ∙ ap (λ (i : ℕ). get_or tables i table) at ∙ in_list tables b.behind table another b.inside ∙ b.there
  where
    in_list : (xs : List TableValue) (i : ℕ) (d e : TableValue) → i < length xs → get_or xs i d ≡ get_or xs i e
    in_list [] i d e less = absurd (omega (arith, less))
    in_list (x ∷ xs) zero d e less = refl
    in_list (x ∷ xs) (suc i) d e less = in_list xs i d e (omega (arith, less))

pub own_name : (place : ℕ) (name : List ℕ) (tables : List TableValue) (table : TableValue) → table_of name tables ≡ Some (place, table) → table.name ≡ name
own_name place name tables table e = let s : StandsAt 0 place name tables table = stands_from 0 place name tables table e in s.own

-- ---- a statement fills no table

filled_same : (stage : Stage) (r : Result Stage Trouble) → r ≡ Ok Filled → r ≡ Ok stage → stage ≡ Filled
filled_same stage r e f = cc

-- what isn't filled isn't by a statement
unfilled_stays : (schema name : List ℕ) (q : QueryValue) (stage : Stage) → unfilled_to schema name q stage ≡ Ok Filled → stage ≡ Filled
unfilled_stays schema name q stage e = by (moves_rows q.text) (makes schema name q) (begins_by_word _ q.text) e
  where
    by : (moves made drops : Bool) → (if moves then Err trouble.Altered else if made then Ok Made else if drops then Ok Absent else Ok stage) ≡ Ok Filled → stage ≡ Filled
    by true made drops h = cc
    by false true drops h = cc
    by false false true h = cc
    by false false false h = cc

alters_no_further : (schema name : List ℕ) (q : QueryValue) (stage : Stage) → alters_to schema name q stage ≡ Ok Filled → stage ≡ Filled
unfolding alters_to
alters_no_further schema name q stage e = by (concerns schema name q.text) e
  where
    of_stage : (s : Stage) → by_stage schema name q s ≡ Ok Filled → s ≡ Filled
    of_stage Absent h = unfilled_stays schema name q Absent h
    of_stage Made h = unfilled_stays schema name q Made h
    of_stage Filled h = refl

    by : (b : Bool) → (if b then by_stage schema name q stage else Ok stage) ≡ Ok Filled → stage ≡ Filled
    by true h = of_stage stage h
    by false h = cc

pub in_table_given : {A : Type 0} (t : ℕ) (r : Result A Trouble) (x : A) → in_table t r ≡ Ok x → r ≡ Ok x
in_table_given t (Ok y) x e = ap Ok (same_value y x e)
in_table_given t (Err fault) x e = cc

-- a table that is filled behind a change of one place was so before, where that place wasn't filled by it
set_filled : (stages : List Stage) (t place : ℕ) (stage : Stage) → stage_at (set stages t stage) place ≡ Filled → (stage ≡ Filled → stage_at stages t ≡ Filled) → stage_at stages place ≡ Filled
set_filled stages t place stage e was = elim (cases_eq place t) [
  | inl same ↦ elim (cases_lt t (length stages)) [
    | inl inside ↦
        let now : stage ≡ Filled = sym (get_or-set_same stages t stage Absent inside) ∙ ap (λ (i : ℕ). get_or (set stages t stage) i Absent) (sym same) ∙ e in
        ap (λ (i : ℕ). stage_at stages i) same ∙ was now
    | inr outside ↦ outside_same stages t stage place outside ∙ e
  ]
  | inr other ↦ sym (get_or-set_other stages t place stage Absent other) ∙ e
]
  where
    outside_same : (xs : List Stage) (i : ℕ) (x : Stage) (j : ℕ) → length xs ≤ i → get_or xs j Absent ≡ get_or (set xs i x) j Absent
    outside_same [] i x j le = refl
    outside_same (y ∷ xs) zero x j le = absurd (omega (arith, le))
    outside_same (y ∷ xs) (suc i) x zero le = refl
    outside_same (y ∷ xs) (suc i) x (suc j) le = outside_same xs i x j (omega (arith, le))

altered_one : (t : ℕ) (schema : List ℕ) (q : QueryValue) (table : TableValue) (stages new : List Stage) (place : ℕ) → altered_at t schema q table stages ≡ Ok new → stage_at new place ≡ Filled → stage_at stages place ≡ Filled
altered_one t schema q table stages new place e f =
    let stage = given (in_table t (alters_to schema table.name q (stage_at stages t))) (λ stage. Ok (set stages t stage)) new e in
    let is : set stages t stage.0 ≡ new = same_value (set stages t stage.0) new stage.2 in
    let to : alters_to schema table.name q (stage_at stages t) ≡ Ok stage.0 = in_table_given t (alters_to schema table.name q (stage_at stages t)) stage.0 stage.1 in
    set_filled stages t place stage.0 (ap (λ (ss : List Stage). stage_at ss place) is ∙ f) (λ filled. alters_no_further schema table.name q (stage_at stages t) (to ∙ ap Ok filled))

-- behind a statement those tables alone are filled that were so before it
pub altered_filled : (t : ℕ) (schema : List ℕ) (q : QueryValue) (tables : List TableValue) (stages new : List Stage) (place : ℕ) → altered_from t schema q tables stages ≡ Ok new → stage_at new place ≡ Filled → stage_at stages place ≡ Filled
unfolding altered_from
altered_filled t schema q [] stages new place e f = let is : stages ≡ new = same_value stages new e in ap (λ (ss : List Stage). stage_at ss place) is ∙ f
altered_filled t schema q (table ∷ tables) stages new place e f =
    let one = given (altered_at t schema q table stages) (λ new. altered_from (t + 1) schema q tables new) new e in
    altered_one t schema q table stages one.0 place one.1 (altered_filled (t + 1) schema q tables one.0 new place one.2 f)

-- behind rows of the table at a place another one is filled that was so before them
pub rows_filled : (stages : List Stage) (t place : ℕ) → place ≢ t → stage_at (set stages t Filled) place ≡ Filled → stage_at stages place ≡ Filled
rows_filled stages t place other e = sym (get_or-set_other stages t place Filled Absent other) ∙ e
