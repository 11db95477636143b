-- What stands in a file whose rules are refused.
use Rattle.std.proofs.Common.{◌≡◌, ℕ, zero, suc, ◌+◌, List, [], ◌∷◌, ◌++◌, length, Bool, true, false, cond, ◌&&◌, Option, Some, None, Ok, Err, refl, sym, ap, subst, ◌∙◌, append_assoc, length-append, arith}
use Rattle.std.specs.Prelude.{slice_get, MatchOption}
use Rattle.std.specs.Option.{option_map_or}
use Rattle.std.proofs.lemmas.Option.{same_Some}
use Rattle.list_laws.proofs.Truths.{not_both}
use Rattle.filter_text.specs.ColumnList.{has_column}
use Rattle.vindex.specs.Bounds.{Bounds}
use Rattle.vindex.specs.declared.vindexes.Vindex.{Vindex}
use Rattle.filter_rule.specs.Document.{RuleSaid, StreamSaid, TableSaid, DocumentSaid}
use Rattle.list_laws.specs.Outcome.{each}
use Rattle.filter_rule.specs.Faults.{Fault, bad_rule, key_type}
use Rattle.filter_text.specs.FilterText.{RowsSaid, every_row, in_own_range, in_range_of, FilterMeaning, filter_of}
use Rattle.filter_text.specs.RuleScope.{scope_of, is_for, agrees}
use Rattle.filter_rule.specs.FirstRule.{is_match, first_match, Decides, IsByFirst}
use Rattle.row_view.specs.FieldValue.{FieldValue}
use Rattle.filter_rule.specs.PlanTable.{TableValue}
use Rattle.filter_rule.specs.PlanValue.{kept_under_rule}
use Rattle.filter_rule.specs.Reading.{rule_over, decide_in_turn, undecided, decisions_of, Decided, decided_by, decided_from, closed_from}
use Rattle.filter_rule.specs.Resolving.{all_places, name_at, lists_key, is_vindex_type, place_in, type_in, vindex_place, vindex_type, unfit_key, refuse_type, own_vindex_type, resolved}
use Rattle.filter_rule.specs.Rules.{RuleForm, may_say, form_of, or_bad, agreeing, kept_by, own_decision, decide, decide_once, decide_each}
use Rattle.filter_rule.specs.Standing.{HasTable, IsFirstFor, by_rule, by_list, under_rule, no_form, no_vindex, key_left_out, KeepsOf}
use Rattle.filter_rule.specs.declared.decision.Decision.{Decision}
use Rattle.filter_rule.specs.declared.decision.Decision.TheVariants.{NoRule, EveryRow, InRange}
use Rattle.filter_rule.proofs.FirstRuleLaws.{form_match, decide_decides}
use Rattle.filter_rule.proofs.RefusedSteps.{failed, same_fault, then_err, each_refused, none_from_err, absent, unfit_column}
use Rattle.filter_rule.proofs.DecidedLaws.{decided_at}
use Rattle.filter_rule.proofs.KeepingLaws.{KeptBy, decision_at_kept, closed_refused}
use Rattle.filter_rule.proofs.StandingTables.{StandsIn, refused_type}
use Rattle.filter_rule.proofs.StepLaws.{then_ok, read_as, same_ok, each_at}
use Rattle.filter_rule.proofs.TableLaws.{place_found, column_found}

-- ---- a rule without a form is refused as such

bad_is : {A : Type 0} (s n : ℕ) (o : Option A) (e : Fault) → or_bad s n o ≡ Err e → bad_rule s n ≡ e
bad_is s n o e h = (none_from_err o (bad_rule s n) e h).1

disagrees : (s n : ℕ) (b : Bool) (filter : FilterMeaning) (e : Fault) → cond b (read_as filter) (Err (bad_rule s n)) ≡ Err e → bad_rule s n ≡ e
disagrees s n b filter e h = (refused_type b filter (bad_rule s n) e h).1

no_form_is : (s n : ℕ) (r : RuleSaid) (e : Fault) → form_of s n r ≡ Err e → bad_rule s n ≡ e
unfolding form_of
no_form_is s n r e h =
    then_err _ (or_bad s n (scope_of r.matches)) e h (λ is. bad_is s n (scope_of r.matches) e is)
    (λ scope scope_is h2. then_err _ (or_bad s n (filter_of r.filter)) e h2 (λ is. bad_is s n (filter_of r.filter) e is)
    (λ filter filter_is h3. then_err _ (agreeing s n r.uses_hash scope filter) e h3 (λ is. disagrees s n (agrees scope filter.table && may_say r.uses_hash filter.rows) filter e is) (λ same same_is h4. cc)))

-- ---- the rule that is refused

-- no rule of these matches a table that isn't decided
abbrev Untouched : List RuleSaid → List TableValue → List Decision → Type 0
Untouched before ts ds = (i : ℕ) (t : TableValue) → slice_get ts i ≡ Some t → slice_get ds i ≡ Some NoRule → first_match 0 before t.name ≡ None

-- a rule that decides no table because of a fault
record Undecides (s n : ℕ) (form : RuleForm) (ts : List TableValue) (ds : List Decision) (e : Fault) : Type 0 where
  place : ℕ
  table : TableValue
  stands : slice_get ts place ≡ Some table
  open_still : slice_get ds place ≡ Some NoRule
  matches : is_for form.scope table.name ≡ true
  gives : decide s n form.columns form.rows table ≡ Err e

one_refused : (s n : ℕ) (form : RuleForm) (t : TableValue) (ts : List TableValue) (ds : List Decision) (b : Bool) (e : Fault) → is_for form.scope t.name ≡ b → cond b (decide s n form.columns form.rows t) (Ok NoRule) ≡ Err e
    → Undecides s n form (t ∷ ts) (NoRule ∷ ds) e
one_refused s n form t ts ds true e is h = record { place = 0; table = t; stands = refl; open_still = refl; matches = is; gives = h }
one_refused s n form t ts ds false e is h = cc

first_refused : (s n : ℕ) (form : RuleForm) (t : TableValue) (ts : List TableValue) (d : Decision) (ds : List Decision) (e : Fault) → decide_once s n form t d ≡ Err e → Undecides s n form (t ∷ ts) (d ∷ ds) e
first_refused s n form t ts NoRule ds e h = one_refused s n form t ts ds (is_for form.scope t.name) e refl h
first_refused s n form t ts (EveryRow kept) ds e h = cc
first_refused s n form t ts (InRange place vindex range kept) ds e h = cc

later_refused : (s n : ℕ) (form : RuleForm) (t : TableValue) (ts : List TableValue) (d : Decision) (ds : List Decision) (e : Fault) → Undecides s n form ts ds e → Undecides s n form (t ∷ ts) (d ∷ ds) e
later_refused s n form t ts d ds e u = record { place = suc u.place; table = u.table; stands = u.stands; open_still = u.open_still; matches = u.matches; gives = u.gives }

tables_refused : (s n : ℕ) (form : RuleForm) (ts : List TableValue) (ds : List Decision) (e : Fault) → decide_each s n form ts ds ≡ Err e → Undecides s n form ts ds e
unfolding decide_each
tables_refused s n form [] ds e h = cc
tables_refused s n form (t ∷ ts) [] e h = cc
tables_refused s n form (t ∷ ts) (d ∷ ds) e h =
    then_err _ (decide_once s n form t d) e h (λ one. first_refused s n form t ts d ds e one)
    (λ x x_is h2. then_err _ (decide_each s n form ts ds) e h2 (λ rest. later_refused s n form t ts d ds e (tables_refused s n form ts ds e rest)) (λ xs xs_is h3. cc))

-- a table that a rule leaves undecided was so before, and the rule doesn't match it

abbrev WasOpen : RuleForm → TableValue → Decision → Type 0
WasOpen form t d = (d ≡ NoRule) × (is_for form.scope t.name ≡ false)

open_at : (s n : ℕ) (form : RuleForm) (t : TableValue) (b : Bool) → is_for form.scope t.name ≡ b → cond b (decide s n form.columns form.rows t) (Ok NoRule) ≡ Ok NoRule → WasOpen form t NoRule
open_at s n form t true is h = absurd (decide_decides s n form.columns form.rows t h)
open_at s n form t false is h = (refl, is)

no_every : (kept : List ℕ) → EveryRow kept ≡ NoRule → ⊥
no_every kept e = cc

no_range : (place : ℕ) (vindex : Vindex) (range : Bounds) (kept : List ℕ) → InRange place vindex range kept ≡ NoRule → ⊥
no_range place vindex range kept e = cc

one_open : (s n : ℕ) (form : RuleForm) (t : TableValue) (d : Decision) → decide_once s n form t d ≡ Ok NoRule → WasOpen form t d
one_open s n form t NoRule h = open_at s n form t (is_for form.scope t.name) refl h
one_open s n form t (EveryRow kept) h = absurd (no_every kept (same_ok (EveryRow kept) NoRule h))
one_open s n form t (InRange place vindex range kept) h = absurd (no_range place vindex range kept (same_ok (InRange place vindex range kept) NoRule h))

abbrev AllOpen : RuleForm → List TableValue → List Decision → List Decision → Type 0
AllOpen form ts ds es = (i : ℕ) (t : TableValue) → slice_get ts i ≡ Some t → slice_get es i ≡ Some NoRule → (slice_get ds i ≡ Some NoRule) × (is_for form.scope t.name ≡ false)

open_step : (s n : ℕ) (form : RuleForm) (t : TableValue) (ts : List TableValue) (d : Decision) (ds : List Decision) (e : Decision) (es : List Decision) → decide_once s n form t d ≡ Ok e → AllOpen form ts ds es → AllOpen form (t ∷ ts) (d ∷ ds) (e ∷ es)
open_step s n form t ts d ds e es one rest zero u u_is e_is =
    let was = one_open s n form t d (one ∙ ap read_as (same_Some e NoRule e_is)) in
    (ap Some was.0, ap (λ (x : TableValue). is_for form.scope x.name) (sym (same_Some t u u_is)) ∙ was.1)
open_step s n form t ts d ds e es one rest (suc i) u u_is e_is = rest i u u_is e_is

decide_open : (s n : ℕ) (form : RuleForm) (ts : List TableValue) (ds es : List Decision) → decide_each s n form ts ds ≡ Ok es → AllOpen form ts ds es
unfolding decide_each
decide_open s n form [] ds es h = λ i t t_is e_is. cc
decide_open s n form (t ∷ ts) [] es h = λ i u u_is e_is. let none : slice_get [] i ≡ Some NoRule = ap (λ xs. slice_get xs i) (same_ok [] es h) ∙ e_is in cc
decide_open s n form (t ∷ ts) (d ∷ ds) es h =
    then_ok _ (decide_once s n form t d) es h (λ x x_is h2. then_ok _ (decide_each s n form ts ds) es h2 (λ xs xs_is h3.
    subst (AllOpen form (t ∷ ts) (d ∷ ds)) (same_ok (x ∷ xs) es h3) (open_step s n form t ts d ds x xs x_is (decide_open s n form ts ds xs xs_is))))

-- ---- the first match behind rules that don't

first_step : (b : Bool) (p : ℕ × RuleSaid) (rest : Option (ℕ × RuleSaid)) → cond b (Some p) rest ≡ None → (b ≡ false) × (rest ≡ None)
first_step true p rest h = cc
first_step false p rest h = (refl, h)

first_behind : (k : ℕ) (before rs : List RuleSaid) (name : List ℕ) → first_match k before name ≡ None → first_match k (before ++ rs) name ≡ first_match (k + length before) rs name
first_behind k [] rs name h = let at : k ≡ k + 0 = omega arith in ap (λ n. first_match n rs name) at
first_behind k (r ∷ before) rs name h =
    let parts = first_step (is_match r name) (k, r) (first_match (k + 1) before name) h in
    let at : (k + 1) + length before ≡ k + suc (length before) = omega arith in
    ap (λ b. cond b (Some (k, r)) (first_match (k + 1) (before ++ rs) name)) parts.0
    ∙ first_behind (k + 1) before rs name parts.1 ∙ ap (λ n. first_match n rs name) at

-- the rule that matches first, or none of these and the one behind them
matching : (before rs : List RuleSaid) (r : RuleSaid) (n : ℕ) (name : List ℕ) → n ≡ length before → first_match 0 before name ≡ None → is_match r name ≡ true → first_match 0 (before ++ r ∷ rs) name ≡ Some (n, r)
matching before rs r n name count none match =
    let at : 0 + length before ≡ n = omega arith in
    first_behind 0 before (r ∷ rs) name none ∙ ap (λ b. cond b (Some (0 + length before, r)) (first_match ((0 + length before) + 1) rs name)) match ∙ ap (λ m. Some (m, r)) at

unmatched : (before : List RuleSaid) (r : RuleSaid) (name : List ℕ) → first_match 0 before name ≡ None → is_match r name ≡ false → first_match 0 (before ++ r ∷ []) name ≡ None
unmatched before r name none match =
    first_behind 0 before (r ∷ []) name none ∙ ap (λ b. cond b (Some (0 + length before, r)) None) match

-- ---- all rules of a stream

-- the rule that is refused: it has no form, or is the first for a table that it can't decide
pub data IsRefusedRule (s : ℕ) (ts : List TableValue) (rules : List RuleSaid) (e : Fault) : Type 0 where
  formless : (n : ℕ) (r : RuleSaid) → slice_get rules n ≡ Some r → form_of s n r ≡ Err e → IsRefusedRule s ts rules e
  undecided_by : (n : ℕ) (r : RuleSaid) (form : RuleForm) (i : ℕ) (t : TableValue) → slice_get ts i ≡ Some t → first_match 0 rules t.name ≡ Some (n, r) → form_of s n r ≡ Ok form
      → decide s n form.columns form.rows t ≡ Err e → IsRefusedRule s ts rules e

get_behind : (before rs : List RuleSaid) (r : RuleSaid) (n : ℕ) → n ≡ length before → slice_get (before ++ r ∷ rs) n ≡ Some r
get_behind [] rs r n count = ap (slice_get (r ∷ rs)) count
get_behind (b ∷ before) rs r n count = ap (slice_get (b ∷ (before ++ r ∷ rs))) count ∙ get_behind before rs r (length before) refl

rule_refused : (s : ℕ) (ts : List TableValue) (before rs : List RuleSaid) (r : RuleSaid) (n : ℕ) (ds : List Decision) (e : Fault) → n ≡ length before → Untouched before ts ds → rule_over s n ts r ds ≡ Err e → IsRefusedRule s ts (before ++ r ∷ rs) e
rule_refused s ts before rs r n ds e count untouched h =
    then_err _ (form_of s n r) e h (λ bad. formless n r (get_behind before rs r n count) bad)
    (λ form form_is h2.
    let u = tables_refused s n form ts ds e h2 in
    let match : is_match r u.table.name ≡ true = sym (form_match s n r form u.table.name form_is) ∙ u.matches in
    undecided_by n r form u.place u.table u.stands (matching before rs r n u.table.name count (untouched u.place u.table u.stands u.open_still) match) form_is u.gives)

still_untouched : (s n : ℕ) (before : List RuleSaid) (r : RuleSaid) (form : RuleForm) (ts : List TableValue) (ds es : List Decision) → Untouched before ts ds → form_of s n r ≡ Ok form → decide_each s n form ts ds ≡ Ok es → Untouched (before ++ r ∷ []) ts es
still_untouched s n before r form ts ds es untouched form_is is i t t_is e_is =
    let was = decide_open s n form ts ds es is i t t_is e_is in
    unmatched before r t.name (untouched i t t_is was.0) (sym (form_match s n r form t.name form_is) ∙ was.1)

rules_refused : (s : ℕ) (ts : List TableValue) (before rs : List RuleSaid) (n : ℕ) (ds : List Decision) (e : Fault) → n ≡ length before → Untouched before ts ds → decide_in_turn s ts n rs ds ≡ Err e → IsRefusedRule s ts (before ++ rs) e
unfolding decide_in_turn
rules_refused s ts before [] n ds e count untouched h = cc
rules_refused s ts before (r ∷ rs) n ds e count untouched h =
    then_err _ (rule_over s n ts r ds) e h (λ bad. rule_refused s ts before rs r n ds e count untouched bad)
    (λ decided decided_is h2. then_ok _ (form_of s n r) decided decided_is (λ form form_is h3.
    let more : n + 1 ≡ length (before ++ r ∷ []) = omega (arith, length-append before (r ∷ [])) in
    subst (λ all. IsRefusedRule s ts all e) (append_assoc before (r ∷ []) rs)
    (rules_refused s ts (before ++ r ∷ []) rs (n + 1) decided e more (still_untouched s n before r form ts ds decided untouched form_is h3) h2)))

pub decisions_refused : (s : ℕ) (ts : List TableValue) (rules : List RuleSaid) (e : Fault) → decisions_of s ts rules ≡ Err e → IsRefusedRule s ts rules e
decisions_refused s ts rules e h = rules_refused s ts [] rules 0 (undecided ts) e refl (λ i t t_is d_is. refl) h

-- ---- in the document

-- a table of a document, and the one that it was resolved as
record IsResolved (said : TableSaid) (t : TableValue) : Type 0 where
  is : resolved said ≡ Ok t
  name : t.name ≡ said.name
  columns : t.columns ≡ said.columns
  key : each (place_in said.name said.columns) said.key ≡ Ok t.key
  vindex : t.vindex ≡ None → said.vindex ≡ None

-- a key column that isn't listed
not_listed : (names : List (List ℕ)) (columns : List FieldValue) (key : List ℕ) → lists_key names columns key ≡ false → (i : ℕ) × (place : ℕ) × (slice_get key i ≡ Some place) × (has_column (name_at columns place) names ≡ false)
not_listed names columns [] h = cc
not_listed names columns (place ∷ key) h = not_both (has_column (name_at columns place) names) (lists_key names columns key) h
    (λ here. (0, place, refl, here)) (λ later. let there = not_listed names columns key later in (suc there.0, there.1, there.2, there.3))

key_refused : (document : DocumentSaid) (s n : ℕ) (said : TableSaid) (form : RuleForm) (names : List (List ℕ)) (t : TableValue) → HasTable document said → IsFirstFor document s n said.name form → form.columns ≡ Some names → IsResolved said t
    → lists_key names t.columns t.key ≡ false → StandsIn document (bad_rule s n)
key_refused document s n said form names t there first columns is out =
    let found = not_listed names t.columns t.key out in
    let place = found.1 in
    let from = each_at (place_in said.name said.columns) said.key t.key is.key found.0 place found.2 in
    let column = column_found said.columns from.item place (place_found said.name said.columns from.item place from.gives) in
    let name : name_at t.columns place ≡ from.item = ap (λ columns. name_at columns place) is.columns ∙ ap (λ o. option_map_or (λ (c : FieldValue). c.name) o []) column.stands ∙ column.named in
    key_left_out said form there first (names, columns, found.0, from.item, from.stands, ap (λ name. has_column name names) (sym name) ∙ found.3)

list_refused : (b : Bool) (document : DocumentSaid) (s n : ℕ) (said : TableSaid) (form : RuleForm) (names : List (List ℕ)) (t : TableValue) (e : Fault) → HasTable document said → IsFirstFor document s n said.name form → form.columns ≡ Some names → IsResolved said t
    → lists_key names t.columns t.key ≡ b → cond b (each (place_in t.name t.columns) names) (Err (bad_rule s n)) ≡ Err e → StandsIn document e
list_refused false document s n said form names t e there first columns is listed h =
    subst (StandsIn document) (same_fault {B = List ℕ} (bad_rule s n) e h) (key_refused document s n said form names t there first columns is listed)
list_refused true document s n said form names t e there first columns is listed h =
    let r = each_refused (place_in t.name t.columns) names e h in
    let same : place_in t.name t.columns r.item ≡ place_in said.name said.columns r.item = ap (λ name. place_in name t.columns r.item) is.name ∙ ap (λ columns. place_in said.name columns r.item) is.columns in
    let a = absent said.name said.columns r.item e (sym same ∙ r.gives) in
    subst (StandsIn document) a.0 (by_list said s n form there refl first (names, columns, r.place, r.stands) a.1)

kept_refused : (document : DocumentSaid) (s n : ℕ) (said : TableSaid) (form : RuleForm) (columns : Option (List (List ℕ))) (t : TableValue) (e : Fault) → HasTable document said → IsFirstFor document s n said.name form → form.columns ≡ columns → IsResolved said t
    → kept_by s n columns t ≡ Err e → StandsIn document e
kept_refused document s n said form None t e there first columns is h = cc
kept_refused document s n said form (Some names) t e there first columns is h =
    list_refused (lists_key names t.columns t.key) document s n said form names t e there first columns is refl h

own_refused : (document : DocumentSaid) (s n : ℕ) (said : TableSaid) (form : RuleForm) (range : Bounds) (t : TableValue) (v : Option (ℕ × Vindex)) (e : Fault) → HasTable document said → IsFirstFor document s n said.name form → form.rows ≡ in_own_range range
    → IsResolved said t → (v ≡ None → said.vindex ≡ None) → own_decision s n form.columns t range v ≡ Err e → StandsIn document e
own_refused document s n said form range t None e there first rows is none h =
    subst (StandsIn document) (same_fault {B = Decision} (bad_rule s n) e h) (no_vindex said form range there first rows (none refl))
own_refused document s n said form range t (Some v) e there first rows is none h =
    then_err _ (kept_by s n form.columns t) e h (λ bad. kept_refused document s n said form form.columns t e there first refl is bad) (λ kept kept_is h2. cc)

named_refused : (document : DocumentSaid) (s n : ℕ) (said : TableSaid) (form : RuleForm) (column : List ℕ) (vindex : Vindex) (range : Bounds) (t : TableValue) (e : Fault) → HasTable document said → IsFirstFor document s n said.name form
    → form.rows ≡ in_range_of column vindex range → IsResolved said t → decide s n form.columns (in_range_of column vindex range) t ≡ Err e → StandsIn document e
named_refused document s n said form column vindex range t e there first rows is h =
    let place_same : place_in t.name t.columns column ≡ place_in said.name said.columns column = ap (λ name. place_in name t.columns column) is.name ∙ ap (λ columns. place_in said.name columns column) is.columns in
    then_err _ (kept_by s n form.columns t) e h (λ bad. kept_refused document s n said form form.columns t e there first refl is bad)
    (λ kept kept_is h1. then_err _ (place_in t.name t.columns column) e h1
    (λ none. let a = absent said.name said.columns column e (sym place_same ∙ none) in
    subst (StandsIn document) a.0 (by_rule said s n form vindex range there refl first rows a.1))
    (λ place place_is h2. then_err _ (vindex_type t.name t.columns column vindex) e h2
    (λ unfit.
    let r = refused_type (is_vindex_type vindex (type_in t.columns column)) column (key_type t.name column) e unfit in
    let kind : is_vindex_type vindex (type_in said.columns column) ≡ false = ap (λ columns. is_vindex_type vindex (type_in columns column)) (sym is.columns) ∙ r.0 in
    subst (StandsIn document) (ap (λ name. key_type name column) (sym is.name) ∙ r.1)
    (under_rule said s n form vindex range there refl first rows (unfit_column (is_vindex_type vindex) said.name said.columns column place (sym place_same ∙ place_is) kind)))
    (λ x x_is h3. cc)))

decide_refused : (document : DocumentSaid) (s n : ℕ) (said : TableSaid) (form : RuleForm) (rows : RowsSaid) (t : TableValue) (e : Fault) → HasTable document said → IsFirstFor document s n said.name form → form.rows ≡ rows → IsResolved said t
    → decide s n form.columns rows t ≡ Err e → StandsIn document e
decide_refused document s n said form every_row t e there first rows is h =
    then_err _ (kept_by s n form.columns t) e h (λ bad. kept_refused document s n said form form.columns t e there first refl is bad) (λ kept kept_is h2. cc)
decide_refused document s n said form (in_own_range range) t e there first rows is h = own_refused document s n said form range t t.vindex e there first rows is is.vindex h
decide_refused document s n said form (in_range_of column vindex range) t e there first rows is h = named_refused document s n said form column vindex range t e there first rows is h

-- a table has a vindex where it is said to have one
vindex_kept : (table : List ℕ) (said : TableSaid) (v : Option (List ℕ × Vindex)) (vindex : Option (ℕ × Vindex)) → vindex_place table said.columns v ≡ Ok vindex → vindex ≡ None → v ≡ None
vindex_kept table said None vindex h none = refl
vindex_kept table said (Some v) vindex h none =
    then_ok _ (place_in table said.columns v.0) vindex h (λ place place_is h2. let some : Some (place, v.1) ≡ vindex = same_ok (Some (place, v.1)) vindex h2 in cc)

resolved_as : (said : TableSaid) (t : TableValue) → resolved said ≡ Ok t → IsResolved said t
unfolding resolved
resolved_as said t h =
    then_ok _ (each (place_in said.name said.columns) said.key) t h (λ key key_is h2.
    then_ok _ (vindex_place said.name said.columns said.vindex) t h2 (λ vindex vindex_is h3.
    then_ok _ (refuse_type said.name (unfit_key said.columns said.key)) t h3 (λ a a_is h4.
    then_ok _ (own_vindex_type said.name said.columns said.vindex) t h4 (λ b b_is h5.
    let same = same_ok (record { name = said.name; columns = said.columns; key = key; vindex = vindex; kept = all_places said.columns }) t h5 in
    record {
      is = h;
      name = ap (λ (x : TableValue). x.name) (sym same);
      columns = ap (λ (x : TableValue). x.columns) (sym same);
      key = key_is ∙ ap (λ (x : TableValue). Ok x.key) same;
      vindex = λ none. vindex_kept said.name said said.vindex vindex vindex_is (ap (λ (x : TableValue). x.vindex) same ∙ none);
    }))))

rule_stands : (document : DocumentSaid) (ts : List TableValue) (s : ℕ) (stream : StreamSaid) (e : Fault) → each resolved document.tables ≡ Ok ts → slice_get document.streams s ≡ Some stream → IsRefusedRule s ts stream.rules e → StandsIn document e
rule_stands document ts s stream e tables_are stands (formless n r r_is bad) =
    subst (StandsIn document) (no_form_is s n r e bad) (no_form stream r stands r_is (λ form is. let both : failed {B = RuleForm} e ≡ Ok form = sym bad ∙ is in cc))
rule_stands document ts s stream e tables_are stands (undecided_by n r form i t t_is first form_is bad) =
    let from = each_at resolved document.tables ts tables_are i t t_is in
    let parts = resolved_as from.item t from.gives in
    let at_name : first_match 0 stream.rules from.item.name ≡ Some (n, r) = ap (first_match 0 stream.rules) (sym parts.name) ∙ first in
    decide_refused document s n from.item form form.rows t e (i, from.stands) (record { said = stream; stands = stands; text = r; first = at_name; formed = form_is }) refl
    parts bad

decided_refused : (ts : List TableValue) (n : ℕ) (stream : StreamSaid) (e : Fault) → decided_by ts n stream ≡ Err e → IsRefusedRule n ts stream.rules e
unfolding decided_by
decided_refused ts n stream e h =
    then_err _ (decisions_of n ts stream.rules) e h (λ bad. decisions_refused n ts stream.rules e bad) (λ ds ds_is h2. cc)

abbrev AreStreamsFrom : DocumentSaid → ℕ → List StreamSaid → Type 0
AreStreamsFrom document n ss = (i : ℕ) (stream : StreamSaid) → slice_get ss i ≡ Some stream → slice_get document.streams (n + i) ≡ Some stream

all_refused : (document : DocumentSaid) (ts : List TableValue) (n : ℕ) (ss : List StreamSaid) (e : Fault) → each resolved document.tables ≡ Ok ts → AreStreamsFrom document n ss → decided_from ts n ss ≡ Err e → StandsIn document e
unfolding decided_from
all_refused document ts n [] e tables_are there h = cc
all_refused document ts n (s ∷ ss) e tables_are there h =
    let at_n : n + 0 ≡ n = omega arith in
    then_err _ (decided_by ts n s) e h
    (λ bad. rule_stands document ts n s e tables_are (ap (slice_get document.streams) (sym at_n) ∙ there 0 s refl) (decided_refused ts n s e bad))
    (λ p p_is h2. then_err _ (decided_from ts (n + 1) ss) e h2
    (λ bad. all_refused document ts (n + 1) ss e tables_are (λ i stream is. let at : (n + 1) + i ≡ n + suc i = omega arith in ap (slice_get document.streams) at ∙ there (suc i) stream is) bad)
    (λ ps ps_is h3. cc))

pub streams_stand : (document : DocumentSaid) (ts : List TableValue) (e : Fault) → each resolved document.tables ≡ Ok ts → decided_from ts 0 document.streams ≡ Err e → StandsIn document e
streams_stand document ts e tables_are h =
    all_refused document ts 0 document.streams e tables_are (λ i stream is. let at : 0 + i ≡ i = omega arith in ap (slice_get document.streams) at ∙ is) h

-- ---- streams that keep different columns

own_keeps : (s n : ℕ) (form : RuleForm) (range : Bounds) (t : TableValue) (v : Option (ℕ × Vindex)) (d : Decision) (kept : List ℕ) → own_decision s n form.columns t range v ≡ Ok d → kept_under_rule d ≡ Some kept → kept_by s n form.columns t ≡ Ok kept
own_keeps s n form range t None d kept h keeps = cc
own_keeps s n form range t (Some v) d kept h keeps =
    then_ok _ (kept_by s n form.columns t) d h (λ k k_is h2. k_is ∙ ap Ok (same_Some k kept (ap kept_under_rule (same_ok (InRange v.0 v.1 range k) d h2) ∙ keeps)))

decided_keeps : (s n : ℕ) (form : RuleForm) (rows : RowsSaid) (t : TableValue) (d : Decision) (kept : List ℕ) → decide s n form.columns rows t ≡ Ok d → kept_under_rule d ≡ Some kept → kept_by s n form.columns t ≡ Ok kept
decided_keeps s n form every_row t d kept h keeps =
    then_ok _ (kept_by s n form.columns t) d h (λ k k_is h2. k_is ∙ ap Ok (same_Some k kept (ap kept_under_rule (same_ok (EveryRow k) d h2) ∙ keeps)))
decided_keeps s n form (in_own_range range) t d kept h keeps = own_keeps s n form range t t.vindex d kept h keeps
decided_keeps s n form (in_range_of column vindex range) t d kept h keeps =
    then_ok _ (kept_by s n form.columns t) d h (λ k k_is h2. then_ok _ (place_in t.name t.columns column) d h2 (λ place place_is h3. then_ok _ (vindex_type t.name t.columns column vindex) d h3 (λ a a_is h4.
    k_is ∙ ap Ok (same_Some k kept (ap kept_under_rule (same_ok (InRange place vindex range k) d h4) ∙ keeps)))))

first_keeps : (document : DocumentSaid) (s : ℕ) (stream : StreamSaid) (said : TableSaid) (t : TableValue) (o : Option (ℕ × RuleSaid)) (d : Decision) (kept : List ℕ) → slice_get document.streams s ≡ Some stream → HasTable document said → IsResolved said t
    → first_match 0 stream.rules t.name ≡ o → MatchOption o (d ≡ NoRule) (λ p. Decides s p.0 p.1 t d) → kept_under_rule d ≡ Some kept → KeepsOf document t.name kept
first_keeps document s stream said t None d kept stands there is first by keeps = let none : kept_under_rule d ≡ None = ap kept_under_rule by in cc
first_keeps document s stream said t (Some p) d kept stands there is first by keeps = record {
  said = said;
  there = there;
  named = sym is.name;
  resolved_as = t;
  is = is.is;
  stream = s;
  rule = p.0;
  form = by.form;
  first = record { said = stream; stands = stands; text = p.1; first = first; formed = by.formed };
  keeps = decided_keeps s p.0 by.form by.form.rows t d kept by.decided keeps;
}

keeps_of : (document : DocumentSaid) (tables : List TableValue) (streams : List Decided) (i : ℕ) (t : TableValue) (kept : List ℕ) → each resolved document.tables ≡ Ok tables → decided_from tables 0 document.streams ≡ Ok streams → slice_get tables i ≡ Some t
    → KeptBy i streams kept → KeepsOf document t.name kept
keeps_of document tables streams i t kept tables_are streams_are t_is by =
    let at = decided_at tables 0 document.streams streams streams_are by.place by.stream by.stands in
    let from = each_at resolved document.tables tables tables_are i t t_is in
    let d = decision_at_kept i by.stream (slice_get by.stream.decisions i) kept refl by.keeps in
    let zero_at : 0 + by.place ≡ by.place = omega arith in
    first_keeps document by.place at.stream from.item t (first_match 0 at.stream.rules t.name) d.decision kept at.stands (i, from.stands) (resolved_as from.item t from.gives) refl
    (subst (λ n. IsByFirst n 0 at.stream.rules t d.decision) zero_at (at.is.first i t d.decision t_is d.stands)) d.keeps

pub differ_stand : (document : DocumentSaid) (tables : List TableValue) (streams : List Decided) (e : Fault) → each resolved document.tables ≡ Ok tables → decided_from tables 0 document.streams ≡ Ok streams → closed_from streams 0 tables ≡ Err e → StandsIn document e
differ_stand document tables streams e tables_are streams_are h =
    let d = closed_refused streams 0 tables e h in
    let zero_at : 0 + d.place ≡ d.place = omega arith in
    subst (StandsIn document) d.is (
      d.one,
      d.other,
      keeps_of document tables streams d.place d.table d.one tables_are streams_are d.stands (subst (λ n. KeptBy n streams d.one) zero_at d.first),
      keeps_of document tables streams d.place d.table d.other tables_are streams_are d.stands (subst (λ n. KeptBy n streams d.other) zero_at d.second),
      d.apart,
    )
