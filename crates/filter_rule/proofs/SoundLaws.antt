-- No fault stands in a file whose plans are read: its counts, its tables and its rules.
use Rattle.std.proofs.Common.{◌≡◌, ◌⊎◌, inl, inr, ℕ, zero, suc, ◌+◌, ◌<◌, ◌≤◌, List, [], ◌∷◌, length, get_or, map, Bool, true, false, cond, true≢false, Option, Some, None, option_map, Result, Ok, Err, refl, sym, ap, subst, ◌∙◌, arith}
use Rattle.std.specs.Prelude.{slice_get, find, not, MatchOption, OnOk, option_and_then}
use Rattle.std.specs.List.{list_all}
use Rattle.std.specs.Option.{option_map_or}
use Rattle.std.proofs.lemmas.Bool.{not-false}
use Rattle.std.proofs.lemmas.Option.{slice_get_within, slice_get-get_or, slice_get-map, same_Some}
use Rattle.std.proofs.lemmas.Slice.Eq.{bytes_eq-Decides}
use Rattle.list_laws.specs.Outcome.{◌>>=◌, each}
use Rattle.vindex.specs.Bounds.{Bounds}
use Rattle.vindex.specs.declared.vindexes.Vindex.{Vindex}
use Rattle.filter_text.specs.ColumnList.{has_column}
use Rattle.filter_text.specs.FilterText.{RowsSaid, every_row, in_own_range, in_range_of}
use Rattle.filter_rule.specs.Document.{RuleSaid, StreamSaid, TableSaid, DocumentSaid, document_of}
use Rattle.filter_rule.specs.Faults.{Fault, json, shape, limit, no_such_column, key_type, bad_rule, columns_differ, GivesOrFails}
use Rattle.filter_rule.specs.FirstRule.{first_match, Decides, IsByFirst, document_in}
use Rattle.filter_rule.specs.PlanTable.{TableValue}
use Rattle.filter_rule.specs.PlanValue.{PlanValue, kept_under_rule}
use Rattle.filter_rule.specs.Reading.{rule_over, decide_in_turn, undecided, decisions_of, Decided, decided_by, decided_from, plans_of}
use Rattle.filter_rule.specs.Resolving.{all_places, name_at, lists_key, is_key_type, is_vindex_type, place_in, type_in, unfit_key, refuse_type, vindex_place, vindex_type, own_vindex_type, resolved}
use Rattle.filter_rule.specs.Rules.{RuleForm, form_of, kept_by, own_decision, decide}
use Rattle.filter_rule.specs.Standing.{HasTable, HasNoColumn, HasUnfit, IsFirstFor, LeavesOutKey, LacksColumn, by_key, by_vindex, by_rule, by_list, HasUnfitColumn, in_key, under_vindex, under_rule, HasBadRule, no_form, no_vindex, key_left_out, KeepsOf, KeepDifferent, IsOutside, IsPastLimit, streams_past, tables_past, columns_past, key_past, vindexes_past, Stands, IsFaultless}
use Rattle.filter_rule.specs.WellFormed.{AreDistinct, AreUpTo}
use Rattle.filter_rule.specs.declared.decision.Decision.{Decision}
use Rattle.filter_rule.specs.declared.decision.Decision.TheVariants.{NoRule, EveryRow, InRange}
use Rattle.row_view.specs.FieldValue.{FieldValue}
use Rattle.filter_rule.proofs.DecidedLaws.{decided_parts}
use Rattle.filter_rule.proofs.KeepingLaws.{KeptBy, Agreement, agreed_there, same_kept}
use Rattle.filter_rule.proofs.RefusedSteps.{found}
use Rattle.filter_rule.proofs.ShapeLaws.{decided_length}
use Rattle.filter_rule.proofs.StepLaws.{then_ok, same_ok, list_all_get, find_none}
use Rattle.filter_rule.proofs.TableLaws.{is_named, place_found, column_found, few_streams, few_tables, table_counts, tables_fit, no_refusal, type_kept}
use Rattle.filter_rule.proofs.ReadLaws.{Plans, values, refuses_all}
use Rattle.filter_rule.proofs.WholeLaws.{Whole, whole_at}
use Rattle.filter_rule.specs.declared.fault.PlanFault.{PlanFault}

-- ---- steps that gave a value, from what they were taken of

-- what an item gave, at its place
record GaveAt {A B : Type 0} (f : A → Result B Fault) (x : A) (ys : List B) (i : ℕ) : Type 0 where
  gave : B
  stands : slice_get ys i ≡ Some gave
  gives : f x ≡ Ok gave

each_there : {A B : Type 0} (f : A → Result B Fault) (xs : List A) (ys : List B) (i : ℕ) (x : A) → each f xs ≡ Ok ys → slice_get xs i ≡ Some x → GaveAt f x ys i
each_there f [] ys i x h is = cc
each_there f (z ∷ xs) ys zero x h is =
    then_ok _ (f z) ys h (λ y y_is h2. then_ok _ (each f xs) ys h2 (λ rest rest_is h3.
    subst (λ l. GaveAt f x l 0) (same_ok (y ∷ rest) ys h3) (record { gave = y; stands = refl; gives = ap f (sym (same_Some z x is)) ∙ y_is })))
each_there f (z ∷ xs) ys (suc i) x h is =
    then_ok _ (f z) ys h (λ y y_is h2. then_ok _ (each f xs) ys h2 (λ rest rest_is h3.
    let there = each_there f xs rest i x rest_is is in
    subst (λ l. GaveAt f x l (suc i)) (same_ok (y ∷ rest) ys h3) (record { gave = there.gave; stands = there.stands; gives = there.gives })))

-- what a stream decided, at its place
record DecidesAt (tables : List TableValue) (n : ℕ) (s : StreamSaid) (streams : List Decided) (i : ℕ) : Type 0 where
  one : Decided
  stands : slice_get streams i ≡ Some one
  gives : decided_by tables n s ≡ Ok one

decided_there : (tables : List TableValue) (n : ℕ) (ss : List StreamSaid) (streams : List Decided) (i : ℕ) (s : StreamSaid) → decided_from tables n ss ≡ Ok streams → slice_get ss i ≡ Some s → DecidesAt tables (n + i) s streams i
unfolding decided_from
decided_there tables n [] streams i s h is = cc
decided_there tables n (z ∷ ss) streams zero s h is =
    then_ok _ (decided_by tables n z) streams h (λ first first_is h2. then_ok _ (decided_from tables (n + 1) ss) streams h2 (λ rest rest_is h3.
    let at : n + 0 ≡ n = omega arith in
    subst (λ l. DecidesAt tables (n + 0) s l 0) (same_ok (first ∷ rest) streams h3)
    (record { one = first; stands = refl; gives = ap (λ k. decided_by tables k s) at ∙ ap (decided_by tables n) (sym (same_Some z s is)) ∙ first_is })))
decided_there tables n (z ∷ ss) streams (suc i) s h is =
    then_ok _ (decided_by tables n z) streams h (λ first first_is h2. then_ok _ (decided_from tables (n + 1) ss) streams h2 (λ rest rest_is h3.
    let there = decided_there tables (n + 1) ss rest i s rest_is is in
    let at : n + suc i ≡ (n + 1) + i = omega arith in
    subst (λ l. DecidesAt tables (n + suc i) s l (suc i)) (same_ok (first ∷ rest) streams h3)
    (record { one = there.one; stands = there.stands; gives = ap (λ k. decided_by tables k s) at ∙ there.gives })))

-- a rule of a stream that decided has a form
turn_form : (s : ℕ) (ts : List TableValue) (n : ℕ) (rs : List RuleSaid) (ds es : List Decision) (i : ℕ) (r : RuleSaid) → decide_in_turn s ts n rs ds ≡ Ok es → slice_get rs i ≡ Some r → (form : RuleForm) × (form_of s (n + i) r ≡ Ok form)
unfolding decide_in_turn
turn_form s ts n [] ds es i r h is = cc
turn_form s ts n (z ∷ rs) ds es zero r h is =
    then_ok _ (rule_over s n ts z ds) es h (λ decided decided_is h2. then_ok _ (form_of s n z) decided decided_is (λ form form_is h3.
    let at : n + 0 ≡ n = omega arith in
    (form, ap (λ k. form_of s k r) at ∙ ap (form_of s n) (sym (same_Some z r is)) ∙ form_is)))
turn_form s ts n (z ∷ rs) ds es (suc i) r h is =
    then_ok _ (rule_over s n ts z ds) es h (λ decided decided_is h2.
    let there = turn_form s ts (n + 1) rs decided es i r h2 is in
    let at : n + suc i ≡ (n + 1) + i = omega arith in
    (there.0, ap (λ k. form_of s k r) at ∙ there.1))

stream_form : (ts : List TableValue) (n : ℕ) (stream : StreamSaid) (one : Decided) (i : ℕ) (r : RuleSaid) → decided_by ts n stream ≡ Ok one → slice_get stream.rules i ≡ Some r → (form : RuleForm) × (form_of n i r ≡ Ok form)
unfolding decided_by
stream_form ts n stream one i r h is =
    then_ok _ (decisions_of n ts stream.rules) one h (λ ds ds_is h2.
    let there = turn_form n ts 0 stream.rules (undecided ts) ds i r ds_is is in
    let at : i ≡ 0 + i = omega arith in
    (there.0, ap (λ k. form_of n k r) at ∙ there.1))

-- ---- columns

has_none : (table : List ℕ) (columns : List FieldValue) (name : List ℕ) (place : ℕ) → place_in table columns name ≡ Ok place → HasNoColumn columns name → ⊥
has_none table columns name place is none =
    let there = column_found columns name place (place_found table columns name place is) in
    none place there.column there.stands there.named

type_found : (columns : List FieldValue) (name : List ℕ) (place : ℕ) (c : FieldValue) (o : Option FieldValue) → AreDistinct (map (λ (x : FieldValue). x.name) columns) → slice_get columns place ≡ Some c → c.name ≡ name
    → find (is_named name) columns ≡ o → option_map_or (λ (x : FieldValue). x.type_number) o 0 ≡ c.type_number
type_found columns name place c None apart stands named is =
    let no : is_named name c ≡ false = find_none (is_named name) columns place c is stands in
    let yes : is_named name c ≡ true = (bytes_eq-Decides c.name name).1 named in
    absurd (true≢false (sym yes ∙ no))
type_found columns name place c (Some x) apart stands named is =
    let f = found (is_named name) columns x is in
    let x_named : x.name ≡ name = (bytes_eq-Decides x.name name).0 f.passes in
    let a : slice_get (map (λ (y : FieldValue). y.name) columns) f.place ≡ Some name = slice_get-map (λ (y : FieldValue). y.name) columns f.place ∙ ap (option_map (λ (y : FieldValue). y.name)) f.stands ∙ ap Some x_named in
    let b : slice_get (map (λ (y : FieldValue). y.name) columns) place ≡ Some name = slice_get-map (λ (y : FieldValue). y.name) columns place ∙ ap (option_map (λ (y : FieldValue). y.name)) stands ∙ ap Some named in
    let at : f.place ≡ place = apart f.place place name a b in
    let same : x ≡ c = same_Some x c (sym f.stands ∙ ap (slice_get columns) at ∙ stands) in
    ap (λ (y : FieldValue). y.type_number) same

-- a column of the name has a type that fits, where the type by the name does
has_unfit : (fits : ℕ → Bool) (columns : List FieldValue) (name : List ℕ) → AreDistinct (map (λ (x : FieldValue). x.name) columns) → HasUnfit fits columns name → fits (type_in columns name) ≡ true → ⊥
has_unfit fits columns name apart u fit =
    let is : type_in columns name ≡ u.column.type_number = type_found columns name u.place u.column (find (is_named name) columns) apart u.stands u.named refl in
    true≢false (sym fit ∙ ap fits is ∙ u.unfit)

-- ---- a table as it was resolved

record ResolvedOf (said : TableSaid) (t : TableValue) : Type 0 where
  gives : resolved said ≡ Ok t
  name : t.name ≡ said.name
  columns : t.columns ≡ said.columns
  key : each (place_in said.name said.columns) said.key ≡ Ok t.key
  key_fit : unfit_key said.columns said.key ≡ None
  vindex : vindex_place said.name said.columns said.vindex ≡ Ok t.vindex
  own : Option (List ℕ)
  vindex_fit : own_vindex_type said.name said.columns said.vindex ≡ Ok own

resolved_of : (said : TableSaid) (t : TableValue) → resolved said ≡ Ok t → ResolvedOf said t
unfolding resolved
resolved_of said t h =
    then_ok _ (each (place_in said.name said.columns) said.key) t h (λ key key_is h2.
    then_ok _ (vindex_place said.name said.columns said.vindex) t h2 (λ vindex vindex_is h3.
    then_ok _ (refuse_type said.name (unfit_key said.columns said.key)) t h3 (λ a a_is h4.
    then_ok _ (own_vindex_type said.name said.columns said.vindex) t h4 (λ b b_is h5.
    let same = same_ok (record { name = said.name; columns = said.columns; key = key; vindex = vindex; kept = all_places said.columns }) t h5 in
    record {
      gives = h;
      name = ap (λ (x : TableValue). x.name) (sym same);
      columns = ap (λ (x : TableValue). x.columns) (sym same);
      key = key_is ∙ ap (λ (x : TableValue). Ok x.key) same;
      key_fit = no_refusal said.name (unfit_key said.columns said.key) a a_is;
      vindex = vindex_is ∙ ap (λ (x : TableValue). Ok x.vindex) same;
      own = b;
      vindex_fit = b_is;
    }))))

-- ---- what a rule decided

-- it keeps the columns that it lists
abbrev pub Keeps : ℕ → ℕ → Option (List (List ℕ)) → TableValue → Decision → Type 0
Keeps s n columns t d = (kept : List ℕ) × (kept_by s n columns t ≡ Ok kept) × (kept_under_rule d ≡ Some kept)

own_keeps : (s n : ℕ) (columns : Option (List (List ℕ))) (t : TableValue) (range : Bounds) (v : Option (ℕ × Vindex)) (d : Decision) → own_decision s n columns t range v ≡ Ok d → Keeps s n columns t d
own_keeps s n columns t range None d h = cc
own_keeps s n columns t range (Some v) d h = then_ok _ (kept_by s n columns t) d h (λ kept kept_is h2. (kept, kept_is, ap kept_under_rule (sym (same_ok (InRange v.0 v.1 range kept) d h2))))

pub decide_keeps : (s n : ℕ) (columns : Option (List (List ℕ))) (rows : RowsSaid) (t : TableValue) (d : Decision) → decide s n columns rows t ≡ Ok d → Keeps s n columns t d
decide_keeps s n columns every_row t d h =
    then_ok _ (kept_by s n columns t) d h (λ kept kept_is h2. (kept, kept_is, ap kept_under_rule (sym (same_ok (EveryRow kept) d h2))))
decide_keeps s n columns (in_own_range range) t d h = own_keeps s n columns t range t.vindex d h
decide_keeps s n columns (in_range_of column vindex range) t d h =
    then_ok _ (kept_by s n columns t) d h (λ kept kept_is h2. then_ok _ (place_in t.name t.columns column) d h2 (λ place place_is h3. then_ok _ (vindex_type t.name t.columns column vindex) d h3 (λ a a_is h4.
    (kept, kept_is, ap kept_under_rule (sym (same_ok (InRange place vindex range kept) d h4))))))

-- a list is of columns that are there, and has each key column
kept_parts : (b : Bool) (r : Result (List ℕ) Fault) (e : Fault) (kept : List ℕ) → cond b r (Err e) ≡ Ok kept → (b ≡ true) × (r ≡ Ok kept)
kept_parts true r e kept h = (refl, h)
kept_parts false r e kept h = cc

pub list_kept : (s n : ℕ) (names : List (List ℕ)) (t : TableValue) (kept : List ℕ) → kept_by s n (Some names) t ≡ Ok kept → (lists_key names t.columns t.key ≡ true) × (each (place_in t.name t.columns) names ≡ Ok kept)
list_kept s n names t kept h = kept_parts (lists_key names t.columns t.key) (each (place_in t.name t.columns) names) (bad_rule s n) kept h

-- a range of a column's ids is of one that is there and of a type that fits
record Ranges (t : TableValue) (column : List ℕ) (vindex : Vindex) : Type 0 where
  place : ℕ
  there : place_in t.name t.columns column ≡ Ok place
  fit : is_vindex_type vindex (type_in t.columns column) ≡ true

ranges : (s n : ℕ) (columns : Option (List (List ℕ))) (column : List ℕ) (vindex : Vindex) (range : Bounds) (t : TableValue) (d : Decision) → decide s n columns (in_range_of column vindex range) t ≡ Ok d → Ranges t column vindex
ranges s n columns column vindex range t d h =
    then_ok _ (kept_by s n columns t) d h (λ kept kept_is h2. then_ok _ (place_in t.name t.columns column) d h2 (λ place place_is h3. then_ok _ (vindex_type t.name t.columns column vindex) d h3 (λ a a_is h4.
    record { place = place; there = place_is; fit = type_kept (is_vindex_type vindex (type_in t.columns column)) t.name column a a_is })))

-- what the first rule of a stream that matches a table decided of it
record FirstDecides (document : DocumentSaid) (tables : List TableValue) (streams : List Decided) (said : TableSaid) (s n : ℕ) (form : RuleForm) : Type 0 where
  place : ℕ
  said_there : slice_get document.tables place ≡ Some said
  table : TableValue
  there : slice_get tables place ≡ Some table
  is : ResolvedOf said table
  stream : Decided
  stream_there : slice_get streams s ≡ Some stream
  decision : Decision
  decided : slice_get stream.decisions place ≡ Some decision
  decides : decide s n form.columns form.rows table ≡ Ok decision

first_decides : (text : List ℕ) (plans : List PlanValue) (w : Whole text plans) (said : TableSaid) (s n : ℕ) (form : RuleForm) → HasTable w.document said → IsFirstFor w.document s n said.name form
    → FirstDecides w.document w.tables w.streams said s n form
first_decides text plans w said s n form there first =
    let at = each_there resolved w.document.tables w.tables there.0 said w.tables_are there.1 in
    let is = resolved_of said at.gave at.gives in
    let one = decided_there w.tables 0 w.document.streams w.streams s first.said w.streams_are first.stands in
    let zero_at : 0 + s ≡ s = omega arith in
    let parts = decided_parts w.tables s first.said one.one (ap (λ k. decided_by w.tables k first.said) (sym zero_at) ∙ one.gives) in
    let fit = tables_fit w.document w.tables w.names w.within w.tables_are in
    let count : length one.one.decisions ≡ length w.tables = decided_length w.tables one.one.decisions (parts.fit fit) in
    let below : there.0 < length w.tables = slice_get_within w.tables there.0 at.gave at.stands in
    let here : there.0 < length one.one.decisions = omega arith in
    let decision = get_or one.one.decisions there.0 NoRule in
    let stands : slice_get one.one.decisions there.0 ≡ Some decision = slice_get-get_or one.one.decisions there.0 NoRule here in
    let by : IsByFirst s 0 first.said.rules at.gave decision = parts.first there.0 at.gave decision at.stands stands in
    let matched : first_match 0 first.said.rules at.gave.name ≡ Some (n, first.text) = ap (first_match 0 first.said.rules) is.name ∙ first.first in
    let decides : Decides s n first.text at.gave decision = subst (λ o. MatchOption o (decision ≡ NoRule) (λ p. Decides s p.0 p.1 at.gave decision)) matched by in
    let same : decides.form ≡ form = same_ok decides.form form (sym decides.formed ∙ first.formed) in
    record {
      place = there.0;
      said_there = there.1;
      table = at.gave;
      there = at.stands;
      is = is;
      stream = one.one;
      stream_there = one.stands;
      decision = decision;
      decided = stands;
      decides = ap (λ (f : RuleForm). decide s n f.columns f.rows at.gave) (sym same) ∙ decides.decided;
    }

-- ---- no limit is passed

within_up_to : {A : Type 0} (most : ℕ) (xs : List A) → AreUpTo most xs → IsOutside most (length xs) → ⊥
within_up_to most xs up outside =
    let low : 1 ≤ length xs = up.0 in
    let high : length xs ≤ most = up.1 in
    elim outside [
      | inl none ↦ omega arith
      | inr past ↦ omega arith
    ]

no_limit : (text : List ℕ) (plans : List PlanValue) (w : Whole text plans) → IsPastLimit w.document → ⊥
no_limit text plans w (streams_past outside) = within_up_to 64 w.document.streams (few_streams w.document w.within) outside
no_limit text plans w (tables_past outside) = within_up_to 64 w.document.tables (few_tables w.document w.within) outside
no_limit text plans w (columns_past table there outside) = within_up_to 256 table.columns (table_counts w.document there.0 table w.within there.1).0 outside
no_limit text plans w (key_past table there outside) = within_up_to 8 table.key (table_counts w.document there.0 table w.within there.1).1 outside
no_limit text plans w (vindexes_past unknown) = true≢false (sym w.known ∙ unknown)

-- ---- no column lacks

resolved_there : (text : List ℕ) (plans : List PlanValue) (w : Whole text plans) (said : TableSaid) → HasTable w.document said → (t : TableValue) × ResolvedOf said t
resolved_there text plans w said there =
    let at = each_there resolved w.document.tables w.tables there.0 said w.tables_are there.1 in
    (at.gave, resolved_of said at.gave at.gives)

named_first : (document : DocumentSaid) (s n : ℕ) (table : List ℕ) (said : TableSaid) (form : RuleForm) → said.name ≡ table → IsFirstFor document s n table form → IsFirstFor document s n said.name form
named_first document s n table said form named first = subst (λ name. IsFirstFor document s n name form) (sym named) first

place_of_table : (said : TableSaid) (t : TableValue) (column : List ℕ) → ResolvedOf said t → place_in t.name t.columns column ≡ place_in said.name said.columns column
place_of_table said t column is = ap (λ name. place_in name t.columns column) is.name ∙ ap (λ columns. place_in said.name columns column) is.columns

vindex_there : (said : TableSaid) (t : TableValue) (v : List ℕ × Vindex) → ResolvedOf said t → said.vindex ≡ Some v → (place : ℕ) × (place_in said.name said.columns v.0 ≡ Ok place)
vindex_there said t v is v_is =
    let from : vindex_place said.name said.columns (Some v) ≡ Ok t.vindex = ap (vindex_place said.name said.columns) (sym v_is) ∙ is.vindex in
    then_ok _ (place_in said.name said.columns v.0) t.vindex from (λ place place_is h. (place, place_is))

no_lack : (text : List ℕ) (plans : List PlanValue) (w : Whole text plans) (table column : List ℕ) → LacksColumn w.document table column → ⊥
no_lack text plans w table column (by_key said there named keyed none) =
    let t = resolved_there text plans w said there in
    let place = each_there (place_in said.name said.columns) said.key t.0.key keyed.0 column t.1.key keyed.1 in
    has_none said.name said.columns column place.gave place.gives none
no_lack text plans w table column (by_vindex said v there named v_is of_column none) =
    let t = resolved_there text plans w said there in
    let place = vindex_there said t.0 v t.1 v_is in
    has_none said.name said.columns column place.0 (ap (place_in said.name said.columns) (sym of_column) ∙ place.1) none
no_lack text plans w table column (by_rule said stream rule form vindex range there named first rows none) =
    let m = first_decides text plans w said stream rule form there (named_first w.document stream rule table said form named first) in
    let r = ranges stream rule form.columns column vindex range m.table m.decision (ap (λ rows. decide stream rule form.columns rows m.table) (sym rows) ∙ m.decides) in
    has_none said.name said.columns column r.place (sym (place_of_table said m.table column m.is) ∙ r.there) none
no_lack text plans w table column (by_list said stream rule form there named first lists none) =
    let m = first_decides text plans w said stream rule form there (named_first w.document stream rule table said form named first) in
    let k = decide_keeps stream rule form.columns form.rows m.table m.decision m.decides in
    let parts = list_kept stream rule lists.0 m.table k.0 (ap (λ columns. kept_by stream rule columns m.table) (sym lists.1) ∙ k.1) in
    let place = each_there (place_in m.table.name m.table.columns) lists.0 k.0 lists.2 column parts.1 lists.3 in
    has_none said.name said.columns column place.gave (sym (place_of_table said m.table column m.is) ∙ place.gives) none

-- ---- no column has an unfit type

apart_columns : (text : List ℕ) (plans : List PlanValue) (w : Whole text plans) (said : TableSaid) → HasTable w.document said → AreDistinct (map (λ (c : FieldValue). c.name) said.columns)
apart_columns text plans w said there = (w.names.columns there.0 said there.1).0

own_fit : (said : TableSaid) (t : TableValue) (v : List ℕ × Vindex) → ResolvedOf said t → said.vindex ≡ Some v → is_vindex_type v.1 (type_in said.columns v.0) ≡ true
own_fit said t v is v_is =
    let from : own_vindex_type said.name said.columns (Some v) ≡ Ok is.own = ap (own_vindex_type said.name said.columns) (sym v_is) ∙ is.vindex_fit in
    then_ok _ (vindex_type said.name said.columns v.0 v.1) is.own from (λ a a_is h. type_kept (is_vindex_type v.1 (type_in said.columns v.0)) said.name v.0 a a_is)

no_unfit : (text : List ℕ) (plans : List PlanValue) (w : Whole text plans) (table column : List ℕ) → HasUnfitColumn w.document table column → ⊥
no_unfit text plans w table column (in_key said there named keyed unfit) =
    let t = resolved_there text plans w said there in
    let none = find_none (λ name. not (is_key_type (type_in said.columns name))) said.key keyed.0 column t.1.key_fit keyed.1 in
    has_unfit is_key_type said.columns column (apart_columns text plans w said there) unfit (not-false (is_key_type (type_in said.columns column)) none)
no_unfit text plans w table column (under_vindex said v there named v_is of_column unfit) =
    let t = resolved_there text plans w said there in
    has_unfit (is_vindex_type v.1) said.columns column (apart_columns text plans w said there) unfit
    (ap (λ name. is_vindex_type v.1 (type_in said.columns name)) (sym of_column) ∙ own_fit said t.0 v t.1 v_is)
no_unfit text plans w table column (under_rule said stream rule form vindex range there named first rows unfit) =
    let m = first_decides text plans w said stream rule form there (named_first w.document stream rule table said form named first) in
    let r = ranges stream rule form.columns column vindex range m.table m.decision (ap (λ rows. decide stream rule form.columns rows m.table) (sym rows) ∙ m.decides) in
    has_unfit (is_vindex_type vindex) said.columns column (apart_columns text plans w said there) unfit (ap (λ columns. is_vindex_type vindex (type_in columns column)) (sym m.is.columns) ∙ r.fit)

-- ---- no rule is bad

no_own : (s n : ℕ) (columns : Option (List (List ℕ))) (t : TableValue) (range : Bounds) (v : Option (ℕ × Vindex)) (d : Decision) → own_decision s n columns t range v ≡ Ok d → v ≡ None → ⊥
no_own s n columns t range None d h none = cc
no_own s n columns t range (Some v) d h none = cc

no_left_out : (said : TableSaid) (t : TableValue) (form : RuleForm) (s n : ℕ) (d : Decision) → ResolvedOf said t → decide s n form.columns form.rows t ≡ Ok d → LeavesOutKey form said → ⊥
no_left_out said t form s n d is decides out =
    let k = decide_keeps s n form.columns form.rows t d decides in
    let parts = list_kept s n out.0 t k.0 (ap (λ columns. kept_by s n columns t) (sym out.1) ∙ k.1) in
    let place = each_there (place_in said.name said.columns) said.key t.key out.2 out.3 is.key out.4 in
    let listed : has_column (name_at t.columns place.gave) out.0 ≡ true = list_all_get (λ p. has_column (name_at t.columns p) out.0) t.key out.2 place.gave parts.0 place.stands in
    let column = column_found said.columns out.3 place.gave (place_found said.name said.columns out.3 place.gave place.gives) in
    let name : name_at t.columns place.gave ≡ out.3 = ap (λ columns. name_at columns place.gave) is.columns ∙ ap (λ o. option_map_or (λ (c : FieldValue). c.name) o []) column.stands ∙ column.named in
    true≢false (sym listed ∙ ap (λ name. has_column name out.0) name ∙ out.5)

no_bad : (text : List ℕ) (plans : List PlanValue) (w : Whole text plans) (stream rule : ℕ) → HasBadRule w.document stream rule → ⊥
no_bad text plans w stream rule (no_form said text_is there stands none) =
    let one = decided_there w.tables 0 w.document.streams w.streams stream said w.streams_are there in
    let zero_at : 0 + stream ≡ stream = omega arith in
    let form = stream_form w.tables stream said one.one rule text_is (ap (λ k. decided_by w.tables k said) (sym zero_at) ∙ one.gives) stands in
    none form.0 form.1
no_bad text plans w stream rule (no_vindex table form range there first rows none) =
    let m = first_decides text plans w table stream rule form there first in
    let from : vindex_place table.name table.columns None ≡ Ok m.table.vindex = ap (vindex_place table.name table.columns) (sym none) ∙ m.is.vindex in
    no_own stream rule form.columns m.table range m.table.vindex m.decision (ap (λ rows. decide stream rule form.columns rows m.table) (sym rows) ∙ m.decides) (sym (same_ok None m.table.vindex from))
no_bad text plans w stream rule (key_left_out table form there first out) =
    let m = first_decides text plans w table stream rule form there first in
    no_left_out table m.table form stream rule m.decision m.is m.decides out

-- ---- no streams keep different columns

keeps_there : (text : List ℕ) (plans : List PlanValue) (w : Whole text plans) (table kept : List ℕ) → KeepsOf w.document table kept
    → (i : ℕ) × (slice_get (map (λ (t : TableSaid). t.name) w.document.tables) i ≡ Some table) × ((one : TableValue) × (slice_get w.tables i ≡ Some one)) × KeptBy i w.streams kept
keeps_there text plans w table kept k =
    let m = first_decides text plans w k.said k.stream k.rule k.form k.there (named_first w.document k.stream k.rule table k.said k.form k.named k.first) in
    let same : m.table ≡ k.resolved_as = same_ok m.table k.resolved_as (sym m.is.gives ∙ k.is) in
    let d = decide_keeps k.stream k.rule k.form.columns k.form.rows m.table m.decision m.decides in
    let kept_is : d.0 ≡ kept = same_ok d.0 kept (sym d.1 ∙ ap (kept_by k.stream k.rule k.form.columns) same ∙ k.keeps) in (
      m.place,
      slice_get-map (λ (t : TableSaid). t.name) w.document.tables m.place ∙ ap (option_map (λ (t : TableSaid). t.name)) m.said_there ∙ ap Some k.named,
      (m.table, m.there),
      record {
        place = k.stream;
        stream = m.stream;
        stands = m.stream_there;
        keeps = ap (option_and_then kept_under_rule) m.decided ∙ d.2 ∙ ap Some kept_is;
      },
    )

no_differ : (text : List ℕ) (plans : List PlanValue) (w : Whole text plans) (table : List ℕ) → KeepDifferent w.document table → ⊥
no_differ text plans w table differ =
    let one = differ.0 in
    let other = differ.1 in
    let a = keeps_there text plans w table one differ.2 in
    let b = keeps_there text plans w table other differ.3 in
    let at : b.0 ≡ a.0 = w.names.tables b.0 a.0 table b.1 a.1 in
    let agrees = agreed_there w.streams 0 w.tables w.closed a.0 a.2.0 w.closed_are a.2.1 in
    let zero_at : 0 + a.0 ≡ a.0 = omega arith in
    let agree = subst (λ i. Agreement w.streams i a.2.0 agrees.0) zero_at agrees.1 in
    let b_keeps = subst (λ i. KeptBy i w.streams other) at b.3 in
    differ.4 (same_kept w.streams a.0 a.2.0 agrees.0 agree a.3.place a.3.stream one a.3.stands a.3.keeps ∙ sym (same_kept w.streams a.0 a.2.0 agrees.0 agree b_keeps.place b_keeps.stream other b_keeps.stands b_keeps.keeps))

-- ---- no fault stands

said_once : (text : List ℕ) (plans : List PlanValue) (w : Whole text plans) (document : DocumentSaid) → document_in text ≡ Ok document → document ≡ w.document
said_once text plans w document says = same_ok document w.document (sym says ∙ w.says)

no_fault : (text : List ℕ) (plans : List PlanValue) → plans_of text ≡ Ok plans → (w : Whole text plans) (fault : Fault) → Stands text fault → ⊥
no_fault text plans is w json none = let both : Err json ≡ Ok plans = sym (refuses_all text none) ∙ is in cc
no_fault text plans is w shape none =
    none.2 w.document (sym (ap (λ r. r >>= document_of) none.1) ∙ w.says)
no_fault text plans is w limit s = no_limit text plans w (subst IsPastLimit (said_once text plans w s.0 s.1) s.2)
no_fault text plans is w (no_such_column table column) s = no_lack text plans w table column (subst (λ d. LacksColumn d table column) (said_once text plans w s.0 s.1) s.2)
no_fault text plans is w (key_type table column) s = no_unfit text plans w table column (subst (λ d. HasUnfitColumn d table column) (said_once text plans w s.0 s.1) s.2)
no_fault text plans is w (bad_rule stream rule) s = no_bad text plans w stream rule (subst (λ d. HasBadRule d stream rule) (said_once text plans w s.0 s.1) s.2)
no_fault text plans is w (columns_differ table) s = no_differ text plans w table (subst (λ d. KeepDifferent d table) (said_once text plans w s.0 s.1) s.2)

pub is_faultless : (text : List ℕ) (r : Result Plans PlanFault) → GivesOrFails values r (plans_of text) → OnOk r (IsFaultless text)
is_faultless text (Ok v) h = no_fault text (values v) h (whole_at text (values v) h)
is_faultless text (Err e) h = tt
