-- What a workflow file is read as, it says.
use Rattle.std.proofs.Common.{◌≡◌, ℕ, suc, ◌+◌, Bool, true, false, cond, List, [], ◌∷◌, map, length, Option, Some, None, Result, Ok, Err, refl, sym, ap, subst, ◌∙◌, codes, inl, inr, arith}
use Rattle.std.specs.Prelude.{◌||◌, ◌^◌, nat_lt, if◌then◌else◌, option_map, MatchOption, slice_get, find, ok_or}
use Rattle.std.specs.Option.{option_and_then}
use Rattle.std.specs.List.{AllByRecursion}
use Rattle.std.specs.Str.{bytes_eq, is_utf8}
use Rattle.serde_json.specs.Data.{Data, Items}
use Rattle.serde_json.specs.Find.{get, as_str, as_array, as_number, as_u64}
use Rattle.serde_json.specs.Read.{read}
use Rattle.list_laws.specs.Outcome.{each}
use Rattle.vindex.specs.Bounds.{Bounds}
use Rattle.vindex.specs.KeyspaceId.{vindex_of_name}
use Rattle.vindex.specs.declared.vindexes.Vindex.{Vindex}
use Rattle.row_view.specs.FieldValue.{FieldValue}
use Rattle.filter_text.specs.FilterText.{RowsSaid, every_row, in_own_range, in_range_of, FilterMeaning, filter_of}
use Rattle.filter_text.specs.RuleScope.{scope_of}
use Rattle.filter_rule.specs.declared.decision.Decision.{Decision}
use Rattle.filter_rule.specs.declared.decision.Decision.TheVariants.{NoRule, EveryRow, InRange}
use Rattle.filter_rule.specs.Faults.{Fault, json, shape, bad_rule}
use Rattle.filter_rule.specs.Document.{RuleSaid, StreamSaid, TableSaid, DocumentSaid, listed, found, member_in, in_utf8, text_of, list_of, text_in, list_in, two_of, pair_of, uses_hash, may_name, vindex_named, is_name, name_of, in_32_bits, type_by, type_said, column_of, vindex_of, vindex_if, vindex_said, filter_if, filter_in, rule_of, stream_of, distinct, list_apart, table_of, document_of, uses_no_other}
use Rattle.filter_rule.specs.TypeNumbers.{type_of_name}
use Rattle.filter_rule.specs.Limits.{is_within, known_vindexes, within_limits}
use Rattle.filter_rule.specs.PlanTable.{TableValue, keeping}
use Rattle.filter_rule.specs.PlanValue.{PlanValue}
use Rattle.filter_rule.specs.FirstRule.{is_match, first_match, Decides, IsByFirst, AreByFirst}
use Rattle.filter_rule.specs.Reading.{rule_over, decide_in_turn, undecided, decisions_of, Decided, decided_by, decided_from, first_kept, agreed, closed_from, plan_over, json_of, plans_of_document, plans_of}
use Rattle.filter_rule.specs.Resolving.{all_places, lists_key, place_in, unfit_key, refuse_type, vindex_place, vindex_type, own_vindex_type, resolved}
use Rattle.filter_rule.specs.Rules.{RuleForm, or_bad, agreeing, form_of, kept_by, own_decision, decide}
use Rattle.filter_rule.specs.WellFormed.{FitsTable, IsPlan}
use Rattle.filter_rule.proofs.StepLaws.{then_ok, read_as, same_ok, some_from_ok}
use Rattle.filter_rule.proofs.TableLaws.{HasNames, document_names, limits_kept, place_found}
use Rattle.filter_rule.proofs.FirstRuleLaws.{found_ok, decisions_by_first}
use Rattle.filter_rule.proofs.FollowLaws.{by_first_closed}
use Rattle.filter_rule.proofs.PlanLaws.{over_plans}
use Rattle.run_says.specs.Wire.{EachIs}
use Rattle.run_says.proofs.RuleLaws.{filter_as, filter_says}
use Rattle.run_says.specs.Rules.{Filter}
use Rattle.run_says.specs.Workflow as said
use Rattle.run_says.specs.Workflow.{HasText, HasEach, IsPair, SaysType, SaysColumn, place_of, SaysPlace, SaysVindex, SaysTable, Rule, SaysMember, SaysRule, matches, AreKept, SaysStream, SaysPlans}

-- ---- lists, each to the one in its place

each_step : {A B : Type 0} (f : A → Result B Fault) (xs : List A) (ys : List B) → each f xs ≡ Ok ys → EachIs (λ x y. f x ≡ Ok y) xs ys
each_step f [] ys h = subst (EachIs (λ x y. f x ≡ Ok y) []) (same_ok [] ys h) tt
each_step f (x ∷ xs) ys h =
    then_ok _ (f x) ys h (λ y y_is h2. then_ok _ (each f xs) ys h2 (λ rest rest_is h3.
    subst (EachIs (λ x y. f x ≡ Ok y) (x ∷ xs)) (same_ok (y ∷ rest) ys h3) (y_is, each_step f xs rest rest_is)))

each_weaker : {A B : Type 0} (R S : A → B → Type 0) → ((x : A) (y : B) → R x y → S x y) → (xs : List A) (ys : List B) → EachIs R xs ys → EachIs S xs ys
each_weaker R S f [] [] h = tt
each_weaker R S f [] (y ∷ ys) h = absurd h
each_weaker R S f (x ∷ xs) [] h = absurd h
each_weaker R S f (x ∷ xs) (y ∷ ys) (one, others) = (f x y one, each_weaker R S f xs ys others)

each_through : {A B C : Type 0} (R : A → B → Type 0) (S : B → C → Type 0) (T : A → C → Type 0) → ((x : A) (y : B) (z : C) → R x y → S y z → T x z) → (xs : List A) (ys : List B) (zs : List C) → EachIs R xs ys → EachIs S ys zs → EachIs T xs zs
each_through R S T f [] [] [] h k = tt
each_through R S T f [] [] (z ∷ zs) h k = absurd k
each_through R S T f [] (y ∷ ys) zs h k = absurd h
each_through R S T f (x ∷ xs) [] zs h k = absurd h
each_through R S T f (x ∷ xs) (y ∷ ys) [] h k = absurd k
each_through R S T f (x ∷ xs) (y ∷ ys) (z ∷ zs) (one, others) (two, more) = (f x y z one two, each_through R S T f xs ys zs others more)

pub each_mapped : {A B C : Type 0} (R : A → C → Type 0) (g : B → C) (xs : List A) (ys : List B) → EachIs (λ x y. R x (g y)) xs ys → EachIs R xs (map g ys)
each_mapped R g [] [] h = tt
each_mapped R g [] (y ∷ ys) h = absurd h
each_mapped R g (x ∷ xs) [] h = absurd h
each_mapped R g (x ∷ xs) (y ∷ ys) (one, others) = (one, each_mapped R g xs ys others)

each_also : {A B : Type 0} (R : A → B → Type 0) (P : B → Type 0) (xs : List A) (ys : List B) → EachIs R xs ys → AllByRecursion P ys → EachIs (λ x y. R x y × P y) xs ys
each_also R P [] [] h k = tt
each_also R P [] (y ∷ ys) h k = absurd h
each_also R P (x ∷ xs) [] h k = absurd h
each_also R P (x ∷ xs) (y ∷ ys) (one, others) (p, more) = ((one, p), each_also R P xs ys others more)

all_from_gets : {B : Type 0} (P : B → Type 0) (ys : List B) → ((i : ℕ) (y : B) → slice_get ys i ≡ Some y → P y) → AllByRecursion P ys
all_from_gets P [] h = tt
all_from_gets P (y ∷ ys) h = (h 0 y refl, all_from_gets P ys (λ i z is. h (suc i) z is))

pub each_from_gets : {A B : Type 0} (R : A → B → Type 0) (xs : List A) (ys : List B) → length ys ≡ length xs → ((i : ℕ) (x : A) (y : B) → slice_get xs i ≡ Some x → slice_get ys i ≡ Some y → R x y) → EachIs R xs ys
each_from_gets R [] [] e h = tt
each_from_gets R [] (y ∷ ys) e h = absurd (omega arith)
each_from_gets R (x ∷ xs) [] e h = absurd (omega arith)
each_from_gets R (x ∷ xs) (y ∷ ys) e h = (h 0 x y refl refl, each_from_gets R xs ys (omega arith) (λ i a b a_is b_is. h (suc i) a b a_is b_is))

-- ---- members

utf8_text : (o : Option (List ℕ)) (s : List ℕ) → option_and_then in_utf8 o ≡ Some s → o ≡ Some s
utf8_text None s e = absurd cc
utf8_text (Some t) s e = of_test (is_utf8 t) e
  where
    of_test : (b : Bool) → cond b (Some t) None ≡ Some s → Some t ≡ Some s
    of_test true h = h
    of_test false h = absurd cc

text_is : (d : Data) (s : List ℕ) → text_of d ≡ Ok s → as_str d ≡ Some s
text_is d s h = utf8_text (as_str d) s (some_from_ok (option_and_then in_utf8 (as_str d)) shape s h)

text_in_is : (key : List ℕ) (d : Data) (s : List ℕ) → text_in key d ≡ Ok s → HasText key d s
unfolding text_in
text_in_is key d s h =
    then_ok _ (member_in key d) s h (λ v v_is h2. ap (option_and_then as_str) (some_from_ok (get key d) shape v v_is) ∙ text_is v s h2)

name_if : (s t : List ℕ) (b : Bool) → cond b (read_as s) (Err shape) ≡ Ok t → s ≡ t
name_if s t true h = same_ok s t h
name_if s t false h = absurd cc

name_is : (d : Data) (s : List ℕ) → name_of d ≡ Ok s → as_str d ≡ Some s
unfolding name_of
name_is d s h = then_ok _ (text_of d) s h (λ t t_is h2. text_is d t t_is ∙ ap Some (name_if t s (is_name t) h2))

mapped_some : {A B : Type 0} (f : A → B) (o : Option A) (y : B) → option_map f o ≡ Some y → (x : A) × (o ≡ Some x) × (f x ≡ y)
mapped_some f None y h = absurd cc
mapped_some f (Some x) y h = let same : f x ≡ y = cc in (x, refl, same)

list_is : (d : Data) (values : List Data) → list_of d ≡ Ok values → (items : Items) × (as_array d ≡ Some items) × (listed items ≡ values)
list_is d values h = mapped_some listed (as_array d) values (some_from_ok (option_map listed (as_array d)) shape values h)

list_in_is : (key : List ℕ) (d : Data) (values : List Data) → list_in key d ≡ Ok values → (items : Items) × (option_and_then as_array (get key d) ≡ Some items) × (listed items ≡ values)
unfolding list_in
list_in_is key d values h =
    then_ok _ (member_in key d) values h (λ v v_is h2.
    let list = list_is v values h2 in
    (list.0, ap (option_and_then as_array) (some_from_ok (get key d) shape v v_is) ∙ list.1, list.2))

has_each : {A : Type 0} (R : Data → A → Type 0) (key : List ℕ) (d : Data) (values : List Data) (items : List A) → list_in key d ≡ Ok values → EachIs R values items → HasEach key d R items
has_each R key d values items h k =
    let list = list_in_is key d values h in
    (list.0, list.1, subst (λ (vs : List Data). EachIs R vs items) (sym list.2) k)

list_apart_is : {A : Type 0} (name : A → List ℕ) (reads : Data → Result A Fault) (key : List ℕ) (d : Data) (items : List A) → list_apart name reads key d ≡ Ok items → HasEach key d (λ v x. reads v ≡ Ok x) items
unfolding list_apart
list_apart_is name reads key d items h =
    then_ok _ (list_in key d) items h (λ values values_is h2. then_ok _ (each reads values) items h2 (λ read read_is h3. then_ok _ (distinct (map name read)) items h3 (λ names names_is h4.
    has_each (λ v x. reads v ≡ Ok x) key d values items values_is (each_step reads values items (read_is ∙ ap read_as (same_ok read items h4))))))

two_is : (values : List Data) (p : Data × Data) → two_of values ≡ Ok p → values ≡ p.0 ∷ p.1 ∷ []
two_is [] p h = absurd cc
two_is (a ∷ []) p h = absurd cc
two_is (a ∷ b ∷ []) p h = ap (λ (q : Data × Data). q.0 ∷ q.1 ∷ []) (same_ok (a, b) p h)
two_is (a ∷ b ∷ c ∷ more) p h = absurd cc

pair_is : (d : Data) (p : Data × Data) → pair_of d ≡ Ok p → IsPair d p.0 p.1
unfolding pair_of
pair_is d p h =
    then_ok _ (list_of d) p h (λ values values_is h2.
    let list = list_is d values values_is in
    (list.0, list.1, list.2 ∙ two_is values p h2))

-- ---- tables

small_is : (o : Option ℕ) (n : ℕ) → option_and_then in_32_bits o ≡ Some n → o ≡ Some n
small_is None n h = absurd cc
small_is (Some m) n h = of_test (nat_lt m (2 ^ 32)) h
  where
    of_test : (b : Bool) → cond b (Some m) None ≡ Some n → Some m ≡ Some n
    of_test true e = e
    of_test false e = absurd cc

type_by_is : (o : Option (List ℕ)) (d : Data) (n : ℕ) → as_str d ≡ o → type_by o d ≡ Ok n → SaysType d n
type_by_is (Some name) d n is h = inl (ap (option_and_then type_of_name) is ∙ some_from_ok (type_of_name name) shape n h)
type_by_is None d n is h = inr (small_is (option_and_then as_u64 (as_number d)) n (some_from_ok (option_and_then in_32_bits (option_and_then as_u64 (as_number d))) shape n h))

type_is : (d : Data) (n : ℕ) → type_said d ≡ Ok n → SaysType d n
unfolding type_said
type_is d n h = type_by_is (as_str d) d n refl h

column_is : (d : Data) (column : FieldValue) → column_of d ≡ Ok column → SaysColumn d column
unfolding column_of
column_is d column h =
    then_ok _ (pair_of d) column h (λ p p_is h2. then_ok _ (name_of p.0) column h2 (λ name name_said h3. then_ok _ (type_said p.1) column h3 (λ number number_is h4.
    subst (SaysColumn d) (same_ok (record { name = name; type_number = number }) column h4) (p.0, p.1, pair_is d p p_is, name_is p.0 name name_said, type_is p.1 number number_is))))

place_is : (table : List ℕ) (columns : List FieldValue) (name : List ℕ) (place : ℕ) → place_in table columns name ≡ Ok place → place_of columns name ≡ Some place
place_is table columns name place h = place_found table columns name place h

key_is : (table : List ℕ) (columns : List FieldValue) (d : Data) (name : List ℕ) (place : ℕ) → name_of d ≡ Ok name → place_in table columns name ≡ Ok place → SaysPlace columns d place
key_is table columns d name place h k = ap (option_and_then (place_of columns)) (name_is d name h) ∙ place_is table columns name place k

named_vindex : (hash : Bool) (o : Option Vindex) (v : Vindex) → option_and_then (λ vindex. if may_name hash vindex then Some vindex else None) o ≡ Some v → o ≡ Some v
named_vindex hash None v h = absurd cc
named_vindex hash (Some w) v h = of_test (may_name hash w) h
  where
    of_test : (b : Bool) → cond b (Some w) None ≡ Some v → Some w ≡ Some v
    of_test true e = e
    of_test false e = absurd cc

vindex_says : (hash : Bool) (table : List ℕ) (columns : List FieldValue) (d : Data) (v : List ℕ × Vindex) (out : Option (ℕ × Vindex)) → vindex_of hash d ≡ Ok v → vindex_place table columns (Some v) ≡ Ok out → SaysVindex columns (Some d) out
unfolding vindex_of
vindex_says hash table columns d v out h k =
    then_ok _ (pair_of d) v h (λ p p_is h2. then_ok _ (name_of p.0) v h2 (λ column column_said h3. then_ok _ (text_of p.1) v h3 (λ name name_said h4. then_ok _ (found (vindex_named hash name)) v h4 (λ vindex vindex_is h5.
    then_ok _ (place_in table columns v.0) out k (λ place place_said k2.
    let same : (column, vindex) ≡ v = same_ok (column, vindex) v h5 in
    let own : column ≡ v.0 = ap (λ (q : List ℕ × Vindex). q.0) same in
    let by : vindex ≡ v.1 = ap (λ (q : List ℕ × Vindex). q.1) same in (
      p.0,
      p.1,
      place,
      v.1,
      pair_is d p p_is,
      key_is table columns p.0 v.0 place (column_said ∙ ap read_as own) place_said,
      ap (option_and_then vindex_of_name) (text_is p.1 name name_said) ∙ named_vindex hash (vindex_of_name name) vindex (some_from_ok (vindex_named hash name) shape vindex vindex_is) ∙ ap Some by,
      sym (same_ok (Some (place, v.1)) out k2),
    ))))))

vindex_by : (hash : Bool) (table : List ℕ) (columns : List FieldValue) (o : Option Data) (v : Option (List ℕ × Vindex)) (out : Option (ℕ × Vindex)) → vindex_if hash o ≡ Ok v → vindex_place table columns v ≡ Ok out → SaysVindex columns o out
vindex_by hash table columns None v out h k =
    let none : None ≡ v = same_ok None v h in
    sym (same_ok None out (subst (λ (w : Option (List ℕ × Vindex)). vindex_place table columns w ≡ Ok out) (sym none) k))
vindex_by hash table columns (Some d) v out h k =
    then_ok _ (vindex_of hash d) v h (λ w w_is h2.
    vindex_says hash table columns d w out w_is (subst (λ (x : Option (List ℕ × Vindex)). vindex_place table columns x ≡ Ok out) (sym (same_ok (Some w) v h2)) k))

table_says : (hash : Bool) (d : Data) (said : TableSaid) (table : TableValue) (kept : List ℕ) → table_of hash d ≡ Ok said → resolved said ≡ Ok table → SaysTable d (keeping table kept)
unfolding table_of resolved vindex_said
table_says hash d said table kept h k =
    then_ok _ (member_in (codes "name") d) said h (λ n n_is h2. then_ok _ (name_of n) said h2 (λ name name_said h3. then_ok _ (vindex_if hash (get (codes "vindex") d)) said h3 (λ v v_is h4.
    then_ok _ (list_apart (λ (c : FieldValue). c.name) column_of (codes "columns") d) said h4 (λ columns columns_are h5. then_ok _ (list_apart (λ (n : List ℕ). n) name_of (codes "key") d) said h5 (λ names names_are h6.
    then_ok _ (each (place_in said.name said.columns) said.key) table k (λ key key_are k2. then_ok _ (vindex_place said.name said.columns said.vindex) table k2 (λ vindex vindex_is k3. then_ok _ (refuse_type said.name (unfit_key said.columns said.key)) table k3 (λ a a_is k4.
    then_ok _ (own_vindex_type said.name said.columns said.vindex) table k4 (λ b b_is k5.
    let is : record { name = name; columns = columns; key = names; vindex = v } ≡ said = same_ok (record { name = name; columns = columns; key = names; vindex = v }) said h6 in
    let made : record { name = said.name; columns = said.columns; key = key; vindex = vindex; kept = all_places said.columns } ≡ table = same_ok (record { name = said.name; columns = said.columns; key = key; vindex = vindex; kept = all_places said.columns }) table k5 in
    subst (λ (t : TableValue). SaysTable d (keeping t kept)) made (record {
      name = subst (λ (t : TableSaid). HasText (codes "name") d t.name) is (ap (option_and_then as_str) (some_from_ok (get (codes "name") d) shape n n_is) ∙ name_is n name name_said);
      columns = subst (λ (t : TableSaid). HasEach (codes "columns") d SaysColumn t.columns) is (has_columns d columns (list_apart_is (λ (c : FieldValue). c.name) column_of (codes "columns") d columns columns_are));
      key = has_key said.name said.columns d said.key key (subst (λ (t : TableSaid). HasEach (codes "key") d (λ v x. name_of v ≡ Ok x) t.key) is (list_apart_is (λ (n : List ℕ). n) name_of (codes "key") d names names_are)) (each_step (place_in said.name said.columns) said.key key key_are);
      vindex = vindex_by hash said.name said.columns (get (codes "vindex") d) said.vindex vindex (v_is ∙ ap (λ (t : TableSaid). read_as t.vindex) is) vindex_is;
    }))))))))))
  where
    has_columns : (d : Data) (columns : List FieldValue) → HasEach (codes "columns") d (λ v x. column_of v ≡ Ok x) columns → HasEach (codes "columns") d SaysColumn columns
    has_columns d columns (items, are, read) = (items, are, each_weaker (λ v x. column_of v ≡ Ok x) SaysColumn column_is (listed items) columns read)

    has_key : (table : List ℕ) (columns : List FieldValue) (d : Data) (names : List (List ℕ)) (places : List ℕ) → HasEach (codes "key") d (λ v x. name_of v ≡ Ok x) names → EachIs (λ name place. place_in table columns name ≡ Ok place) names places → HasEach (codes "key") d (SaysPlace columns) places
    has_key table columns d names places (items, are, read) found = (items, are, each_through (λ v x. name_of v ≡ Ok x) (λ name place. place_in table columns name ≡ Ok place) (SaysPlace columns) (key_is table columns) (listed items) names places read found)

-- ---- rules

-- a rule as it is formed: its match, and what its filter says
record IsFormed (r : RuleSaid) (rule : Rule) : Type 0 where
  same : rule.matches ≡ r.matches
  meaning : FilterMeaning
  filter : filter_of r.filter ≡ Some meaning
  is : rule.said ≡ filter_as meaning

-- what a form says
record FormSays (r : RuleSaid) (form : RuleForm) : Type 0 where
  said : FilterMeaning
  filter : filter_of r.filter ≡ Some said
  columns : form.columns ≡ said.columns
  rows : form.rows ≡ said.rows

form_says : (stream n : ℕ) (r : RuleSaid) (form : RuleForm) → form_of stream n r ≡ Ok form → FormSays r form
unfolding form_of
form_says stream n r form h =
    then_ok _ (or_bad stream n (scope_of r.matches)) form h (λ scope scope_is h2. then_ok _ (or_bad stream n (filter_of r.filter)) form h2 (λ filter filter_is h3. then_ok _ (agreeing stream n r.uses_hash scope filter) form h3 (λ a a_is h4.
    subst (FormSays r) (same_ok (record { scope = scope; columns = filter.columns; rows = filter.rows }) form h4) (record {
      said = filter;
      filter = found_ok stream n (filter_of r.filter) filter filter_is;
      columns = refl;
      rows = refl;
    }))))

rules_formed : (stream : ℕ) (tables : List TableValue) (n : ℕ) (rs : List RuleSaid) (old new : List Decision) → decide_in_turn stream tables n rs old ≡ Ok new → (rules : List Rule) × EachIs IsFormed rs rules
unfolding decide_in_turn
rules_formed stream tables n [] old new h = ([], tt)
rules_formed stream tables n (r ∷ rs) old new h =
    then_ok _ (rule_over stream n tables r old) new h (λ mid mid_is h2. then_ok _ (form_of stream n r) mid mid_is (λ form form_is k.
    let one = form_says stream n r form form_is in
    let others = rules_formed stream tables (n + 1) rs mid new h2 in
    (record { matches = r.matches; said = filter_as one.said } ∷ others.0, (record { same = refl; meaning = one.said; filter = one.filter; is = refl }, others.1))))

member_says : (o : Option Data) (text : List ℕ) (said : FilterMeaning) → filter_if o ≡ Ok text → filter_of text ≡ Some said → SaysMember o (filter_as said)
member_says None text said h k = filter_says [] said (ap filter_of (same_ok [] text h) ∙ k)
member_says (Some d) text said h k = (text, text_is d text h, filter_says text said k)

rule_says : (hash : Bool) (d : Data) (r : RuleSaid) (rule : Rule) → rule_of hash d ≡ Ok r → IsFormed r rule → SaysRule d rule
unfolding rule_of filter_in
rule_says hash d r rule h formed =
    then_ok _ (text_in (codes "match") d) r h (λ text text_said h2. then_ok _ (filter_if (get (codes "filter") d)) r h2 (λ filter filter_said h3.
    let is : record { matches = text; filter = filter; uses_hash = hash } ≡ r = same_ok (record { matches = text; filter = filter; uses_hash = hash }) r h3 in (
      subst (HasText (codes "match") d) (ap (λ (x : RuleSaid). x.matches) is ∙ sym formed.same) (text_in_is (codes "match") d text text_said),
      subst (SaysMember (get (codes "filter") d)) (sym formed.is) (member_says (get (codes "filter") d) r.filter formed.meaning (filter_said ∙ ap (λ (x : RuleSaid). read_as x.filter) is) formed.filter),
    )))

-- ---- decisions

kept_if : (stream n : ℕ) (t : TableValue) (names : List (List ℕ)) (b : Bool) (kept : List ℕ) → cond b (each (place_in t.name t.columns) names) (Err (bad_rule stream n)) ≡ Ok kept → EachIs (λ name place. place_of t.columns name ≡ Some place) names kept
kept_if stream n t names true kept h = each_weaker (λ name place. place_in t.name t.columns name ≡ Ok place) (λ name place. place_of t.columns name ≡ Some place) (place_is t.name t.columns) names kept (each_step (place_in t.name t.columns) names kept h)
kept_if stream n t names false kept h = absurd cc

are_kept : (stream n : ℕ) (t : TableValue) (columns : Option (List (List ℕ))) (kept : List ℕ) → kept_by stream n columns t ≡ Ok kept → AreKept t.columns columns kept
are_kept stream n t None kept h = sym (same_ok (all_places t.columns) kept h)
are_kept stream n t (Some names) kept h = kept_if stream n t names (lists_key names t.columns t.key) kept h

abbrev IsDecided : TableValue → Option (List (List ℕ)) → RowsSaid → Decision → Type 0
IsDecided t columns rows d = AreKept t.columns columns t.kept × said.Decides t rows d

every_is : (t : TableValue) (columns : Option (List (List ℕ))) (kept : List ℕ) (d : Decision) → AreKept t.columns columns kept → EveryRow kept ≡ d → FitsTable t d → IsDecided t columns every_row d
every_is t columns kept d are is fits =
    let same : kept ≡ t.kept = subst (FitsTable t) (sym is) fits in
    (subst (AreKept t.columns columns) same are, sym is ∙ ap EveryRow same)

own_is : (stream n : ℕ) (t : TableValue) (columns : Option (List (List ℕ))) (range : Bounds) (v : Option (ℕ × Vindex)) (d : Decision) → t.vindex ≡ v → own_decision stream n columns t range v ≡ Ok d → FitsTable t d → IsDecided t columns (in_own_range range) d
own_is stream n t columns range None d own h fits = absurd cc
own_is stream n t columns range (Some v) d own h fits =
    then_ok _ (kept_by stream n columns t) d h (λ kept kept_is h2.
    let is : InRange v.0 v.1 range kept ≡ d = same_ok (InRange v.0 v.1 range kept) d h2 in
    let same : kept ≡ t.kept = (subst (FitsTable t) (sym is) fits).1 in
    (subst (AreKept t.columns columns) same (are_kept stream n t columns kept kept_is), (v.0, v.1, own, sym is ∙ ap (InRange v.0 v.1 range) same)))

decide_is : (stream n : ℕ) (t : TableValue) (columns : Option (List (List ℕ))) (rows : RowsSaid) (d : Decision) → decide stream n columns rows t ≡ Ok d → FitsTable t d → IsDecided t columns rows d
decide_is stream n t columns every_row d h fits =
    then_ok _ (kept_by stream n columns t) d h (λ kept kept_is h2. every_is t columns kept d (are_kept stream n t columns kept kept_is) (same_ok (EveryRow kept) d h2) fits)
decide_is stream n t columns (in_own_range range) d h fits = own_is stream n t columns range t.vindex d refl h fits
decide_is stream n t columns (in_range_of column vindex range) d h fits =
    then_ok _ (kept_by stream n columns t) d h (λ kept kept_is h2. then_ok _ (place_in t.name t.columns column) d h2 (λ place place_said h3. then_ok _ (vindex_type t.name t.columns column vindex) d h3 (λ a a_is h4.
    let is : InRange place vindex range kept ≡ d = same_ok (InRange place vindex range kept) d h4 in
    let same : kept ≡ t.kept = (subst (FitsTable t) (sym is) fits).1 in
    (subst (AreKept t.columns columns) same (are_kept stream n t columns kept kept_is), (place, place_is t.name t.columns column place place_said, sym is ∙ ap (InRange place vindex range) same)))))

same_said : (a b : FilterMeaning) (r : RuleSaid) → filter_of r.filter ≡ Some a → filter_of r.filter ≡ Some b → a ≡ b
same_said a b r h k = let both : Some a ≡ Some b = sym h ∙ k in cc

rule_decides : (stream n : ℕ) (r : RuleSaid) (rule : Rule) (t : TableValue) (d : Decision) → IsFormed r rule → Decides stream n r t d → FitsTable t d → IsDecided t rule.said.columns rule.said.rows d
rule_decides stream n r rule t d formed decides fits =
    let form = form_says stream n r decides.form decides.formed in
    let same : filter_as form.said ≡ rule.said = ap filter_as (same_said form.said formed.meaning r form.filter formed.filter) ∙ sym formed.is in
    let columns : decides.form.columns ≡ rule.said.columns = form.columns ∙ ap (λ (x : Filter). x.columns) same in
    let rows : decides.form.rows ≡ rule.said.rows = form.rows ∙ ap (λ (x : Filter). x.rows) same in
    decide_is stream n t rule.said.columns rule.said.rows d (ap (λ c. decide stream n c rule.said.rows t) (sym columns) ∙ ap (λ w. decide stream n decides.form.columns w t) (sym rows) ∙ decides.decided) fits

first_step : (stream n : ℕ) (r : RuleSaid) (rule : Rule) (rs : List RuleSaid) (rules : List Rule) (t : TableValue) (d : Decision) (b : Bool) → IsFormed r rule → FitsTable t d
    → (MatchOption (first_match (n + 1) rs t.name) (d ≡ NoRule) (λ p. Decides stream p.0 p.1 t d) → said.IsByFirst rules t d)
    → MatchOption (cond b (Some (n, r)) (first_match (n + 1) rs t.name)) (d ≡ NoRule) (λ p. Decides stream p.0 p.1 t d)
    → MatchOption (cond b (Some rule) (find (matches t.name) rules)) (d ≡ NoRule) (λ one. IsDecided t one.said.columns one.said.rows d)
first_step stream n r rule rs rules t d true formed fits others h = rule_decides stream n r rule t d formed h fits
first_step stream n r rule rs rules t d false formed fits others h = others h

first_says : (stream n : ℕ) (rs : List RuleSaid) (rules : List Rule) (t : TableValue) (d : Decision) → EachIs IsFormed rs rules → FitsTable t d → IsByFirst stream n rs t d → said.IsByFirst rules t d
first_says stream n [] [] t d formed fits h = h
first_says stream n [] (rule ∷ rules) t d formed fits h = absurd formed
first_says stream n (r ∷ rs) [] t d formed fits h = absurd formed
first_says stream n (r ∷ rs) (rule ∷ rules) t d (one, others) fits h =
    let same : is_match r t.name ≡ matches t.name rule = ap (λ (m : List ℕ). bytes_eq m (codes "/.*") || bytes_eq t.name m) (sym one.same) in
    subst (λ (b : Bool). MatchOption (cond b (Some rule) (find (matches t.name) rules)) (d ≡ NoRule) (λ x. IsDecided t x.said.columns x.said.rows d)) same
    (first_step stream n r rule rs rules t d (is_match r t.name) one fits (first_says stream (n + 1) rs rules t d others fits) h)

-- ---- streams

-- a stream that is decided, and its plan is one
record IsStream (keyspace : List ℕ) (tables closed : List TableValue) (s : StreamSaid) (one : Decided) : Type 0 where
  number : ℕ
  decided : decisions_of number tables s.rules ≡ Ok one.decisions
  shard : one.shard ≡ s.shard

decided_is : (keyspace : List ℕ) (tables closed : List TableValue) (n : ℕ) (s : StreamSaid) (one : Decided) → decided_by tables n s ≡ Ok one → IsStream keyspace tables closed s one
unfolding decided_by
decided_is keyspace tables closed n s one h =
    then_ok _ (decisions_of n tables s.rules) one h (λ ds ds_are h2.
    subst (IsStream keyspace tables closed s) (same_ok (record { shard = s.shard; decisions = ds }) one h2) (record { number = n; decided = ds_are; shard = refl }))

decided_are : (keyspace : List ℕ) (tables closed : List TableValue) (n : ℕ) (ss : List StreamSaid) (all : List Decided) → decided_from tables n ss ≡ Ok all → EachIs (IsStream keyspace tables closed) ss all
unfolding decided_from
decided_are keyspace tables closed n [] all h = subst (EachIs (IsStream keyspace tables closed) []) (same_ok [] all h) tt
decided_are keyspace tables closed n (s ∷ ss) all h =
    then_ok _ (decided_by tables n s) all h (λ one one_is h2. then_ok _ (decided_from tables (n + 1) ss) all h2 (λ others others_are h3.
    subst (EachIs (IsStream keyspace tables closed) (s ∷ ss)) (same_ok (one ∷ others) all h3) (decided_is keyspace tables closed n s one one_is, decided_are keyspace tables closed (n + 1) ss others others_are)))

stream_says : (hash : Bool) (keyspace : List ℕ) (streams : List Decided) (tables closed : List TableValue) (d : Data) (s : StreamSaid) (one : Decided) → closed_from streams 0 tables ≡ Ok closed → stream_of hash d ≡ Ok s → IsStream keyspace tables closed s one → IsPlan (plan_over keyspace closed one)
    → SaysStream keyspace closed d (plan_over keyspace closed one)
unfolding stream_of
stream_says hash keyspace streams tables closed d s one closing h is plan =
    then_ok _ (text_in (codes "shard") d) s h (λ shard shard_said h2. then_ok _ (member_in (codes "filter") d) s h2 (λ filter filter_said h3. then_ok _ (list_in (codes "rules") filter) s h3 (λ values values_said h4.
    then_ok _ (each (rule_of hash) values) s h4 (λ rs rs_are h5.
    let made : record { shard = shard; rules = rs } ≡ s = same_ok (record { shard = shard; rules = rs }) s h5 in
    let read : each (rule_of hash) values ≡ Ok s.rules = rs_are ∙ ap (λ (x : StreamSaid). read_as x.rules) made in
    let formed = rules_formed is.number tables 0 s.rules (undecided tables) one.decisions is.decided in
    let first : AreByFirst is.number closed s.rules one.decisions = by_first_closed is.number s.rules streams tables closed one.decisions closing (decisions_by_first is.number tables s.rules one.decisions is.decided) in
    record {
      keyspace_is = refl;
      tables_are = refl;
      shard = subst (HasText (codes "shard") d) (ap (λ (x : StreamSaid). x.shard) made ∙ sym is.shard) (text_in_is (codes "shard") d shard shard_said);
      filter = filter;
      there = some_from_ok (get (codes "filter") d) shape filter filter_said;
      rules = formed.0;
      rules_said = has_each SaysRule (codes "rules") filter values formed.0 values_said (each_through (λ v r. rule_of hash v ≡ Ok r) IsFormed SaysRule (rule_says hash) values s.rules formed.0 (each_step (rule_of hash) values s.rules read) formed.1);
      decided = each_from_gets (said.IsByFirst formed.0) closed one.decisions plan.decided (λ i t decision t_is d_is. first_says is.number 0 s.rules formed.0 t decision formed.1 (plan.filters i decision t d_is t_is) (first i t decision t_is d_is));
    }))))

-- ---- the file

json_if : (b : Bool) (o : Option Data) (value : Data) → cond b (ok_or o json) (Err json) ≡ Ok value → o ≡ Some value
json_if true o value h = some_from_ok o json value h
json_if false o value h = absurd cc

json_is : (text : List ℕ) (value : Data) → json_of text ≡ Ok value → read text ≡ Some value
unfolding json_of
json_is text value h = json_if (is_utf8 text) (read text) value h

-- the parts of a document
record DocumentSays (d : Data) (document : DocumentSaid) : Type 0 where
  keyspace : HasText (codes "keyspace") d document.keyspace
  tables : HasEach (codes "tables") d (λ v t. table_of (uses_hash d) v ≡ Ok t) document.tables
  streams : HasEach (codes "streams") d (λ v s. stream_of (uses_hash d) v ≡ Ok s) document.streams

document_says : (d : Data) (document : DocumentSaid) → document_of d ≡ Ok document → DocumentSays d document
unfolding document_of
document_says d document h =
    then_ok _ (text_in (codes "keyspace") d) document h (λ keyspace keyspace_said h2. then_ok _ (list_apart (λ (t : TableSaid). t.name) (table_of (uses_hash d)) (codes "tables") d) document h2 (λ tables tables_are h3.
    then_ok _ (list_apart (λ (s : StreamSaid). s.shard) (stream_of (uses_hash d)) (codes "streams") d) document h3 (λ streams streams_are h4.
    subst (DocumentSays d) (same_ok (record { keyspace = keyspace; tables = tables; streams = streams; uses_no_other = uses_no_other d }) document h4) (record {
      keyspace = text_in_is (codes "keyspace") d keyspace keyspace_said;
      tables = list_apart_is (λ (t : TableSaid). t.name) (table_of (uses_hash d)) (codes "tables") d tables tables_are;
      streams = list_apart_is (λ (s : StreamSaid). s.shard) (stream_of (uses_hash d)) (codes "streams") d streams streams_are;
    }))))

-- a table, but for what is kept of it
abbrev IsKeeping : TableValue → TableValue → Type 0
IsKeeping table closed = (kept : List ℕ) × (keeping table kept ≡ closed)

closed_keep : (streams : List Decided) (n : ℕ) (tables closed : List TableValue) → closed_from streams n tables ≡ Ok closed → EachIs IsKeeping tables closed
unfolding closed_from
closed_keep streams n [] closed h = subst (EachIs IsKeeping []) (same_ok [] closed h) tt
closed_keep streams n (table ∷ tables) closed h =
    then_ok _ (agreed streams n table (first_kept n streams)) closed h (λ kept kept_is h2. then_ok _ (closed_from streams (n + 1) tables) closed h2 (λ others others_are h3.
    subst (EachIs IsKeeping (table ∷ tables)) (same_ok (keeping table kept ∷ others) closed h3) ((kept, refl), closed_keep streams (n + 1) tables others others_are)))

tables_say : (hash : Bool) (streams : List Decided) (d : Data) (said : List TableSaid) (tables closed : List TableValue) → HasEach (codes "tables") d (λ v t. table_of hash v ≡ Ok t) said → each resolved said ≡ Ok tables → closed_from streams 0 tables ≡ Ok closed
    → HasEach (codes "tables") d SaysTable closed
tables_say hash streams d said tables closed (items, are, read) resolving closing =
    let whole = each_through (λ (s : TableSaid) (t : TableValue). resolved s ≡ Ok t) IsKeeping (λ s c. (t : TableValue) × (resolved s ≡ Ok t) × IsKeeping t c) (λ s t c s_is t_is. (t, s_is, t_is)) said tables closed (each_step resolved said tables resolving) (closed_keep streams 0 tables closed closing) in (
      items,
      are,
      each_through (λ v t. table_of hash v ≡ Ok t) (λ s c. (t : TableValue) × (resolved s ≡ Ok t) × IsKeeping t c) SaysTable
          (λ v s c v_is s_is. subst (SaysTable v) s_is.2.1 (table_says hash v s s_is.0 s_is.2.0 v_is s_is.1)) (listed items) said closed read whole,
    )

streams_say : (hash : Bool) (keyspace : List ℕ) (decided : List Decided) (tables closed : List TableValue) (d : Data) (ss : List StreamSaid) → HasEach (codes "streams") d (λ v s. stream_of hash v ≡ Ok s) ss → decided_from tables 0 ss ≡ Ok decided → closed_from decided 0 tables ≡ Ok closed
    → AllByRecursion (λ one. IsPlan (plan_over keyspace closed one)) decided → HasEach (codes "streams") d (SaysStream keyspace closed) (map (plan_over keyspace closed) decided)
streams_say hash keyspace decided tables closed d ss (items, are, read) deciding closing plans =
    let both = each_also (IsStream keyspace tables closed) (λ one. IsPlan (plan_over keyspace closed one)) ss decided (decided_are keyspace tables closed 0 ss decided deciding) plans in (
      items,
      are,
      each_mapped (SaysStream keyspace closed) (plan_over keyspace closed) (listed items) decided
          (each_through (λ v s. stream_of hash v ≡ Ok s) (λ s one. IsStream keyspace tables closed s one × IsPlan (plan_over keyspace closed one)) (λ v one. SaysStream keyspace closed v (plan_over keyspace closed one))
          (λ v s one v_is s_is. stream_says hash keyspace decided tables closed v s one closing v_is s_is.0 s_is.1) (listed items) ss decided read both),
    )

pub plans_say : (text : List ℕ) (plans : List PlanValue) → plans_of text ≡ Ok plans → SaysPlans text plans
unfolding plans_of plans_of_document
plans_say text plans h =
    then_ok _ (json_of text) plans h (λ value value_is h2. then_ok _ (document_of value) plans h2 (λ e e_is h3. then_ok _ (known_vindexes e) plans h3 (λ known known_is h4. then_ok _ (within_limits e) plans h4 (λ within within_is h5.
    then_ok _ (each resolved within.tables) plans h5 (λ tables tables_are h6. then_ok _ (decided_from tables 0 within.streams) plans h6 (λ decided decided_is h7. then_ok _ (closed_from decided 0 tables) plans h7 (λ closed closed_is h8.
    let kept = limits_kept (is_within e) e within within_is in
    let same : e ≡ within = kept.1 in
    let says : DocumentSays value within = subst (DocumentSays value) same (document_says value e e_is) in
    let names : HasNames within = subst HasNames same (document_names value e e_is) in
    let few : is_within within ≡ true = ap is_within (sym same) ∙ kept.0 in
    let over = over_plans within tables closed decided names few tables_are decided_is closed_is in
    subst (SaysPlans text) (same_ok (map (plan_over within.keyspace closed) decided) plans h8) (record {
      value = value;
      json = json_is text value value_is;
      keyspace = within.keyspace;
      keyspace_said = says.keyspace;
      tables = closed;
      tables_said = tables_say (uses_hash value) decided value within.tables tables closed says.tables tables_are closed_is;
      streams_said = streams_say (uses_hash value) within.keyspace decided tables closed value within.streams says.streams decided_is closed_is (all_from_gets (λ one. IsPlan (plan_over within.keyspace closed one)) decided over);
    }))))))))
