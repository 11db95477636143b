-- What stands where no line of a warning is told.
use Rattle.std.proofs.Common.{◌≡◌, ◌≢◌, ◌↔◌, ◌∙◌, ℕ, zero, suc, ◌+◌, ◌<◌, ◌≤◌, arith, Bool, true, false, cond, List, [], ◌∷◌, ◌++◌, length, Option, Some, None, refl, sym, ap, subst}
use Rattle.std.specs.Prelude.{◌==◌, ◌&&◌, ◌||◌, IfSome, IsSomeAnd, is_some}
use Rattle.std.specs.List.{AllByRecursion, Any, count_by, filter, flat_map, list_any}
use Rattle.std.specs.Option.{option_and_then, option_to_list}
use Rattle.std.specs.Ordering.{eq_by_cmp}
use Rattle.std.specs.Cmp.{Equal-is}
use Rattle.std.specs.declared.cmp.Ordering.TheVariants.{Equal}
use Rattle.std.proofs.lemmas.Bool.{true≢false, eqb-true}
use Rattle.std.proofs.lemmas.Cmp.{tied_itself}
use Rattle.std.proofs.lemmas.List.Folds.{Any-from_list_any, list_any-from_Any}
use Rattle.std.proofs.lemmas.List.Sums.{length-filter}
use Rattle.list_laws.proofs.Fronts.{All-append}
use borrow.Author.Tests.{eq-eqb}
use Rattle.filter_rule.specs.PlanTable.{TableValue}
use Rattle.filter_rule.specs.PlanValue.{PlanValue, table_of_name}
use Rattle.pk_copy.specs.KeyOrder.{key_cmp}
use Rattle.pk_copy.specs.KeyOrderLaws.{key_cmp_total}
use Rattle.pk_copy.specs.KeyValue.{KeyValue}
use Rattle.proto_wire.specs.Parts.{parts, scalar, text}
use Rattle.vdiff.specs.Report.{row_eq}
use Rattle.source_feed.specs.GroupValue.{Position, TableChangeValue, GroupValue}
use Rattle.source_feed.specs.History.{RowValue}
use Rattle.source_feed.specs.Touches.{PutValue, TouchValue, PreparedValue}
use Rattle.feed_check.specs.Checked.{CheckedValue, is_passing, touches_table, passes_in_table, touching, passing_groups}
use Rattle.feed_check.specs.Clean.{IsStart, PutsPassing, HasPassingRow, IsNamed, AreNamed, KeepsItsKey, KeepTheirKeys}
use Rattle.feed_check.specs.Findings.{FindingValue, told, why_before, why_after, why_moved, has_key, found_before, found_after, found_moved, findings_in, moves_of}
use Rattle.feed_check.specs.KeyedChanges.{KeyedRowValue, KeyedChangeValue}
use Rattle.feed_check.specs.Replay.{row_left}
use Rattle.feed_check.specs.Report.{warning, note, change_line, groups_warning, table_note, table_notes, is_start, start_note, start_text, name_warnings, skipped_warnings, same_why, of_kind, kind_lines, told_lines, change_warnings, has_some}
use Rattle.feed_check.specs.Skipped.{SkippedValue, is_skipped, skipped_at, skipped_in, skipped_from}
use Rattle.feed_check.specs.Unknown.{is_known, with_name, unknown_in, unknown_behind}
use Rattle.feed_check.specs.declared.finding.Doubt.{Doubt}
use Rattle.feed_check.specs.declared.finding.Doubt.TheVariants.{NoRow, OtherRow, RowThere, Moved}

-- ---- lists that are empty

pub left_empty : {A : Type 0} (xs ys : List A) → xs ++ ys ≡ [] → xs ≡ []
left_empty [] ys e = refl
left_empty (x ∷ xs) ys e = cc

pub right_empty : {A : Type 0} (xs ys : List A) → xs ++ ys ≡ [] → ys ≡ []
right_empty [] ys e = e
right_empty (x ∷ xs) ys e = cc

pub both_empty : {A : Type 0} (xs ys : List A) → xs ≡ [] → ys ≡ [] → xs ++ ys ≡ []
both_empty [] ys e f = f
both_empty (x ∷ xs) ys e f = cc

not_empty : {A : Type 0} (x : A) (xs : List A) → x ∷ xs ≡ [] → ⊥
not_empty x xs e = cc

both_true : (a b : Bool) → (a && b) ≡ true → (a ≡ true) × (b ≡ true)
both_true true b e = (refl, e)
both_true false b e = absurd (true≢false (sym e))

-- a warning has a text, and so has a note
pub shows : (i : ℕ) (text : List ℕ) → warning i text ≡ [] → ⊥
shows i text e = let some : has_some (warning i text) ≡ true = refl in true≢false (sym some ∙ ap has_some e)

notes : (i : ℕ) (text : List ℕ) → note i text ≡ [] → ⊥
notes i text e = let some : has_some (note i text) ≡ true = refl in true≢false (sym some ∙ ap has_some e)

tells : (i : ℕ) (why : Doubt) (text : List ℕ) → change_line i why text ≡ [] → ⊥
tells i NoRow text e = shows i text e
tells i OtherRow text e = shows i text e
tells i RowThere text e = shows i text e
tells i Moved text e = notes i text e

flat-none : {X : Type 0} (f : X → List ℕ) → ((x : X) → f x ≡ [] → ⊥) → (xs : List X) → (flat_map f xs ≡ []) ↔ (xs ≡ [])
flat-none f shown [] = (λ _. refl, λ _. refl)
flat-none f shown (x ∷ xs) = (λ e. absurd (shown x (left_empty (f x) (flat_map f xs) e)), λ e. absurd (not_empty x xs e))

-- ---- groups, and where they begin

pub groups-none : (i n : ℕ) → (groups_warning i n ≡ []) ↔ (1 ≤ n)
groups-none i zero = (λ e. absurd (shows i _ e), λ h. absurd (omega (arith, h)))
groups-none i (suc n) = (λ _. omega arith, λ _. refl)

start-from : (position : Position) → is_start position ≡ true → IsStart position
start-from [] e = absurd (true≢false (sym e))
start-from (one ∷ []) e = record { source = one; alone = refl; transaction = eqb-true one.last 1 e }
start-from (one ∷ two ∷ more) e = absurd (true≢false (sym e))

start-is : (position : Position) → IsStart position → is_start position ≡ true
start-is position h = ap is_start h.alone ∙ eq-eqb h.source.last 1 h.transaction

pub start-none : (i : ℕ) (first : Option PreparedValue) → (start_note i first ≡ []) ↔ IfSome first (λ group. IsStart group.position)
start-none i None = (λ _. tt, λ _. refl)
start-none i (Some group) = by (is_start group.position) refl
  where
    line : List ℕ
    line = start_text group

    is : (b : Bool) → is_start group.position ≡ b → start_note i (Some group) ≡ cond b [] (note i line)
    is b e = ap (λ (t : Bool). cond t [] (note i line)) e

    by : (b : Bool) → is_start group.position ≡ b → (start_note i (Some group) ≡ []) ↔ IsStart group.position
    by true e = (λ _. start-from group.position e, λ _. is true e)
    by false e = (λ w. absurd (notes i line (sym (is false e) ∙ w)), λ h. absurd (true≢false (sym (start-is group.position h) ∙ e)))

-- ---- tables

filter-by : {X : Type 0} (p : X → Bool) (x : X) (xs : List X) (b : Bool) → p x ≡ b → filter p (x ∷ xs) ≡ cond b (x ∷ filter p xs) (filter p xs)
filter-by p x xs b e = ap (λ (t : Bool). cond t (x ∷ filter p xs) (filter p xs)) e

any-by : {X : Type 0} (p : X → Bool) (x : X) (xs : List X) (b : Bool) → p x ≡ b → list_any p (x ∷ xs) ≡ (b || list_any p xs)
any-by p x xs b e = ap (λ (t : Bool). t || list_any p xs) e

filtered-none : {X : Type 0} (p : X → Bool) (xs : List X) → list_any p xs ≡ false → filter p xs ≡ []
filtered-none p [] e = refl
filtered-none p (x ∷ xs) e = by (p x) refl (filtered-none p xs)
  where
    by : (b : Bool) → p x ≡ b → (list_any p xs ≡ false → filter p xs ≡ []) → filter p (x ∷ xs) ≡ []
    by true is rest = absurd (true≢false (sym (any-by p x xs true is) ∙ e))
    by false is rest = filter-by p x xs false is ∙ rest (sym (any-by p x xs false is) ∙ e)

filtered-some : {X : Type 0} (p : X → Bool) (xs : List X) → filter p xs ≡ [] → list_any p xs ≡ false
filtered-some p [] e = refl
filtered-some p (x ∷ xs) e = by (p x) refl (filtered-some p xs)
  where
    by : (b : Bool) → p x ≡ b → (filter p xs ≡ [] → list_any p xs ≡ false) → list_any p (x ∷ xs) ≡ false
    by true is rest = absurd (not_empty x (filter p xs) (sym (filter-by p x xs true is) ∙ e))
    by false is rest = any-by p x xs false is ∙ rest (sym (filter-by p x xs false is) ∙ e)

-- a count is above zero exactly where some element passes
counted : {X : Type 0} (p : X → Bool) (xs : List X) → (1 ≤ count_by p xs) ↔ (list_any p xs ≡ true)
counted p xs = by (list_any p xs) refl
  where
    by : (b : Bool) → list_any p xs ≡ b → (1 ≤ count_by p xs) ↔ (list_any p xs ≡ true)
    by true e = (λ _. e, λ _. many (filter p xs) refl)
      where
        many : (ys : List _) → filter p xs ≡ ys → 1 ≤ count_by p xs
        many [] is = absurd (true≢false (sym e ∙ filtered-some p xs is))
        many (y ∷ ys) is = let n : count_by p xs ≡ suc (length ys) = sym (length-filter p xs) ∙ ap length is in omega (arith, n)
    by false e = (
      λ h. absurd (let n : count_by p xs ≡ 0 = sym (length-filter p xs) ∙ ap length (filtered-none p xs e) in omega (arith, n, h)),
      λ t. absurd (true≢false (sym t ∙ e)),
    )

map-any : {X : Type 0} (P Q : X → Type 0) → ((x : X) → P x → Q x) → (xs : List X) → Any P xs → Any Q xs
map-any P Q f xs a = (a.0, a.1, a.2, a.3, f a.1 a.4)

passing-from : (put : Option PutValue) → is_passing put ≡ true → IsSomeAnd put (λ p. p.passes ≡ true)
passing-from None e = absurd (true≢false (sym e))
passing-from (Some put) e = e

passing-is : (put : Option PutValue) → IsSomeAnd put (λ p. p.passes ≡ true) → is_passing put ≡ true
passing-is None h = absurd h
passing-is (Some put) h = h

puts-from : (t : ℕ) (touch : TouchValue) → passes_in_table t touch ≡ true → PutsPassing t touch
puts-from t touch e = let both = both_true (touch.0.table == t) (is_passing touch.1) e in record { table = eqb-true touch.0.table t both.0; row = passing-from touch.1 both.1 }

puts-is : (t : ℕ) (touch : TouchValue) → PutsPassing t touch → passes_in_table t touch ≡ true
puts-is t touch h = ap (λ (b : Bool). b && is_passing touch.1) (eq-eqb touch.0.table t h.table) ∙ passing-is touch.1 h.row

touches-is : (t : ℕ) (touch : TouchValue) → PutsPassing t touch → touches_table t touch ≡ true
touches-is t touch h = eq-eqb touch.0.table t h.table

-- where some group puts a row that passes
passing-some : (t : ℕ) (history : List PreparedValue) → 1 ≤ passing_groups t history → HasPassingRow history t
passing-some t history h =
    map-any (λ group. list_any (passes_in_table t) group.touches ≡ true) (λ group. Any (PutsPassing t) group.touches)
    (λ group e. map-any (λ touch. passes_in_table t touch ≡ true) (PutsPassing t) (puts-from t) group.touches (Any-from_list_any (passes_in_table t) group.touches e))
    history
    (Any-from_list_any (λ group. list_any (passes_in_table t) group.touches) history ((counted (λ group. list_any (passes_in_table t) group.touches) history).0 h))

some-counted : (t : ℕ) (p : TouchValue → Bool) → ((touch : TouchValue) → PutsPassing t touch → p touch ≡ true) → (history : List PreparedValue) → HasPassingRow history t
    → 1 ≤ count_by (λ (group : PreparedValue). list_any p group.touches) history
some-counted t p is history h =
    (counted (λ (group : PreparedValue). list_any p group.touches) history).1
    (list_any-from_Any (λ (group : PreparedValue). list_any p group.touches) history
    (map-any (λ group. Any (PutsPassing t) group.touches) (λ group. list_any p group.touches ≡ true)
    (λ group a. list_any-from_Any p group.touches (map-any (PutsPassing t) (λ touch. p touch ≡ true) is group.touches a)) history h))

counts-none : (i : ℕ) (name : List ℕ) (n m : ℕ) → (table_note i name n m ≡ []) ↔ ((1 ≤ n) × (1 ≤ m))
counts-none i name zero m = (λ e. absurd (notes i _ e), λ h. absurd (let none : 1 ≤ 0 = h.0 in omega (arith, none)))
counts-none i name (suc n) zero = (λ e. absurd (notes i _ e), λ h. absurd (let none : 1 ≤ 0 = h.1 in omega (arith, none)))
counts-none i name (suc n) (suc m) = (λ _. (omega arith, omega arith), λ _. refl)

table-none : (i : ℕ) (name : List ℕ) (t : ℕ) (history : List PreparedValue) → (table_note i name (touching t history) (passing_groups t history) ≡ []) ↔ HasPassingRow history t
table-none i name t history =
    let counts = counts-none i name (touching t history) (passing_groups t history) in (
      λ e. passing-some t history (counts.0 e).1,
      λ h. counts.1 (some-counted t (touches_table t) (touches-is t) history h, some-counted t (passes_in_table t) (puts-is t) history h),
    )

-- one table in front of others
tables-more : (i : ℕ) (check : CheckedValue) (t : ℕ) (table : TableValue) (later : List TableValue)
    → (table_note i table.name (touching t check.history) (passing_groups t check.history) ≡ []) ↔ HasPassingRow check.history t
    → (table_notes i check (t + 1) later ≡ []) ↔ ((u : ℕ) → u < length later → HasPassingRow check.history (t + 1 + u))
    → (table_notes i check t (table ∷ later) ≡ []) ↔ ((u : ℕ) → u < suc (length later) → HasPassingRow check.history (t + u))
tables-more i check t table later here rest = (to, from)
  where
    first : List ℕ
    first = table_note i table.name (touching t check.history) (passing_groups t check.history)

    to : first ++ table_notes i check (t + 1) later ≡ [] → (u : ℕ) → u < suc (length later) → HasPassingRow check.history (t + u)
    to e zero within = let n : t ≡ t + 0 = omega arith in subst (HasPassingRow check.history) n (here.0 (left_empty first _ e))
    to e (suc u) within = let n : t + 1 + u ≡ t + suc u = omega arith in subst (HasPassingRow check.history) n (rest.0 (right_empty first _ e) u (omega (arith, within)))

    from : ((u : ℕ) → u < suc (length later) → HasPassingRow check.history (t + u)) → first ++ table_notes i check (t + 1) later ≡ []
    from h =
        let n : t + 0 ≡ t = omega arith in
        both_empty first _ (here.1 (subst (HasPassingRow check.history) n (h zero (omega arith))))
        (rest.1 (λ u within. let m : t + suc u ≡ t + 1 + u = omega arith in subst (HasPassingRow check.history) m (h (suc u) (omega (arith, within)))))

pub tables-none : (i : ℕ) (check : CheckedValue) (t : ℕ) (tables : List TableValue)
    → (table_notes i check t tables ≡ []) ↔ ((u : ℕ) → u < length tables → HasPassingRow check.history (t + u))
tables-none i check t [] = (λ _ u h. absurd (omega (arith, h)), λ _. refl)
tables-none i check t (table ∷ later) = tables-more i check t table later (table-none i table.name t check.history) (tables-none i check (t + 1) later)

-- ---- names

pub names-none : (i : ℕ) (plan : PlanValue) (names : List (List ℕ)) → (name_warnings i plan names ≡ []) ↔ (names ≡ [])
names-none i plan names = flat-none _ (λ name. shows i _) names

some-is : {A : Type 0} (o : Option A) → o ≢ None → is_some o ≡ true
some-is None there = absurd (there refl)
some-is (Some x) there = refl

is-some : {A : Type 0} (o : Option A) (b : Bool) → b ≡ false → (is_some o || b) ≡ true → o ≢ None
is-some None false f e = absurd (true≢false (sym e))
is-some None true f e = absurd (true≢false f)
is-some (Some x) b f e = λ none. cc

no_name : (told : List (List ℕ)) (name : List ℕ) → told ++ name ∷ [] ≡ [] → ⊥
no_name [] name e = not_empty name [] e
no_name (one ∷ told) name e = not_empty one (told ++ name ∷ []) e

with-none : (plan : PlanValue) (told : List (List ℕ)) (name : List ℕ) → with_name plan told name ≡ [] → (told ≡ []) × (table_of_name plan name ≢ None)
with-none plan told name e = by (is_known plan told name) refl e
  where
    by : (b : Bool) → is_known plan told name ≡ b → cond b told (told ++ name ∷ []) ≡ [] → (told ≡ []) × (table_of_name plan name ≢ None)
    by true is e = (e, is-some (table_of_name plan name) false refl (sym (ap (λ (names : List (List ℕ)). is_known plan names name) e) ∙ is))
    by false is e = absurd (no_name told name e)

named-with : (plan : PlanValue) (name : List ℕ) → table_of_name plan name ≢ None → with_name plan [] name ≡ []
named-with plan name named = by (table_of_name plan name) refl named
  where
    by : (o : Option ℕ) → table_of_name plan name ≡ o → o ≢ None → with_name plan [] name ≡ []
    by None is there = absurd (there refl)
    by (Some t) is there = ap (λ (o : Option ℕ). cond (is_some o || false) [] (name ∷ [])) is

in-none : (plan : PlanValue) (told : List (List ℕ)) (changes : List TableChangeValue) → unknown_in plan told changes ≡ [] → (told ≡ []) × AllByRecursion (IsNamed plan) changes
in-none plan told [] e = (e, tt)
in-none plan told (change ∷ later) e =
    let rest = in-none plan (with_name plan told change.table) later e in
    let first = with-none plan told change.table rest.0 in
    (first.0, (first.1, rest.1))

named-in : (plan : PlanValue) (changes : List TableChangeValue) → AllByRecursion (IsNamed plan) changes → unknown_in plan [] changes ≡ []
named-in plan [] all = refl
named-in plan (change ∷ later) all = ap (λ told. unknown_in plan told later) (named-with plan change.table all.0) ∙ named-in plan later all.1

behind-none : (plan : PlanValue) (told : List (List ℕ)) (groups : List GroupValue) → unknown_behind plan told groups ≡ [] → (told ≡ []) × AreNamed plan groups
behind-none plan told [] e = (e, tt)
behind-none plan told (group ∷ later) e =
    let rest = behind-none plan (unknown_in plan told group.changes) later e in
    let first = in-none plan told group.changes rest.0 in
    (first.0, (first.1, rest.1))

named-behind : (plan : PlanValue) (groups : List GroupValue) → AreNamed plan groups → unknown_behind plan [] groups ≡ []
named-behind plan [] all = refl
named-behind plan (group ∷ later) all = ap (λ told. unknown_behind plan told later) (named-in plan group.changes all.0) ∙ named-behind plan later all.1

pub unknown-none : (plan : PlanValue) (groups : List GroupValue) → (unknown_behind plan [] groups ≡ []) ↔ AreNamed plan groups
unknown-none plan groups = (λ e. (behind-none plan [] groups e).1, named-behind plan groups)

-- ---- what is told of changes

kind-none : (i : ℕ) (check : CheckedValue) (why : Doubt) (these : List FindingValue) → (kind_lines i check why these ≡ []) ↔ (these ≡ [])
kind-none i check why [] = (λ _. refl, λ _. refl)
kind-none i check why (found ∷ these) = (λ e. absurd (tells i why _ (left_empty _ _ e)), λ e. absurd (not_empty found these e))

abbrev IsNoMove : FindingValue → Type 0
IsNoMove found = same_why Moved found.why ≡ false

abbrev IsMove : FindingValue → Type 0
IsMove found = same_why Moved found.why ≡ true

-- one of a kind is told
of-first : (why : Doubt) (found : FindingValue) (later : List FindingValue) → same_why why found.why ≡ true → of_kind why (found ∷ later) ≡ [] → ⊥
of-first why found later same e = not_empty found (of_kind why later) (sym (ap (λ (b : Bool). cond b (found ∷ of_kind why later) (of_kind why later)) same) ∙ e)

none-of-three : (findings : List FindingValue) → AllByRecursion IsNoMove findings → of_kind NoRow findings ≡ [] → of_kind OtherRow findings ≡ [] → of_kind RowThere findings ≡ [] → findings ≡ []
none-of-three [] all a b c = refl
none-of-three (found ∷ later) all a b c = by found.why refl
  where
    by : (why : Doubt) → found.why ≡ why → found ∷ later ≡ []
    by NoRow is = absurd (of-first NoRow found later (ap (same_why NoRow) is) a)
    by OtherRow is = absurd (of-first OtherRow found later (ap (same_why OtherRow) is) b)
    by RowThere is = absurd (of-first RowThere found later (ap (same_why RowThere) is) c)
    by Moved is = absurd (true≢false (sym (ap (same_why Moved) is) ∙ all.0))

none-moved : (moves : List FindingValue) → AllByRecursion IsMove moves → of_kind Moved moves ≡ [] → moves ≡ []
none-moved [] all e = refl
none-moved (found ∷ later) all e = absurd (of-first Moved found later all.0 e)

of_told : (P : FindingValue → Type 0) (change : KeyedChangeValue) (key : KeyValue) (why : Option Doubt)
    → IfSome why (λ w. P (record { group = change.group; place = change.place; why = w; key = key })) → AllByRecursion P (option_to_list (told change key why))
of_told P change key None h = tt
of_told P change key (Some why) h = (h, tt)

before-no_move : (row : RowValue) (there : Option RowValue) → IfSome (why_before row there) (λ w. same_why Moved w ≡ false)
before-no_move row None = refl
before-no_move row (Some other) = by (row_eq row other)
  where
    by : (b : Bool) → IfSome (cond b None (Some OtherRow)) (λ w. same_why Moved w ≡ false)
    by true = tt
    by false = refl

after-no_move : (own : Bool) (there : Option RowValue) → IfSome (why_after own there) (λ w. same_why Moved w ≡ false)
after-no_move true there = tt
after-no_move false None = tt
after-no_move false (Some other) = refl

found_before-no_move : (change : KeyedChangeValue) (rows : KeyValue → Option RowValue) → AllByRecursion IsNoMove (option_to_list (found_before change rows))
found_before-no_move change rows = by change.before
  where
    by : (image : Option KeyedRowValue) → AllByRecursion IsNoMove (option_to_list (option_and_then (λ i. told change i.0 (why_before i.1 (rows i.0))) image))
    by None = tt
    by (Some i) = of_told IsNoMove change i.0 _ (before-no_move i.1 (rows i.0))

found_after-no_move : (change : KeyedChangeValue) (rows : KeyValue → Option RowValue) → AllByRecursion IsNoMove (option_to_list (found_after change rows))
found_after-no_move change rows = by change.after
  where
    by : (image : Option KeyedRowValue) → AllByRecursion IsNoMove (option_to_list (option_and_then (λ i. told change i.0 (why_after (has_key change.before i.0) (rows i.0))) image))
    by None = tt
    by (Some i) = of_told IsNoMove change i.0 _ (after-no_move (has_key change.before i.0) (rows i.0))

pub findings-no_move : (past : List KeyedChangeValue) → AllByRecursion IsNoMove (findings_in past)
findings-no_move [] = tt
findings-no_move (change ∷ earlier) =
    All-append IsNoMove (findings_in earlier) _ (findings-no_move earlier)
    (All-append IsNoMove (option_to_list (found_before change (row_left earlier))) _ (found_before-no_move change (row_left earlier)) (found_after-no_move change (row_left earlier)))

moved-is : (before : Option KeyedRowValue) (key : KeyValue) → IfSome (why_moved before key) (λ w. same_why Moved w ≡ true)
moved-is None key = tt
moved-is (Some image) key = by (eq_by_cmp key_cmp key image.0)
  where
    by : (b : Bool) → IfSome (cond b None (Some Moved)) (λ w. same_why Moved w ≡ true)
    by true = tt
    by false = refl

found_moved-is : (change : KeyedChangeValue) → AllByRecursion IsMove (option_to_list (found_moved change))
found_moved-is change = by change.after
  where
    by : (image : Option KeyedRowValue) → AllByRecursion IsMove (option_to_list (option_and_then (λ i. told change i.0 (why_moved change.before i.0)) image))
    by None = tt
    by (Some i) = of_told IsMove change i.0 _ (moved-is change.before i.0)

pub moves-are : (changes : List KeyedChangeValue) → AllByRecursion IsMove (moves_of changes)
moves-are [] = tt
moves-are (change ∷ later) = All-append IsMove (option_to_list (found_moved change)) (moves_of later) (found_moved-is change) (moves-are later)

module _ (ties : (a b : KeyValue) → key_cmp a b ≡ Equal → a ≡ b) where
  moved-none : (change : KeyedChangeValue) → (option_to_list (found_moved change) ≡ []) ↔ KeepsItsKey change
  moved-none change = by change.after change.before
    where
      at : (after before : KeyedRowValue) (b : Bool) → eq_by_cmp key_cmp after.0 before.0 ≡ b → (option_to_list (told change after.0 (cond b None (Some Moved))) ≡ []) ↔ (after.0 ≡ before.0)
      at after before true e = (λ _. ties after.0 before.0 ((Equal-is (key_cmp after.0 before.0)).0 e), λ _. refl)
      at after before false e = (
        λ w. absurd (not_empty _ _ w),
        λ same. absurd (true≢false (sym ((Equal-is (key_cmp after.0 before.0)).1 (ap (λ (k : KeyValue). key_cmp k before.0) same ∙ tied_itself key_cmp_total before.0)) ∙ e)),
      )

      by : (after before : Option KeyedRowValue)
          → (option_to_list (option_and_then (λ i. told change i.0 (why_moved before i.0)) after) ≡ []) ↔ IfSome after (λ a. IfSome before (λ b. a.0 ≡ b.0))
      by None before = (λ _. tt, λ _. refl)
      by (Some after) None = (λ _. tt, λ _. refl)
      by (Some after) (Some before) = at after before (eq_by_cmp key_cmp after.0 before.0) refl

  pub moves-none : (changes : List KeyedChangeValue) → (moves_of changes ≡ []) ↔ KeepTheirKeys changes
  moves-none [] = (λ _. tt, λ _. refl)
  moves-none (change ∷ later) =
      let first = option_to_list (found_moved change) in (
        λ e. ((moved-none change).0 (left_empty first (moves_of later) e), (moves-none later).0 (right_empty first (moves_of later) e)),
        λ h. both_empty first (moves_of later) ((moved-none change).1 h.0) ((moves-none later).1 h.1),
      )

-- no line of a change is told exactly where nothing is
pub changes-none : (i : ℕ) (check : CheckedValue) → AllByRecursion IsNoMove check.findings → (change_warnings i check ≡ []) ↔ (check.findings ≡ [])
changes-none i check no_moves = (to, from)
  where
    a : List ℕ
    a = told_lines i check NoRow check.findings

    b : List ℕ
    b = told_lines i check OtherRow check.findings

    c : List ℕ
    c = told_lines i check RowThere check.findings

    to : a ++ (b ++ c) ≡ [] → check.findings ≡ []
    to e =
        let e1 = right_empty a (b ++ c) e in
        none-of-three check.findings no_moves
        ((kind-none i check NoRow (of_kind NoRow check.findings)).0 (left_empty a (b ++ c) e))
        ((kind-none i check OtherRow (of_kind OtherRow check.findings)).0 (left_empty b c e1))
        ((kind-none i check RowThere (of_kind RowThere check.findings)).0 (right_empty b c e1))

    none : (why : Doubt) → check.findings ≡ [] → told_lines i check why check.findings ≡ []
    none why e = ap (told_lines i check why) e

    from : check.findings ≡ [] → a ++ (b ++ c) ≡ []
    from e = both_empty a (b ++ c) (none NoRow e) (both_empty b c (none OtherRow e) (none RowThere e))

-- nor of an update that moves its row
pub still-none : (i : ℕ) (check : CheckedValue) → AllByRecursion IsMove check.moves → (told_lines i check Moved check.moves ≡ []) ↔ (check.moves ≡ [])
still-none i check moves = (λ e. none-moved check.moves moves ((kind-none i check Moved (of_kind Moved check.moves)).0 e), λ e. ap (told_lines i check Moved) e)

-- ---- events

pub skipped-none : (i : ℕ) (events : List SkippedValue) → (skipped_warnings i events ≡ []) ↔ (events ≡ [])
skipped-none i [] = (λ _. refl, λ _. refl)
skipped-none i (event ∷ events) = (λ e. absurd (shows i _ (left_empty _ _ e)), λ e. absurd (not_empty event events e))

abbrev IsTold : List ℕ → Type 0
IsTold event = is_skipped (scalar 1 event) ≡ false

at-none : (number : ℕ) (event : List ℕ) → (skipped_at number event ≡ []) ↔ IsTold event
at-none number event = by (is_skipped (scalar 1 event)) refl
  where
    skipped : SkippedValue
    skipped = record { message = number; kind = scalar 1 event; statement = text 4 event }

    is : (b : Bool) → is_skipped (scalar 1 event) ≡ b → skipped_at number event ≡ cond b (skipped ∷ []) []
    is b e = ap (λ (t : Bool). cond t (skipped ∷ []) []) e

    by : (b : Bool) → is_skipped (scalar 1 event) ≡ b → (skipped_at number event ≡ []) ↔ IsTold event
    by true e = (λ w. absurd (not_empty skipped [] (sym (is true e) ∙ w)), λ h. absurd (true≢false (sym e ∙ h)))
    by false e = (λ _. e, λ _. is false e)

events-none : (number : ℕ) (events : List (List ℕ)) → (flat_map (skipped_at number) events ≡ []) ↔ AllByRecursion IsTold events
events-none number [] = (λ _. tt, λ _. refl)
events-none number (event ∷ later) =
    let first = skipped_at number event in
    let others = flat_map (skipped_at number) later in (
      λ e. ((at-none number event).0 (left_empty first others e), (events-none number later).0 (right_empty first others e)),
      λ h. both_empty first others ((at-none number event).1 h.0) ((events-none number later).1 h.1),
    )

pub messages-none : (number : ℕ) (messages : List (List ℕ)) → (skipped_from number messages ≡ []) ↔ AllByRecursion (λ message. AllByRecursion IsTold (parts 1 message)) messages
messages-none number [] = (λ _. tt, λ _. refl)
messages-none number (message ∷ later) =
    let first = skipped_in number message in
    let others = skipped_from (number + 1) later in (
      λ e. ((events-none number (parts 1 message)).0 (left_empty first others e), (messages-none (number + 1) later).0 (right_empty first others e)),
      λ h. both_empty first others ((events-none number (parts 1 message)).1 h.0) ((messages-none (number + 1) later).1 h.1),
    )
