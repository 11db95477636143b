-- What is true of a feed under a plan: where no FIELD differs, each change is one under the plan.
use Rattle.std.proofs.Common.{◌≡◌, ℕ, zero, suc, ◌+◌, ◌<◌, ◌||◌, List, [], ◌∷◌, length, reverse, map, Option, None, Some, Ok, Bool, true, false, cond, ◌^◌, slice_get, IsOk, refl, sym, ◌∙◌, ap, subst, arith, inl, inr}
use Rattle.std.proofs.lemmas.Bool.{cases_Bool, cond-true, cond-false, and_parts, not-false, or_parts}
use Rattle.std.proofs.lemmas.List.Quantifiers.{position-Some}
use Rattle.std.proofs.lemmas.List.Folds.{list_any-append}
use Rattle.std.proofs.lemmas.Option.{same_Some}
use Rattle.std.specs.List.{AllByRecursion, list_all, list_any, filter_map, cons_option}
use Rattle.std.specs.Option.{option_map}
use Rattle.std.specs.Str.{bytes_eq}
use Rattle.std.specs.Cmp.Lexicographic.{as_long, same_text}
use Rattle.list_laws.proofs.Fronts.{All-append}
use mathlib.Core.List.{reverse-cons}
use Rattle.filter_rule.specs.PlanValue.{PlanValue, table_of_name, columns_of}
use Rattle.filter_rule.specs.WellFormed.{IsPlan}
use Rattle.vevent.specs.Columns.{has_columns, have_columns}
use Rattle.row_view.specs.FieldValue.{FieldValue}
use Rattle.vevent.specs.EventValue.{ChangeValue, EventValue, Begin, Commit, Row, Field}
use Rattle.source_feed.specs.declared.fault.FeedFault.TheVariants.{Misplaced, ColumnCount}
use Rattle.source_feed.specs.GroupValue.{Position, TableChangeValue, GroupValue}
use Rattle.source_feed.specs.SourceValue.{table_in_source}
use Rattle.source_feed.specs.EventList.{events_of_feed}
use Rattle.source_feed.specs.PastEvents.{PastEvents, is_open, last_field, body_position, body_changes, change_in, changes_in, position_of}
use Rattle.source_feed.specs.Groups.{Block, block_at, block_at_position, seen, group_of_block, groups_of, row_fault, fault_at, first_fault, groups}
use Rattle.source_feed.specs.GroupOrder.{AreInOrder}
use Rattle.source_feed.specs.Planned.{source_of, groups_under, same_column, differs_at, differs, differs_from, PlannedChangeValue, PlannedGroupValue, planned_change, planned_group, IsChangeUnder, IsFeed}
use Rattle.gtid_set.specs.Position.{within_of}
use Rattle.source_feed.proofs.Options.{option_or-nothing}
use Rattle.source_feed.proofs.OrderLaws.{InOrder}
use Rattle.source_feed.proofs.DefinedLaws.{Defined, defined}

-- ---- lists

-- an element has what all have
each_of : {A : Type 0} (P : A → Type 0) (xs : List A) (i : ℕ) (x : A) → AllByRecursion P xs → slice_get xs i ≡ Some x → P x
each_of P [] i x all e = cc
each_of P (y ∷ xs) zero x all e = subst P (same_Some y x e) all.0
each_of P (y ∷ xs) (suc i) x all e = each_of P xs i x all.1 e

list_any-reverse : {A : Type 0} (p : A → Bool) (xs : List A) → list_any p xs ≡ false → list_any p (reverse xs) ≡ false
list_any-reverse p [] e = refl
list_any-reverse p (x ∷ xs) e =
    let n = or_parts (p x) (list_any p xs) e in
    ap (list_any p) (reverse-cons x xs) ∙ list_any-append p (reverse xs) (x ∷ []) ∙ ap (λ b. b || list_any p (x ∷ [])) (list_any-reverse p xs n.1) ∙ ap (λ b. b || false) n.0

-- ---- the columns of a planned table

agrees : (plan : PlanValue) (t : ℕ) (number : Option ℕ) (fields : List FieldValue) → number ≡ Some t → differs_at plan number fields ≡ false → length fields ≡ length (columns_of plan t)
agrees plan t None fields n e = cc
agrees plan t (Some u) fields n e =
    let same : u ≡ t = same_Some u t n in
    sym (as_long same_column (columns_of plan u) fields (not-false _ e)) ∙ ap (λ k. length (columns_of plan k)) same

-- the last FIELD of a planned table has as many columns as the plan
pub field_agrees : (plan : PlanValue) (past : PastEvents) (table : List ℕ) (t : ℕ) (fields : List FieldValue) → list_any (differs plan) past ≡ false → table_of_name plan table ≡ Some t
    → last_field (source_of plan) past table ≡ Some fields → length fields ≡ length (columns_of plan t)
field_agrees plan [] table t fields d n e = cc
field_agrees plan (Field name columns ∷ earlier) table t fields d n e =
    let both = or_parts (differs plan (Field name columns)) (list_any (differs plan) earlier) d in
    elim (cases_Bool (bytes_eq (table_in_source (source_of plan) name) table)) [
      | inl holds ↦
          let same : table_in_source (source_of plan) name ≡ table = same_text (table_in_source (source_of plan) name) table (sym holds) in
          let here : columns ≡ fields = same_Some columns fields (sym (cond-true (bytes_eq (table_in_source (source_of plan) name) table) (Some columns) (last_field (source_of plan) earlier table) holds) ∙ e) in
          ap length (sym here) ∙ agrees plan t (table_of_name plan (table_in_source (source_of plan) name)) columns (ap (table_of_name plan) same ∙ n) both.0
      | inr beyond ↦
          field_agrees plan earlier table t fields both.1 n (sym (cond-false (bytes_eq (table_in_source (source_of plan) name) table) (Some columns) (last_field (source_of plan) earlier table) beyond) ∙ e)
    ]
field_agrees plan (event ∷ earlier) table t fields d n e = field_agrees plan earlier table t fields d n e

-- ---- changes

-- if the change's table is planned, the rows have its width
record Fits (plan : PlanValue) (change : TableChangeValue) : Type 0 where
  before : (t : ℕ) → table_of_name plan change.table ≡ Some t → has_columns (length (columns_of plan t)) change.before ≡ true
  after : (t : ℕ) → table_of_name plan change.table ≡ Some t → has_columns (length (columns_of plan t)) change.after ≡ true

change_fits : (plan : PlanValue) (table : List ℕ) (width : ℕ) (change : ChangeValue) → ((t : ℕ) → table_of_name plan table ≡ Some t → width ≡ length (columns_of plan t)) → have_columns width change ≡ true
    → AllByRecursion (Fits plan) (change_in table change)
change_fits plan table width change w f =
    let both = and_parts (has_columns width change.before) (has_columns width change.after) f in
    by_rows change.before change.after both.0 both.1
  where
    by_rows : (before after : Option (List (Option (List ℕ)))) → has_columns width before ≡ true → has_columns width after ≡ true
        → AllByRecursion (Fits plan) (change_in table (record { before = before; after = after }))
    by_rows None None b a = tt
    by_rows (Some row) after b a = (
      record { before = λ t n. rw (← w t n) b; after = λ t n. rw (← w t n) a },
      tt,
    )
    by_rows None (Some row) b a = (
      record { before = λ t n. refl; after = λ t n. rw (← w t n) a },
      tt,
    )

changes_fit : (plan : PlanValue) (table : List ℕ) (width : ℕ) (changes : List ChangeValue) → ((t : ℕ) → table_of_name plan table ≡ Some t → width ≡ length (columns_of plan t)) → list_all (have_columns width) changes ≡ true
    → AllByRecursion (Fits plan) (changes_in table changes)
changes_fit plan table width [] w f = tt
changes_fit plan table width (change ∷ more) w f =
    let both = and_parts (have_columns width change) (list_all (have_columns width) more) f in
    All-append (Fits plan) (change_in table change) (changes_in table more) (change_fits plan table width change w both.0) (changes_fit plan table width more w both.1)

row_fits : (plan : PlanValue) (earlier : PastEvents) (table : List ℕ) (columns : Option (List FieldValue)) (changes : List ChangeValue)
    → ((t : ℕ) (fields : List FieldValue) → table_of_name plan table ≡ Some t → columns ≡ Some fields → length fields ≡ length (columns_of plan t))
    → row_fault (option_map length columns) changes ≡ None → AllByRecursion (Fits plan) (changes_in table changes)
row_fits plan earlier table None changes w f = cc
row_fits plan earlier table (Some fields) changes w f =
    elim (cases_Bool (list_all (have_columns (length fields)) changes)) [
      | inl holds ↦ changes_fit plan table (length fields) changes (λ t n. w t fields n refl) holds
      | inr beyond ↦ let fault : None ≡ Some ColumnCount = sym f ∙ cond-false (list_all (have_columns (length fields)) changes) _ _ beyond in cc
    ]

body_fits : (plan : PlanValue) (past : PastEvents) → first_fault (source_of plan) past ≡ None → list_any (differs plan) past ≡ false → AllByRecursion (Fits plan) (body_changes (source_of plan) past)
body_fits plan [] none d = tt
body_fits plan (Begin ∷ earlier) none d = tt
body_fits plan (Row name changes ∷ earlier) none d =
    let n = option_or-nothing (first_fault (source_of plan) earlier) (fault_at (source_of plan) earlier (Row name changes)) none in
    let table : List ℕ = table_in_source (source_of plan) name in
    All-append (Fits plan) (body_changes (source_of plan) earlier) (changes_in table changes) (body_fits plan earlier n.0 d)
    (elim (cases_Bool (is_open earlier)) [
      | inl opened ↦
          row_fits plan earlier table (last_field (source_of plan) earlier table) changes (λ t fields number columns. field_agrees plan earlier table t fields d number columns)
          (sym (cond-true (is_open earlier) _ _ opened) ∙ n.1)
      | inr shut ↦ let fault : None ≡ Some Misplaced = sym n.1 ∙ cond-false (is_open earlier) _ _ shut in cc
    ])
body_fits plan (Field name columns ∷ earlier) none d =
    let n = option_or-nothing (first_fault (source_of plan) earlier) (fault_at (source_of plan) earlier (Field name columns)) none in
    let both = or_parts (differs plan (Field name columns)) (list_any (differs plan) earlier) d in
    body_fits plan earlier n.0 both.1
body_fits plan (event ∷ earlier) none d =
    let n = option_or-nothing (first_fault (source_of plan) earlier) (fault_at (source_of plan) earlier event) none in
    body_fits plan earlier n.0 d

-- ---- groups

abbrev GroupFits : PlanValue → GroupValue → Type 0
GroupFits plan group = AllByRecursion (Fits plan) group.changes

block_fits : (plan : PlanValue) (before : Position) (number : ℕ) (block : Option Block) → ((b : Block) → block ≡ Some b → AllByRecursion (Fits plan) b.changes)
    → AllByRecursion (GroupFits plan) (group_of_block before number block)
block_fits plan before number None f = tt
block_fits plan before number (Some block) f =
    let one : List GroupValue = record { number = number; position = block.position; changes = block.changes } ∷ [] in
    elim (cases_Bool (within_of block.position before)) [
      | inl holds ↦ subst (AllByRecursion (GroupFits plan)) (sym (cond-true (within_of block.position before) [] one holds)) tt
      | inr beyond ↦ subst (AllByRecursion (GroupFits plan)) (sym (cond-false (within_of block.position before) [] one beyond)) (f block refl, tt)
    ]

changes_of_block : (position : Option Position) (changes : List TableChangeValue) (block : Block) → block_at_position position changes ≡ Some block → changes ≡ block.changes
changes_of_block None changes block e = cc
changes_of_block (Some position) changes block e = ap (λ (b : Block). b.changes) (same_Some (record { position = position; changes = changes }) block e)

-- a block's changes are those of the open transaction, or none
block_changes_fit : (plan : PlanValue) (earlier : PastEvents) (event : EventValue) (block : Block) → AllByRecursion (Fits plan) (body_changes (source_of plan) earlier)
    → block_at (source_of plan) earlier event ≡ Some block → AllByRecursion (Fits plan) block.changes
block_changes_fit plan earlier Commit block body e =
    elim (cases_Bool (is_open earlier)) [
      | inl opened ↦
          rw (← changes_of_block (body_position (source_of plan) earlier) (body_changes (source_of plan) earlier) block (sym (cond-true (is_open earlier) _ _ opened) ∙ e)) body
      | inr shut ↦ let none : None ≡ Some block = sym (cond-false (is_open earlier) (block_at_position (body_position (source_of plan) earlier) (body_changes (source_of plan) earlier)) None shut) ∙ e in cc
    ]
block_changes_fit plan earlier event block body e = outside (position_of (source_of plan) event) e
  where
    outside : (position : Option Position) → cond (is_open earlier) None (block_at_position position []) ≡ Some block → AllByRecursion (Fits plan) block.changes
    outside position e =
        elim (cases_Bool (is_open earlier)) [
          | inl opened ↦ let none : None ≡ Some block = sym (cond-true (is_open earlier) None (block_at_position position []) opened) ∙ e in cc
          | inr shut ↦ rw (← changes_of_block position [] block (sym (cond-false (is_open earlier) None (block_at_position position []) shut) ∙ e)) tt
        ]

differs_before : (plan : PlanValue) (event : EventValue) (earlier : PastEvents) → list_any (differs plan) (event ∷ earlier) ≡ false → list_any (differs plan) earlier ≡ false
differs_before plan event earlier d = (or_parts (differs plan event) (list_any (differs plan) earlier) d).1

groups_fit : (plan : PlanValue) (past : PastEvents) → first_fault (source_of plan) past ≡ None → list_any (differs plan) past ≡ false → AllByRecursion (GroupFits plan) (groups_of (source_of plan) past)
groups_fit plan [] none d = tt
groups_fit plan (event ∷ earlier) none d =
    let n = option_or-nothing (first_fault (source_of plan) earlier) (fault_at (source_of plan) earlier event) none in
    let before : list_any (differs plan) earlier ≡ false = differs_before plan event earlier d in
    All-append (GroupFits plan) (groups_of (source_of plan) earlier) _ (groups_fit plan earlier n.0 before)
    (block_fits plan (seen (source_of plan) earlier) (length (groups_of (source_of plan) earlier) + 1) (block_at (source_of plan) earlier event)
    (λ block e. block_changes_fit plan earlier event block (body_fits plan earlier n.0 before) e))

-- ---- under the plan

change_under : (plan : PlanValue) (change : TableChangeValue) (number : Option ℕ) (planned : PlannedChangeValue) → table_of_name plan change.table ≡ number → Fits plan change
    → option_map (λ t. record { table = t; before = change.before; after = change.after }) number ≡ Some planned → IsChangeUnder plan planned
change_under plan change None planned n f e = cc
change_under plan change (Some t) planned n f e =
    subst (IsChangeUnder plan) (same_Some (record { table = t; before = change.before; after = change.after }) planned e)
    (record { table = (position-Some _ plan.tables t (record { name = []; columns = []; key = []; vindex = None; kept = [] }) n).0; before = f.before t n; after = f.after t n })

changes_under : (plan : PlanValue) (changes : List TableChangeValue) → AllByRecursion (Fits plan) changes → AllByRecursion (IsChangeUnder plan) (filter_map (planned_change plan) changes)
changes_under plan [] all = tt
changes_under plan (change ∷ more) all = put (planned_change plan change) (filter_map (planned_change plan) more) (λ planned e. change_under plan change (table_of_name plan change.table) planned refl all.0 e) (changes_under plan more all.1)
  where
    put : (first : Option PlannedChangeValue) (others : List PlannedChangeValue) → ((planned : PlannedChangeValue) → first ≡ Some planned → IsChangeUnder plan planned)
        → AllByRecursion (IsChangeUnder plan) others → AllByRecursion (IsChangeUnder plan) (cons_option first others)
    put None others f all = all
    put (Some planned) others f all = (f planned refl, all)

abbrev GroupUnder : PlanValue → PlannedGroupValue → Type 0
GroupUnder plan group = AllByRecursion (IsChangeUnder plan) group.changes

groups_under_plan : (plan : PlanValue) (all : List GroupValue) → AllByRecursion (GroupFits plan) all → AllByRecursion (GroupUnder plan) (map (planned_group plan) all)
groups_under_plan plan [] fit = tt
groups_under_plan plan (group ∷ more) fit = (changes_under plan group.changes fit.0, groups_under_plan plan more fit.1)

-- a group of the plan is one of the feed
group_of_planned : (plan : PlanValue) (all : List GroupValue) (i : ℕ) (planned : PlannedGroupValue) → slice_get (map (planned_group plan) all) i ≡ Some planned
    → (group : GroupValue) × (slice_get all i ≡ Some group) × (planned_group plan group ≡ planned)
group_of_planned plan [] i planned e = cc
group_of_planned plan (group ∷ more) zero planned e = (group, refl, same_Some (planned_group plan group) planned e)
group_of_planned plan (group ∷ more) (suc i) planned e = group_of_planned plan more i planned e

abbrev PlannedInOrder : List PlannedGroupValue → Type 0
PlannedInOrder groups = AreInOrder (λ (g : PlannedGroupValue). g.number) (λ (g : PlannedGroupValue). g.position) groups

pub planned_order : (plan : PlanValue) (all : List GroupValue) → InOrder all → PlannedInOrder (map (planned_group plan) all)
planned_order plan all o = record {
  numbered = λ i planned e. (let g = group_of_planned plan all i planned e in rw (← g.2) (o.numbered i g.0 g.1));
  canonical = λ i planned e. (let g = group_of_planned plan all i planned e in rw (← g.2) (o.canonical i g.0 g.1));
  from_empty = λ i planned e. (let g = group_of_planned plan all i planned e in rw (← g.2) (o.from_empty i g.0 g.1));
  growing = λ i j earlier later less e f. (let g = group_of_planned plan all i earlier e in
      let h = group_of_planned plan all j later f in
      rw (← g.2, ← h.2) (o.growing i j g.0 h.0 less g.1 h.1));
}

-- ---- the whole

length-planned : (plan : PlanValue) (all : List GroupValue) → length (map (planned_group plan) all) ≡ length all
length-planned plan [] = refl
length-planned plan (group ∷ more) = ap suc (length-planned plan more)

is_feed : (plan : PlanValue) (feed : List ℕ) (all : List GroupValue) → IsPlan plan → InOrder all → length all < 2 ^ 31 → groups feed (source_of plan) ≡ Ok all
    → list_any (differs plan) (events_of_feed feed).items ≡ false → IsFeed (record { plan = plan; groups = map (planned_group plan) all })
is_feed plan feed all p o few e d =
    let w : Defined (source_of plan) (events_of_feed feed).items all = defined feed (source_of plan) all e in
    let fit : AllByRecursion (GroupFits plan) all = rw w.groups at (groups_fit plan (reverse (events_of_feed feed).items) w.faultless (list_any-reverse (differs plan) (events_of_feed feed).items d)) in
    record {
      plan = p;
      order = planned_order plan all o;
      few = omega (arith, length-planned plan all, few);
      changes = λ i j group change at here.
          each_of (IsChangeUnder plan) group.changes j change (each_of (GroupUnder plan) (map (planned_group plan) all) i group (groups_under_plan plan all fit) at) here;
    }

pub differs-from : (plan : PlanValue) (events : List EventValue) → list_any (differs_from (Some plan)) events ≡ list_any (differs plan) events
differs-from plan [] = refl
differs-from plan (event ∷ events) = ap (λ b. differs plan event || b) (differs-from plan events)

-- no event that was checked differs
pub none_differs : (plan : PlanValue) (given : Option PlanValue) (before after : Bool) (events : List EventValue) → given ≡ Some plan → after ≡ false
    → after ≡ (before || list_any (differs_from given) events) → list_any (differs plan) events ≡ false
none_differs plan given before after events g f e =
    sym (differs-from plan events) ∙ ap (λ o. list_any (differs_from o) events) (sym g) ∙ (or_parts before (list_any (differs_from given) events) (sym e ∙ f)).1

-- a feed that was opened under its plan, whole
pub opened_feed : (plan given : PlanValue) (feed : List ℕ) (all : List GroupValue) (under : List PlannedGroupValue) (checked : Option PlanValue) (before after : Bool)
    → IsPlan plan → given ≡ plan → under ≡ map (planned_group plan) all → InOrder all → length all < 2 ^ 31 → groups feed (source_of plan) ≡ Ok all
    → checked ≡ Some plan → after ≡ false → after ≡ (before || list_any (differs_from checked) (events_of_feed feed).items)
    → IsFeed (record { plan = given; groups = under })
opened_feed plan given feed all under checked before after w p u o few e c f d =
    rw (p, u) (is_feed plan feed all w o few e (none_differs plan checked before after (events_of_feed feed).items c f d))

-- the groups under a plan are defined where a feed's are and no event that was checked differs
pub defined_under : (plan : PlanValue) (feed : List ℕ) (all : List GroupValue) (given : Option PlanValue) (before after : Bool) → groups feed (source_of plan) ≡ Ok all → given ≡ Some plan → after ≡ false
    → after ≡ (before || list_any (differs_from given) (events_of_feed feed).items) → IsOk (groups_under feed plan)
defined_under plan feed all given before after whole g f e = rw (whole, none_differs plan given before after (events_of_feed feed).items g f e) refl
