-- The FIELDs in force and portions of the rows that are left are a base.
use Rattle.std.proofs.Common.{◌≡◌, ◌≤◌, ℕ, Bool, true, false, cond, ◌&&◌, ◌||◌, List, [], ◌∷◌, ◌++◌, length, map, reverse, Option, Some, None, option_map, filter, refl, sym, ap, subst, ◌∙◌, eq-eqb}
use Rattle.std.proofs.lemmas.Bool.{or_parts, cond-true}
use Rattle.std.proofs.lemmas.List.{reverse-reverse, map-append}
use Rattle.std.proofs.lemmas.List.Folds.{list_any-append}
use mathlib.Core.List.{reverse-cons}
use Rattle.std.specs.List.{AllByRecursion, list_any, list_all, filter_map, cons_option, flat_map}
use Rattle.filter_rule.specs.PlanValue.{PlanValue, table_of_name}
use Rattle.row_view.specs.FieldValue.{FieldValue}
use Rattle.vevent.specs.Columns.{have_columns}
use Rattle.vevent.specs.EventValue.{ChangeValue, EventValue, Field}
use Rattle.source_feed.specs.declared.fault.FeedFault.TheVariants.{ColumnCount}
use Rattle.source_feed.specs.Grammar.{changes_at}
use Rattle.source_feed.specs.GroupValue.{TableChangeValue}
use Rattle.source_feed.specs.Groups.{Block, row_fault}
use Rattle.source_feed.specs.Image.{ImageRows}
use Rattle.source_feed.specs.PastEvents.{PastEvents, last_field, position_of, changes_in}
use Rattle.source_feed.specs.Planned.{source_of, differs, planned_change, PlannedChangeValue, FeedValue}
use Rattle.source_feed.specs.SoundGroups.{sound_groups}
use Rattle.source_feed.specs.SourceValue.{SourceValue, table_in_source}
use Rattle.event_laws.specs.BaseEvents.{IsField, IsRowUnder}
use Rattle.event_laws.specs.Cuts.{IsCut}
use Rattle.event_laws.specs.InForce.{is_of_other, in_force}
use Rattle.event_laws.proofs.BaseLaws.{all-reverse}
use Rattle.event_laws.proofs.InForceLaws.{say_the_columns}
use Rattle.compaction_laws.specs.Base.{IsLeft, insert_of}
use Rattle.compaction_laws.specs.CompactedFeed.{IsFeedOf, groups_to, IsBaseFor}
use Rattle.compaction_laws.specs.Portions.{Portion, event_of, rows_of, IsPortion}
use Rattle.compaction_laws.proofs.FeedLaws.{events_agree}

-- ---- no FIELD in force differs

any-filter : (p q : EventValue → Bool) (xs : List EventValue) → list_any p xs ≡ false → list_any p (filter q xs) ≡ false
any-filter p q [] e = refl
any-filter p q (x ∷ xs) e =
    let both = or_parts (p x) (list_any p xs) e in
    let rest : list_any p (filter q xs) ≡ false = any-filter p q xs both.1 in
    elim (q x) as (λ b. list_any p (cond b (x ∷ filter q xs) (filter q xs)) ≡ false) [ true ↦ ap (λ (b : Bool). b || list_any p (filter q xs)) both.0 ∙ rest | false ↦ rest ]

pub any-reverse : (p : EventValue → Bool) (xs : List EventValue) → list_any p xs ≡ false → list_any p (reverse xs) ≡ false
any-reverse p [] e = refl
any-reverse p (x ∷ xs) e =
    let n = or_parts (p x) (list_any p xs) e in
    ap (list_any p) (reverse-cons x xs) ∙ list_any-append p (reverse xs) (x ∷ []) ∙ ap (λ (b : Bool). b || list_any p (x ∷ [])) (any-reverse p xs n.1) ∙ ap (λ (b : Bool). b || false) n.0

-- what holds of no event of a list holds of none of a front of it
pub any-front : (p : EventValue → Bool) (front behind : List EventValue) → list_any p (front ++ behind) ≡ false → list_any p front ≡ false
any-front p front behind e = (or_parts (list_any p front) (list_any p behind) (sym (list_any-append p front behind) ∙ e)).0

fields_agree : (plan : PlanValue) (source : SourceValue) (history : PastEvents) → list_any (differs plan) history ≡ false → list_any (differs plan) (in_force source history) ≡ false
fields_agree plan source [] e = refl
fields_agree plan source (Field name columns ∷ earlier) e =
    let n = or_parts (differs plan (Field name columns)) (list_any (differs plan) earlier) e in
    let fewer : List EventValue = filter (is_of_other source (table_in_source source name)) (in_force source earlier) in
    ap (λ (b : Bool). b || list_any (differs plan) fewer) n.0 ∙ any-filter (differs plan) (is_of_other source (table_in_source source name)) (in_force source earlier) (fields_agree plan source earlier n.1)
fields_agree plan source (event ∷ earlier) e = fields_agree plan source earlier (or_parts (differs plan event) (list_any (differs plan) earlier) e).1

-- ---- one portion

abbrev inserts_of : ImageRows → List ChangeValue
inserts_of rows = map (λ row. record { before = None; after = Some row.1 }) rows

-- the rows have as many columns
have_so_many : (width : ℕ) (rows : ImageRows) → AllByRecursion (λ row. length row.1 ≡ width) rows → list_all (have_columns width) (inserts_of rows) ≡ true
have_so_many width [] h = refl
have_so_many width (row ∷ rows) h =
    ap (λ (b : Bool). b && list_all (have_columns width) (inserts_of rows)) (eq-eqb (length row.1) width h.0) ∙ have_so_many width rows h.1

row_under : (plan : PlanValue) (history : PastEvents) (portion : Portion) → IsPortion plan history portion → IsRowUnder (source_of plan) (in_force (source_of plan) history) (event_of portion)
row_under plan history portion is =
    let source : SourceValue = source_of plan in
    let table : List ℕ = table_in_source source portion.name in
    let changes : List ChangeValue = inserts_of portion.rows in
    ap (λ (o : Option (List FieldValue)). row_fault (option_map length o) changes) ((say_the_columns source history).columns table ∙ is.known)
    ∙ cond-true (list_all (have_columns (length is.columns)) changes) None (Some ColumnCount) (have_so_many (length is.columns) portion.rows is.fit)

all_under : (plan : PlanValue) (history : PastEvents) (portions : List Portion) → AllByRecursion (IsPortion plan history) portions
    → AllByRecursion (IsRowUnder (source_of plan) (in_force (source_of plan) history)) (map event_of portions)
all_under plan history [] h = tt
all_under plan history (portion ∷ portions) h = (row_under plan history portion h.0, all_under plan history portions h.1)

-- ---- the changes that portions make

map_more : {A B : Type 0} (h : A → Option B) (xs ys : List A) → filter_map h (xs ++ ys) ≡ filter_map h xs ++ filter_map h ys
map_more h [] ys = refl
map_more {A} {B} h (x ∷ xs) ys = ap (cons_option (h x)) (map_more h xs ys) ∙ by (h x)
  where
    by : (o : Option B) → cons_option o (filter_map h xs ++ filter_map h ys) ≡ cons_option o (filter_map h xs) ++ filter_map h ys
    by None = refl
    by (Some y) = refl

portion_inserts : (plan : PlanValue) (table : List ℕ) (t : ℕ) (rows : ImageRows) → table_of_name plan table ≡ Some t → AllByRecursion (λ row. row.0.table ≡ t) rows
    → filter_map (planned_change plan) (changes_in table (inserts_of rows)) ≡ map insert_of rows
portion_inserts plan table t [] e h = refl
portion_inserts plan table t (row ∷ rows) e h =
    let made : ℕ → PlannedChangeValue = λ n. record { table = n; before = None; after = Some row.1 } in
    ap (λ (o : Option ℕ). cons_option (option_map made o) (filter_map (planned_change plan) (changes_in table (inserts_of rows)))) e
    ∙ ap (λ (cs : List PlannedChangeValue). made t ∷ cs) (portion_inserts plan table t rows e h.1)
    ∙ ap (λ (n : ℕ). made n ∷ map insert_of rows) (sym h.0)

all_insert : (plan : PlanValue) (history : PastEvents) (portions : List Portion) → AllByRecursion (IsPortion plan history) portions
    → filter_map (planned_change plan) (flat_map (changes_at (source_of plan)) (map event_of portions)) ≡ map insert_of (rows_of portions)
all_insert plan history [] h = refl
all_insert plan history (portion ∷ portions) h =
    let is : IsPortion plan history portion = h.0 in
    let table : List ℕ = table_in_source (source_of plan) portion.name in
    let later : List TableChangeValue = flat_map (changes_at (source_of plan)) (map event_of portions) in
    map_more (planned_change plan) (changes_in table (inserts_of portion.rows)) later
    ∙ ap (λ (cs : List PlannedChangeValue). cs ++ filter_map (planned_change plan) later) (portion_inserts plan table is.table portion.rows is.planned is.keys)
    ∙ ap (λ (cs : List PlannedChangeValue). map insert_of portion.rows ++ cs) (all_insert plan history portions h.1)
    ∙ sym (map-append insert_of portion.rows (rows_of portions))

-- ---- the base

pub portions_are : (feed : FeedValue) (front behind : List EventValue) (block : Block) (place : EventValue) (portions : List Portion)
    → IsFeedOf feed (front ++ behind) → IsCut (source_of feed.plan) (reverse front) block → position_of (source_of feed.plan) place ≡ Some block.position
    → groups_to feed front ≤ length (sound_groups feed) → AllByRecursion (IsPortion feed.plan (reverse front)) portions
    → IsLeft (sound_groups feed) (groups_to feed front) (rows_of portions)
    → IsBaseFor feed front (reverse (in_force (source_of feed.plan) (reverse front))) (map event_of portions) place block.position (rows_of portions)
portions_are feed front behind block place portions of cut carries sound portions_of left =
    let plan : PlanValue = feed.plan in
    let source : SourceValue = source_of plan in
    let history : PastEvents = reverse front in
    let fields : PastEvents = in_force source history in
    let back : reverse (reverse fields) ≡ fields = reverse-reverse fields in
    let front_agrees : list_any (differs plan) front ≡ false = any-front (differs plan) front behind (events_agree plan (front ++ behind) feed.groups of) in
    record {
      stands = record {
        outside = cut.outside;
        behind_group = cut.last;
        only_fields = all-reverse IsField fields (say_the_columns source history).only_fields;
        columns = λ table. ap (λ (past : PastEvents). last_field source past table) back ∙ (say_the_columns source history).columns table;
        only_rows = subst (λ (past : PastEvents). AllByRecursion (IsRowUnder source past) (map event_of portions)) (sym back) (all_under plan history portions portions_of);
        carries = carries;
        reached = cut.reached;
        from_empty = cut.from_empty;
      };
      sound = sound;
      same_fields = any-reverse (differs plan) fields (fields_agree plan source history (any-reverse (differs plan) front front_agrees));
      left = left;
      inserts = all_insert plan history portions portions_of;
    }
