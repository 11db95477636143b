-- What a cut says of the feed, and the names of its rows' tables.
use Rattle.std.proofs.Common.{◌≡◌, ◌⊎◌, ℕ, zero, suc, ◌-◌, ◌<◌, ◌≤◌, ◌||◌, List, [], ◌∷◌, ◌++◌, length, map, reverse, take, Bool, true, false, Some, Result, Ok, Err, refl, sym, ap, subst, ◌∙◌, inl, inr, arith}
use Rattle.std.proofs.lemmas.Bool.{cases_Bool, cond-true, cond-false}
use Rattle.std.proofs.lemmas.List.{length-append, length-map, reverse-append, reverse-reverse, take_at}
use Rattle.std.proofs.lemmas.Option.{none-some}
use Rattle.std.specs.Cmp.Lexicographic.{same_text}
use Rattle.std.specs.List.{AllByRecursion, list_any}
use Rattle.std.specs.Prelude.{is_none}
use Rattle.std.specs.Str.{bytes_eq}
use Rattle.list_laws.proofs.Fronts.{each}
use Rattle.filter_rule.specs.PlanValue.{PlanValue, table_of_name}
use Rattle.pk_copy.specs.KeyValue.{KeyValue}
use Rattle.row_view.specs.FieldValue.{FieldValue}
use Rattle.row_view.specs.Row.{RowValue}
use Rattle.vevent.specs.Event.{event_at}
use Rattle.vevent.specs.EventValue.{EventValue, Field}
use Rattle.vevent.specs.declared.fault.EventFault.{EventFault}
use Rattle.source_feed.specs.declared.fault.FeedFault.{FeedFault}
use Rattle.source_feed.specs.declared.fault.FeedFault.TheVariants.{FieldsDiffer}
use Rattle.source_feed.specs.EventList.{events_of_feed}
use Rattle.source_feed.specs.GroupValue.{GroupValue, TableChangeValue}
use Rattle.source_feed.specs.Groups.{groups_of, groups}
use Rattle.source_feed.specs.Image.{ImageRows}
use Rattle.source_feed.specs.PastEvents.{PastEvents, last_field}
use Rattle.source_feed.specs.Planned.{source_of, differs, planned_group, planned_groups, groups_under, PlannedGroupValue, FeedValue, IsFeed}
use Rattle.source_feed.specs.SoundGroups.{sound_groups}
use Rattle.source_feed.specs.SourceValue.{SourceValue, table_in_source}
use Rattle.event_laws.specs.InForce.{in_force}
use Rattle.event_laws.specs.Laws.{ChangesHaveColumns, HasColumns, HaveColumns}
use Rattle.event_laws.proofs.BaseLaws.{all-reverse}
use Rattle.event_laws.proofs.InForceLaws.{say_the_columns}
use Rattle.event_laws.proofs.RunLaws.{Ended, ended, front_faultless, groups_behind}
use Rattle.feed_bytes.specs.Cut.{IsCutBehind}
use Rattle.feed_bytes.specs.FieldBytes.{FieldBytesValue, IsNamed, AreInForce}
use Rattle.feed_bytes.proofs.SearchLaws.{to_end}
use Rattle.compaction_laws.specs.Base.{IsLeft}
use Rattle.compaction_laws.specs.CompactedFeed.{groups_to}
use Rattle.compaction_laws.specs.Laws.{LeftRowsHaveColumns, SaysColumnsOf}
use Rattle.compaction_laws.proofs.BytesLaws.{opened_of}
use Rattle.compaction.specs.Compacting.{HasGroup, LosesSome, CutsFeed, loses, is_unknown, have_unknown}
use Rattle.compaction.specs.Private.Written.{IsNameOf, IsOfPlan, AreOfOthers, HasName, AreNamed}
use Rattle.compaction.specs.declared.cut.UnknownTables.{UnknownTables}
use Rattle.compaction.specs.declared.cut.UnknownTables.TheVariants.{Refused, LeftOut}

abbrev Groups : Type 0
Groups = Result (List GroupValue) FeedFault

abbrev Planned : Type 0
Planned = Result (List PlannedGroupValue) FeedFault

abbrev no_planned : FeedFault → Planned
no_planned fault = Err fault

abbrev some_planned : List PlannedGroupValue → Planned
some_planned groups = Ok groups

planned_none : {P : Type 0} (fault : FeedFault) (made : List PlannedGroupValue) → no_planned fault ≡ some_planned made → P
planned_none fault made e = cc

same_planned : (a b : List PlannedGroupValue) → some_planned a ≡ some_planned b → a ≡ b
same_planned a b e = cc

abbrev Read : Type 0
Read = Result EventValue EventFault

abbrev good : EventValue → Read
good event = Ok event

same_good : (a b : EventValue) → good a ≡ good b → a ≡ b
same_good a b e = cc

-- ---- the groups that a feed has

record IsOpenAs (bytes : List ℕ) (feed : FeedValue) : Type 0 where
  all : List GroupValue
  are : groups bytes (source_of feed.plan) ≡ Ok all
  many : length feed.groups ≡ length all

given : (plan : PlanValue) (events : List EventValue) (r : Groups) (made : List PlannedGroupValue) → planned_groups plan events r ≡ Ok made → (all : List GroupValue) × (r ≡ Ok all) × (length made ≡ length all)
given plan events (Ok all) made e = elim (cases_Bool (list_any (differs plan) events)) [
  | inl differ ↦ planned_none FieldsDiffer made (sym (cond-true (list_any (differs plan) events) (no_planned FieldsDiffer) (some_planned (map (planned_group plan) all)) differ) ∙ e)
  | inr agree ↦ (
    all,
    refl,
    ap length (sym (same_planned (map (planned_group plan) all) made (sym (cond-false (list_any (differs plan) events) (no_planned FieldsDiffer) (some_planned (map (planned_group plan) all)) agree) ∙ e)))
        ∙ length-map all (planned_group plan),
  )
]
given plan events (Err fault) made e = planned_none fault made e

open_as : (feed : FeedValue) (bytes : List ℕ) → groups_under bytes feed.plan ≡ Ok feed.groups → IsOpenAs bytes feed
open_as feed bytes under =
    let g = given feed.plan (events_of_feed bytes).items (groups bytes (source_of feed.plan)) feed.groups under in
    record { all = g.0; are = g.1; many = g.2 }

-- a cut stands behind one of them
within : (feed : FeedValue) (bytes : List ℕ) (number : ℕ) (fields : List FieldBytesValue) (place : List ℕ) (others : List (List ℕ)) (rest : List ℕ) → IsOpenAs bytes feed
    → IsCutBehind bytes (source_of feed.plan) number fields place others rest → number ≤ length feed.groups
within feed bytes number fields place others rest o cut =
    let source : SourceValue = source_of feed.plan in
    let events : List EventValue = (events_of_feed bytes).items in
    let w : Ended source (reverse events) o.all = ended source events o.all (to_end bytes source o.all o.are) in
    let behind : List EventValue = cut.behind ++ cut.later in
    let more = groups_behind source (reverse behind) (reverse cut.front) in
    let same : o.all ≡ groups_of source (reverse cut.front) ++ more.0 =
    sym w.are ∙ ap (λ r. groups_of source (reverse r.items)) cut.events.are ∙ ap (groups_of source) (reverse-append cut.front behind) ∙ more.1 in
    omega (arith, cut.many, o.many, ap length same, length-append (groups_of source (reverse cut.front)) more.0)

positive : (bytes : List ℕ) (source : SourceValue) (number : ℕ) (fields : List FieldBytesValue) (place : List ℕ) (others : List (List ℕ)) (rest : List ℕ) → IsCutBehind bytes source number fields place others rest → 0 < number
positive bytes source number fields place others rest cut =
    let last = cut.cut.last in omega (arith, cut.many, ap length last.groups, length-append last.before (last.last ∷ []))

-- ---- tables whose FIELDs are in force

-- a FIELD is of a table of the plan
abbrev IsKnown : PlanValue → EventValue → Type 0
IsKnown plan (Field name columns) = is_none (table_of_name plan (table_in_source (source_of plan) name)) ≡ false
IsKnown plan event = Unit {0}

known_name : (plan : PlanValue) (events : PastEvents) (name : List ℕ) (columns : List FieldValue) → AllByRecursion (IsKnown plan) events → last_field (source_of plan) events name ≡ Some columns → is_none (table_of_name plan name) ≡ false
known_name plan [] name columns h e = absurd (none-some columns e)
known_name plan (Field other c ∷ events) name columns h e =
    let mine : List ℕ = table_in_source (source_of plan) other in
    elim (cases_Bool (bytes_eq mine name)) [
      | inl same ↦ subst (λ (n : List ℕ). is_none (table_of_name plan n) ≡ false) (same_text mine name (sym same)) h.0
      | inr apart ↦ known_name plan events name columns h.1 (sym (cond-false (bytes_eq mine name) (Some c) (last_field (source_of plan) events name) apart) ∙ e)
    ]
known_name plan (event ∷ events) name columns h e = known_name plan events name columns h.1 e

known_events : (plan : PlanValue) (fields : List FieldBytesValue) (events : List EventValue) → AllByRecursion IsNamed fields → AllByRecursion (IsOfPlan plan) fields
    → map (λ (field : FieldBytesValue). event_at field.bytes) fields ≡ map good events → AllByRecursion (IsKnown plan) events
known_events plan [] [] n h e = tt
known_events plan [] (event ∷ events) n h e = cc
known_events plan (field ∷ fields) [] n h e = cc
known_events plan (field ∷ fields) (event ∷ events) n h e =
    let here : event_at field.bytes ≡ good event = cc in
    let others : map (λ (f : FieldBytesValue). event_at f.bytes) fields ≡ map good events = cc in
    let is : Field field.name n.0.0 ≡ event = same_good (Field field.name n.0.0) event (sym n.0.1 ∙ here) in
    (subst (IsKnown plan) is h.0, known_events plan fields events n.1 h.1 others)

none_unknown : (plan : PlanValue) (past : PastEvents) (changes : List TableChangeValue) → ((name : List ℕ) (columns : List FieldValue) → last_field (source_of plan) past name ≡ Some columns → is_none (table_of_name plan name) ≡ false)
    → AllByRecursion (λ (change : TableChangeValue). HasColumns (source_of plan) past change.table) changes → list_any (is_unknown plan) changes ≡ false
none_unknown plan past [] known h = refl
none_unknown plan past (change ∷ changes) known h =
    ap (λ (b : Bool). b || list_any (is_unknown plan) changes) (known change.table h.0.0 h.0.1) ∙ none_unknown plan past changes known h.1

none_have : (plan : PlanValue) (past : PastEvents) (all : List GroupValue) → ((name : List ℕ) (columns : List FieldValue) → last_field (source_of plan) past name ≡ Some columns → is_none (table_of_name plan name) ≡ false)
    → AllByRecursion (λ (group : GroupValue). AllByRecursion (λ (change : TableChangeValue). HasColumns (source_of plan) past change.table) group.changes) all → have_unknown plan all ≡ false
none_have plan past [] known h = refl
none_have plan past (group ∷ all) known h =
    ap (λ (b : Bool). b || have_unknown plan all) (none_unknown plan past group.changes known h.0) ∙ none_have plan past all known h.1

-- where all FIELDs in force are of tables of the plan no change before them is of another
none_lost : ChangesHaveColumns → (plan : PlanValue) (bytes : List ℕ) (number : ℕ) (fields : List FieldBytesValue) (place : List ℕ) (others : List (List ℕ)) (rest : List ℕ) (all : List GroupValue)
    → AllByRecursion (IsOfPlan plan) fields → groups bytes (source_of plan) ≡ Ok all → IsCutBehind bytes (source_of plan) number fields place others rest → have_unknown plan (take number all) ≡ false
none_lost law plan bytes number fields place others rest all known are cut =
    let source : SourceValue = source_of plan in
    let past : PastEvents = reverse cut.front in
    let behind : List EventValue = cut.behind ++ cut.later in
    let events : List EventValue = (events_of_feed bytes).items in
    let w : Ended source (reverse events) all = ended source events all (to_end bytes source all are) in
    let parts : events ≡ cut.front ++ behind = ap (λ r. r.items) cut.events.are in
    let split : reverse events ≡ reverse behind ++ past = ap reverse parts ∙ reverse-append cut.front behind in
    let old : Ended source (reverse behind ++ past) all = subst (λ (p : PastEvents). Ended source p all) split w in
    let more = groups_behind source (reverse behind) past in
    let same : all ≡ groups_of source past ++ more.0 = sym old.are ∙ more.1 in
    let first : take number all ≡ groups_of source past = ap (take number) same ∙ take_at (groups_of source past) more.0 number cut.many in
    let have : HaveColumns source past = law source past (front_faultless source (reverse behind) past old.faultless) in
    let force : PastEvents = in_force source past in
    let events_known : AllByRecursion (IsKnown plan) force =
    subst (λ (es : PastEvents). AllByRecursion (IsKnown plan) es) (reverse-reverse force) (all-reverse (IsKnown plan) (reverse force) (known_events plan fields (reverse force) cut.in_force.named known cut.in_force.events)) in
    ap (have_unknown plan) first
    ∙ none_have plan past (groups_of source past) (λ name columns said. known_name plan force name columns events_known ((say_the_columns source past).columns name ∙ said)) have

pub none_loses : ChangesHaveColumns → (plan : PlanValue) (bytes : List ℕ) (number : ℕ) (fields : List FieldBytesValue) (unknown : UnknownTables) → AllByRecursion (IsOfPlan plan) fields
    → (all : List GroupValue) (place : List ℕ) (others : List (List ℕ)) (rest : List ℕ) → groups bytes (source_of plan) ≡ Ok all → IsCutBehind bytes (source_of plan) number fields place others rest → false ≡ loses plan unknown (take number all)
none_loses law plan bytes number fields Refused known all place others rest are cut = sym (none_lost law plan bytes number fields place others rest all known are cut)
none_loses law plan bytes number fields LeftOut known all place others rest are cut = refl

-- a cut that is found and loses nothing
pub cuts : (feed : FeedValue) (bytes : List ℕ) (unknown : UnknownTables) (number : ℕ) (fields : List FieldBytesValue) (place : List ℕ) (others : List (List ℕ)) (rest : List ℕ) (lost : Bool)
    → groups_under bytes feed.plan ≡ Ok feed.groups
    → ((all : List GroupValue) → groups bytes (source_of feed.plan) ≡ Ok all → IsCutBehind bytes (source_of feed.plan) number fields place others rest)
    → ((all : List GroupValue) → groups bytes (source_of feed.plan) ≡ Ok all → lost ≡ loses feed.plan unknown (take number all)) → lost ≡ false
    → CutsFeed feed bytes unknown number fields place others rest
cuts feed bytes unknown number fields place others rest lost under found said keeps =
    let o : IsOpenAs bytes feed = open_as feed bytes under in
    let cut : IsCutBehind bytes (source_of feed.plan) number fields place others rest = found o.all o.are in
    record { has = record { some = positive bytes (source_of feed.plan) number fields place others rest cut; within = within feed bytes number fields place others rest o cut }; keeps = λ all are. sym (said all are) ∙ keeps; cut = cut }

-- where none is found there is no such group
pub no_cut : (feed : FeedValue) (bytes : List ℕ) (number : ℕ) → groups_under bytes feed.plan ≡ Ok feed.groups
    → ((all : List GroupValue) → groups bytes (source_of feed.plan) ≡ Ok all → (number ≡ 0) ⊎ (length all < number)) → (number ≡ 0) ⊎ (length feed.groups < number)
no_cut feed bytes number under none =
    let o : IsOpenAs bytes feed = open_as feed bytes under in
    elim (none o.all o.are) [ inl none ↦ inl none | inr beyond ↦ inr (omega (arith, beyond, o.many)) ]

-- and where one is found some change may be lost
pub loses_some : (feed : FeedValue) (bytes : List ℕ) (unknown : UnknownTables) (number : ℕ) (fields : List FieldBytesValue) (place : List ℕ) (others : List (List ℕ)) (rest : List ℕ) (lost : Bool)
    → groups_under bytes feed.plan ≡ Ok feed.groups
    → ((all : List GroupValue) → groups bytes (source_of feed.plan) ≡ Ok all → IsCutBehind bytes (source_of feed.plan) number fields place others rest)
    → ((all : List GroupValue) → groups bytes (source_of feed.plan) ≡ Ok all → lost ≡ loses feed.plan unknown (take number all)) → lost ≡ true
    → HasGroup feed number × LosesSome feed bytes unknown number
loses_some feed bytes unknown number fields place others rest lost under found said is =
    let o : IsOpenAs bytes feed = open_as feed bytes under in
    let cut : IsCutBehind bytes (source_of feed.plan) number fields place others rest = found o.all o.are in (
      record { some = positive bytes (source_of feed.plan) number fields place others rest cut; within = within feed bytes number fields place others rest o cut },
      record { all = o.all; are = o.are; lost = sym (said o.all o.are) ∙ is },
    )

-- ---- the first so many of some groups

take_next : {X : Type 0} (n : ℕ) (x : X) (xs : List X) → 0 < n → take n (x ∷ xs) ≡ x ∷ take (n - 1) xs
take_next zero x xs some = absurd (omega (arith, some))
take_next {X} (suc n) x xs some = (let less : n ≡ suc n - 1 = omega arith in ap (λ (k : ℕ). x ∷ take k xs) less)

-- a group without such a change
pub skip_none : (plan : PlanValue) (n : ℕ) (group : GroupValue) (later : List GroupValue) → 0 < n → list_any (is_unknown plan) group.changes ≡ false
    → have_unknown plan (take n (group ∷ later)) ≡ have_unknown plan (take (n - 1) later)
skip_none plan n group later some none = ap (have_unknown plan) (take_next n group later some) ∙ ap (λ (b : Bool). b || have_unknown plan (take (n - 1) later)) none

-- ---- names

-- no FIELD of this table
abbrev IsOther : PlanValue → ℕ → EventValue → Type 0
IsOther plan table (Field name columns) = IsNameOf plan table name → ⊥
IsOther plan table event = Unit {0}

no_columns : (plan : PlanValue) (table : ℕ) (events : PastEvents) (name : List ℕ) → table_of_name plan name ≡ Some table → AllByRecursion (IsOther plan table) events → (columns : List FieldValue)
    → last_field (source_of plan) events name ≡ Some columns → ⊥
no_columns plan table [] name n h columns e = none-some columns e
no_columns plan table (Field other c ∷ events) name n h columns e =
    let mine : List ℕ = table_in_source (source_of plan) other in
    elim (cases_Bool (bytes_eq mine name)) [
      | inl same ↦ h.0 (ap (table_of_name plan) (same_text mine name (sym same)) ∙ n)
      | inr apart ↦ no_columns plan table events name n h.1 columns (sym (cond-false (bytes_eq mine name) (Some c) (last_field (source_of plan) events name) apart) ∙ e)
    ]
no_columns plan table (event ∷ events) name n h columns e = no_columns plan table events name n h.1 columns e

all_other : (plan : PlanValue) (table : ℕ) (fields : List FieldBytesValue) (events : List EventValue) → AllByRecursion IsNamed fields → AreOfOthers plan table fields
    → map (λ (field : FieldBytesValue). event_at field.bytes) fields ≡ map good events → AllByRecursion (IsOther plan table) events
all_other plan table [] [] n h e = tt
all_other plan table [] (event ∷ events) n h e = cc
all_other plan table (field ∷ fields) [] n h e = cc
all_other plan table (field ∷ fields) (event ∷ events) n h e =
    let here : event_at field.bytes ≡ good event = cc in
    let others : map (λ (f : FieldBytesValue). event_at f.bytes) fields ≡ map good events = cc in
    let is : Field field.name n.0.0 ≡ event = same_good (Field field.name n.0.0) event (sym n.0.1 ∙ here) in
    (subst (IsOther plan table) is h.0, all_other plan table fields events n.1 h.1 others)

has_name : (plan : PlanValue) (past : PastEvents) (fields : List FieldBytesValue) → AreInForce (source_of plan) past fields → (table : ℕ) (columns : List FieldValue) → SaysColumnsOf plan past table columns
    → HasName plan fields table
has_name plan past fields are table columns s others =
    let force : PastEvents = in_force (source_of plan) past in
    let back : AllByRecursion (IsOther plan table) (reverse (reverse force)) = all-reverse (IsOther plan table) (reverse force) (all_other plan table fields (reverse force) are.named others are.events) in
    no_columns plan table force s.name s.planned (subst (λ (es : PastEvents). AllByRecursion (IsOther plan table) es) (reverse-reverse force) back) columns
    ((say_the_columns (source_of plan) past).columns s.name ∙ s.said)

-- each row that is left has a name of its table among the FIELDs in force
pub all_named : LeftRowsHaveColumns → (feed : FeedValue) (bytes : List ℕ) (unknown : UnknownTables) (number : ℕ) (fields : List FieldBytesValue) (place : List ℕ) (others : List (List ℕ)) (rest : List ℕ) (rows : ImageRows)
    → IsFeed feed → groups_under bytes feed.plan ≡ Ok feed.groups → CutsFeed feed bytes unknown number fields place others rest → number ≤ length (sound_groups feed) → IsLeft (sound_groups feed) number rows
    → AreNamed feed.plan fields rows
all_named law feed bytes unknown number fields place others rest rows is_feed under c sound left =
    let source : SourceValue = source_of feed.plan in
    let cut : IsCutBehind bytes source number fields place others rest = c.cut in
    let past : PastEvents = reverse cut.front in
    let many : number ≡ groups_to feed cut.front = sym cut.many in
    each (λ (row : KeyValue × RowValue). (columns : List FieldValue) × SaysColumnsOf feed.plan past row.0.table columns × (length row.1 ≡ length columns))
    (λ (row : KeyValue × RowValue). HasName feed.plan fields row.0.table) (λ row fits. has_name feed.plan past fields cut.in_force row.0.table fits.0 fits.1) rows
    (
    law feed cut.front (cut.behind ++ cut.later) rows is_feed (opened_of feed bytes (cut.front ++ (cut.behind ++ cut.later)) under cut.events)
    (subst (λ (n : ℕ). n ≤ length (sound_groups feed)) many sound) (subst (λ (n : ℕ). IsLeft (sound_groups feed) n rows) many left)
    )
