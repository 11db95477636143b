-- Messages in the place of a feed's first ones open as the compacted feed.
use Rattle.std.proofs.Common.{◌≡◌, ℕ, ◌-◌, ◌^◌, ◌<◌, List, [], ◌∷◌, ◌++◌, length, map, reverse, nat_lt, true, None, Some, get_or, Result, Ok, Err, refl, sym, ap, ◌∙◌, arith, inl, inr}
use Rattle.std.proofs.lemmas.Bool.{cases_Bool, cond-true, cond-false}
use Rattle.std.proofs.lemmas.List.Quantifiers.{position-Some}
use Rattle.std.proofs.lemmas.Option.{same_Some}
use Rattle.std.specs.Cmp.Lexicographic.{same_text}
use Rattle.std.specs.List.{AllByRecursion}
use Rattle.std.specs.Str.{bytes_eq}
use Rattle.proto_wire.specs.Reading.{Reading}
use Rattle.filter_rule.specs.PlanTable.{TableValue}
use Rattle.filter_rule.specs.PlanValue.{PlanValue, table_of_name}
use Rattle.pk_copy.specs.KeyValue.{KeyValue}
use Rattle.row_view.specs.FieldValue.{FieldValue}
use Rattle.vevent.specs.EventValue.{EventValue}
use Rattle.source_feed.specs.declared.fault.FeedFault.{FeedFault}
use Rattle.source_feed.specs.declared.fault.FeedFault.TheVariants.{FeedTooLong}
use Rattle.source_feed.specs.EventList.{events_of_feed}
use Rattle.source_feed.specs.GroupValue.{GroupValue}
use Rattle.source_feed.specs.Groups.{groups_in, groups}
use Rattle.source_feed.specs.History.{RowValue}
use Rattle.source_feed.specs.Image.{ImageRows}
use Rattle.source_feed.specs.PastEvents.{PastEvents, last_field}
use Rattle.source_feed.specs.Planned.{source_of, planned_groups, groups_under, PlannedGroupValue, FeedValue, IsFeed}
use Rattle.source_feed.specs.SourceValue.{SourceValue, table_in_source}
use Rattle.event_laws.specs.BaseEvents.{base_events}
use Rattle.event_laws.specs.InForce.{in_force}
use Rattle.event_laws.specs.Laws.{HaveEvents}
use Rattle.event_laws.proofs.RestLaws.{whole_behind}
use Rattle.event_laws.proofs.RunLaws.{not_given}
use Rattle.compaction_laws.specs.CompactedBytes.{ReplacesFront, OpensCompacted}
use Rattle.compaction_laws.specs.CompactedFeed.{IsFeedOf, groups_to, IsBaseFor, IsCompactedFeed}
use Rattle.compaction_laws.specs.Portions.{Portion, event_of, rows_of, IsPortion, IsOfOneTable}
use Rattle.compaction_laws.specs.Laws.{FeedsStayWhatTheyWere, LeftRowsHaveColumns, SaysColumnsOf}
use Rattle.compaction_laws.proofs.FeedLaws.{bytes_open}
use Rattle.compaction_laws.proofs.PortionLaws.{portions_are}

-- ---- what opens under a plan

abbrev Groups : Type 0
Groups = Result (List GroupValue) FeedFault

abbrev Planned : Type 0
Planned = Result (List PlannedGroupValue) FeedFault

abbrev no_planned : FeedFault → Planned
no_planned fault = Err fault

abbrev some_planned : List PlannedGroupValue → Planned
some_planned groups = Ok groups

planned_none : {P : Type 0} (fault : FeedFault) (made : List PlannedGroupValue) → no_planned fault ≡ some_planned made → P
planned_none fault made e = cc

-- groups under a plan are those of some groups
given_groups : (plan : PlanValue) (events : List EventValue) (r : Groups) (made : List PlannedGroupValue) → planned_groups plan events r ≡ Ok made → (all : List GroupValue) × (r ≡ Ok all)
given_groups plan events (Ok all) made e = (all, refl)
given_groups plan events (Err fault) made e = planned_none fault made e

short_groups : (bytes : List ℕ) (source : SourceValue) (all : List GroupValue) → groups bytes source ≡ Ok all → groups bytes source ≡ groups_in source (events_of_feed bytes)
short_groups bytes source all e = elim (cases_Bool (nat_lt (length bytes) (2 ^ 31))) [
  | inl short ↦ cond-true (nat_lt (length bytes) (2 ^ 31)) (groups_in source (events_of_feed bytes)) (Err FeedTooLong) short
  | inr long ↦ not_given all FeedTooLong (sym (cond-false (nat_lt (length bytes) (2 ^ 31)) (groups_in source (events_of_feed bytes)) (Err FeedTooLong) long) ∙ e)
]

-- ---- portions

-- a number is that of one name
one_name : (plan : PlanValue) (a b : List ℕ) (t : ℕ) → table_of_name plan a ≡ Some t → table_of_name plan b ≡ Some t → a ≡ b
one_name plan a b t e f =
    let none : TableValue = record { name = []; columns = []; key = []; vindex = None; kept = [] } in
    let there : List ℕ = (get_or plan.tables t none).name in
    let first : bytes_eq there a ≡ true = (position-Some (λ (table : TableValue). bytes_eq table.name a) plan.tables t none e).1 in
    let second : bytes_eq there b ≡ true = (position-Some (λ (table : TableValue). bytes_eq table.name b) plan.tables t none f).1 in
    sym (same_text there a (sym first)) ∙ same_text there b (sym second)

-- a row's table has columns that a history says, and the row has as many
abbrev Fits : PlanValue → PastEvents → KeyValue × RowValue → Type 0
Fits plan history row = (columns : List FieldValue) × SaysColumnsOf plan history row.0.table columns × (length row.1 ≡ length columns)

module _ (plan : PlanValue) (history : PastEvents) (name : List ℕ) (t : ℕ) (planned : table_of_name plan name ≡ Some t) where
  said : (row : KeyValue × RowValue) (f : Fits plan history row) → row.0.table ≡ t → last_field (source_of plan) history name ≡ Some f.0
  said row f e = ap (last_field (source_of plan) history) (one_name plan name f.1.name t planned (f.1.planned ∙ ap Some e)) ∙ f.1.said

  all_fit : (columns : List FieldValue) (rows : ImageRows) → last_field (source_of plan) history name ≡ Some columns → AllByRecursion (λ row. row.0.table ≡ t) rows → AllByRecursion (Fits plan history) rows
      → AllByRecursion (λ row. length row.1 ≡ length columns) rows
  all_fit columns [] known keys fits = tt
  all_fit columns (row ∷ rows) known keys fits =
      let same : fits.0.0 ≡ columns = same_Some fits.0.0 columns (sym (said row fits.0 keys.0) ∙ known) in
      (fits.0.2 ∙ ap length same, all_fit columns rows known keys.1 fits.1)

  columns_known : (rows : ImageRows) → 0 < length rows → AllByRecursion (λ row. row.0.table ≡ t) rows → AllByRecursion (Fits plan history) rows
      → (columns : List FieldValue) × (last_field (source_of plan) history name ≡ Some columns)
  columns_known [] some keys fits = absurd (omega (arith, some))
  columns_known (row ∷ rows) some keys fits = (fits.0.0, said row fits.0 keys.0)

is_portion : (plan : PlanValue) (history : PastEvents) (portion : Portion) → IsOfOneTable plan portion → AllByRecursion (Fits plan history) portion.rows → IsPortion plan history portion
is_portion plan history portion is fits =
    let short : List ℕ = table_in_source (source_of plan) portion.name in
    let k = columns_known plan history short is.table is.planned portion.rows is.some is.keys fits in
    record { table = is.table; planned = is.planned; columns = k.0; known = k.1; keys = is.keys; fit = all_fit plan history short is.table is.planned k.0 portion.rows k.1 is.keys fits }

all_parts : {X : Type 0} (P : X → Type 0) (xs ys : List X) → AllByRecursion P (xs ++ ys) → AllByRecursion P xs × AllByRecursion P ys
all_parts P [] ys h = (tt, h)
all_parts P (x ∷ xs) ys h = let rest = all_parts P xs ys h.1 in ((h.0, rest.0), rest.1)

are_portions : (plan : PlanValue) (history : PastEvents) (portions : List Portion) → AllByRecursion (IsOfOneTable plan) portions → AllByRecursion (Fits plan history) (rows_of portions)
    → AllByRecursion (IsPortion plan history) portions
are_portions plan history [] are fits = tt
are_portions plan history (p ∷ portions) are fits =
    let both = all_parts (Fits plan history) p.rows (rows_of portions) fits in
    (is_portion plan history p are.0 both.0, are_portions plan history portions are.1 both.1)

-- ---- the bytes

-- bytes that open as a feed say it by their events
pub opened_of : (feed : FeedValue) (bytes : List ℕ) (events : List EventValue) → groups_under bytes feed.plan ≡ Ok feed.groups → HaveEvents bytes events → IsFeedOf feed events
opened_of feed bytes events opened have =
    let plan : PlanValue = feed.plan in
    let all = given_groups plan (events_of_feed bytes).items (groups bytes (source_of plan)) feed.groups opened in
    ap (λ (read : Reading EventValue FeedFault). planned_groups plan events (groups_in (source_of plan) read)) (sym have.are)
    ∙ ap (planned_groups plan events) (sym (short_groups bytes (source_of plan) all.0 all.1))
    ∙ ap (λ (read : Reading EventValue FeedFault). planned_groups plan read.items (groups bytes (source_of plan))) (sym have.are)
    ∙ opened

module _ (stay : FeedsStayWhatTheyWere) (columns : LeftRowsHaveColumns) (feed : FeedValue) (bytes : List ℕ) (front behind : List EventValue) (base rest : List ℕ) (r : ReplacesFront feed front base) (whole : IsFeed feed)
    (opened : groups_under bytes feed.plan ≡ Ok feed.groups) (all_events : HaveEvents bytes (front ++ behind)) (others : HaveEvents rest behind) (short : length (base ++ rest) < 2 ^ 31) where
  abbrev plan : PlanValue
  plan = feed.plan

  abbrev source : SourceValue
  source = source_of plan

  is_of : IsFeedOf feed (front ++ behind)
  is_of = opened_of feed bytes (front ++ behind) opened all_events

  portions : AllByRecursion (IsPortion plan (reverse front)) r.portions
  portions = are_portions plan (reverse front) r.portions r.each_portion (columns feed front behind (rows_of r.portions) whole is_of r.sound r.left)

  abbrev fields : List EventValue
  fields = reverse (in_force source (reverse front))

  abbrev events : List EventValue
  events = base_events fields (map event_of r.portions) r.place ++ behind

  base_for : IsBaseFor feed front fields (map event_of r.portions) r.place r.block.position (rows_of r.portions)
  base_for = portions_are feed front behind r.block r.place r.portions is_of r.cut r.carries r.sound portions r.left

  made : IsCompactedFeed feed (groups_to feed front - 1) events
  made = stay feed front behind fields (map event_of r.portions) r.place r.block.position (rows_of r.portions) whole is_of base_for

  have : HaveEvents (base ++ rest) events
  have = whole_behind base rest (base_events fields (map event_of r.portions) r.place) behind r.have others

  pub opens_compacted : OpensCompacted bytes feed.plan (groups_to feed front - 1) (base ++ rest)
  opens_compacted = record {
    old = feed;
    under = refl;
    opened = opened;
    events = events;
    have = have;
    compacted = made;
    opens = ap (groups_under (base ++ rest)) (sym made.same_plan) ∙ bytes_open feed (groups_to feed front - 1) events made (base ++ rest) have short;
  }
