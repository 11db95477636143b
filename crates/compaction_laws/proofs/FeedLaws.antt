-- A feed of whose events a base stands for the front is a compacted feed.
use Rattle.std.proofs.Common.{◌≡◌, ℕ, zero, suc, ◌+◌, ◌-◌, ◌^◌, ◌<◌, ◌≤◌, Bool, false, cond, ◌||◌, List, [], ◌∷◌, ◌++◌, length, map, take, drop, reverse, nat_lt, Option, Some, None, option_map, Result, Ok, Err, slice_get, refl, sym, ap, subst, ◌∙◌, arith, inl, inr, lt-ltb}
use Rattle.std.proofs.lemmas.Bool.{cases_Bool, cases_lt, cond-true, cond-false, or_parts}
use Rattle.std.proofs.lemmas.List.{length-append, length-map, length-drop, reverse-append, append_assoc}
use Rattle.std.proofs.lemmas.List.Folds.{list_any-append}
use Rattle.std.proofs.lemmas.Option.{same_Some, none-some, slice_get-map}
use Rattle.std.specs.List.{AllByRecursion, list_any}
use Rattle.std.specs.Result.{ok_prefix}
use Rattle.list_laws.proofs.Places.{place_of}
use Rattle.list_laws.specs.Outcome.{◌>>=◌}
use Rattle.filter_rule.specs.PlanValue.{PlanValue}
use Rattle.pk_copy.specs.KeyValue.{KeyValue}
use Rattle.pk_copy.specs.Marks.{Marks, is_inside}
use Rattle.proto_wire.specs.Reading.{Reading}
use Rattle.vevent.specs.EventValue.{EventValue, Begin, Commit, Row, Field}
use Rattle.source_feed.specs.declared.fault.FeedFault.{FeedFault}
use Rattle.source_feed.specs.declared.fault.FeedFault.TheVariants.{FieldsDiffer, FeedTooLong}
use Rattle.source_feed.specs.EventList.{events_of_feed}
use Rattle.source_feed.specs.GroupValue.{Position, GroupValue}
use Rattle.source_feed.specs.Groups.{groups_of, groups_in}
use Rattle.source_feed.specs.History.{KeptRow, kept_of, kept_at}
use Rattle.source_feed.specs.Image.{ImageRows}
use Rattle.source_feed.specs.PastEvents.{PastEvents, position_of}
use Rattle.source_feed.specs.Planned.{source_of, differs, planned_group, planned_groups, groups_under, PlannedGroupValue, PlannedChangeValue, FeedValue, IsFeed}
use Rattle.source_feed.specs.Positions.{IsNumberAt}
use Rattle.source_feed.specs.Prepared.{IsPrepared, IsTouchUnder}
use Rattle.source_feed.specs.SoundGroups.{sound_groups}
use Rattle.source_feed.specs.SourceValue.{SourceValue}
use Rattle.source_feed.specs.Touches.{TouchValue, PreparedValue, touches_of, prepared, group_at}
use Rattle.source_feed.proofs.PreparedLaws.{group_whole}
use Rattle.source_feed.proofs.SoundGroupLaws.{IsGroupOf, group_of}
use Rattle.source_feed.proofs.SoundLaws.{touches_by_change}
use Rattle.board_laws.specs.Cut.{cut_of}
use Rattle.board_laws.specs.KeptRows.{passed_rows, kept_row, kept_rows}
use Rattle.board_laws.proofs.KeptList.{list-is_passed, passed-is_list}
use Rattle.board_laws.proofs.History.{passed_at-take}
use Rattle.board_laws.proofs.Lookups.{Ties}
use Rattle.checkpoint_laws.specs.Resumed.{resumed_state}
use Rattle.event_laws.specs.Alike.{lowered_group}
use Rattle.event_laws.specs.BaseEvents.{base_events, IsRowUnder, HasLast}
use Rattle.event_laws.specs.Laws.{first_group, groups_to_end, FeedsAreCompacted, HaveEvents}
use Rattle.event_laws.proofs.RunLaws.{Ended, ended, groups_behind}
use Rattle.compaction_laws.specs.Base.{IsLeft, base_group, AreGroupsUnder}
use Rattle.compaction_laws.specs.Compacted.{lowered, compacted, IsBaseOf, StaysFrom}
use Rattle.compaction_laws.specs.CompactedFeed.{IsFeedOf, groups_to, IsBaseFor, IsCompactedFeed}
use Rattle.compaction_laws.proofs.BaseLaws.{all-each, base_of_left}
use Rattle.compaction_laws.proofs.HistoryLaws.{stays_from}

-- ---- lists

map-drop : {A B : Type 0} (f : A → B) (n : ℕ) (xs : List A) → map f (drop n xs) ≡ drop n (map f xs)
map-drop f zero xs = refl
map-drop f (suc n) [] = refl
map-drop f (suc n) (x ∷ xs) = map-drop f n xs

drop-front : {A E : Type 0} (xs : List (Result A E)) (n : ℕ) → n ≤ length (ok_prefix xs) → ok_prefix (drop n xs) ≡ drop n (ok_prefix xs)
drop-front xs zero le = refl
drop-front [] (suc n) le = absurd (omega (arith, le))
drop-front (Ok x ∷ xs) (suc n) le = drop-front xs n (omega (arith, le))
drop-front (Err e ∷ xs) (suc n) le = absurd (omega (arith, le))

-- an element behind a place, counted from there
slice_get-drop : {A : Type 0} (n : ℕ) (xs : List A) (i : ℕ) (x : A) → n ≤ i → slice_get xs i ≡ Some x → slice_get (drop n xs) (i - n) ≡ Some x
slice_get-drop zero xs i x le e = let same : i - zero ≡ i = omega arith in ap (slice_get xs) same ∙ e
slice_get-drop (suc n) [] i x le e = absurd (none-some x e)
slice_get-drop (suc n) (y ∷ xs) zero x le e = absurd (omega (arith, le))
slice_get-drop (suc n) (y ∷ xs) (suc i) x le e = let same : suc i - suc n ≡ i - n = omega arith in ap (slice_get (drop n xs)) same ∙ slice_get-drop n xs i x (omega (arith, le)) e

slice_get-at : {A : Type 0} (front : List A) (x : A) (rest : List A) → slice_get (front ++ x ∷ rest) (length front) ≡ Some x
slice_get-at [] x rest = refl
slice_get-at (y ∷ front) x rest = slice_get-at front x rest

-- ---- a group with another number

abbrev lowered_planned : ℕ → PlannedGroupValue → PlannedGroupValue
lowered_planned fewer group = record group { number = group.number - fewer }

planned_lowered : (plan : PlanValue) (fewer : ℕ) (groups : List GroupValue) → map (planned_group plan) (map (lowered_group fewer) groups) ≡ map (lowered_planned fewer) (map (planned_group plan) groups)
planned_lowered plan fewer [] = refl
planned_lowered plan fewer (g ∷ groups) = ap (λ (gs : List PlannedGroupValue). lowered_planned fewer (planned_group plan g) ∷ gs) (planned_lowered plan fewer groups)

abbrev Answer : Type 0
Answer = Result (List TouchValue) FeedFault

abbrev some_touches : List TouchValue → Answer
some_touches touches = Ok touches

abbrev no_touches : FeedFault → Answer
no_touches fault = Err fault

abbrev Made : Type 0
Made = Result PreparedValue FeedFault

abbrev good : PreparedValue → Made
good group = Ok group

-- a number is named by faults alone: a group is sound under any number, with the same touches, or under none
data Alike (plan : PlanValue) (fewer : ℕ) (group : PlannedGroupValue) : Type 0 where
  both : (p : PreparedValue) → prepared plan group ≡ Ok p → prepared plan (lowered_planned fewer group) ≡ Ok (lowered fewer p) → Alike plan fewer group
  neither : (one other : FeedFault) → prepared plan group ≡ Err one → prepared plan (lowered_planned fewer group) ≡ Err other → Alike plan fewer group

abbrev with_touches : PlanValue → PlannedGroupValue → ℕ → Answer → Made
with_touches plan group n a = a >>= λ touches. good (record { plan = plan; number = n; position = group.position; touches = touches })

-- touches that are given under one number are given under another
under_number : (plan : PlanValue) (changes : List PlannedChangeValue) (n m : ℕ) (touches : List TouchValue) → touches_of plan n changes ≡ Ok touches → touches_of plan m changes ≡ Ok touches
under_number plan changes n m touches e = ((touches_by_change plan m changes).given touches).1 (((touches_by_change plan n changes).given touches).0 e)

alike : (plan : PlanValue) (fewer : ℕ) (group : PlannedGroupValue) → Alike plan fewer group
alike plan fewer group = by (touches_of plan group.number group.changes) (touches_of plan (group.number - fewer) group.changes) refl refl
  where
    by : (a b : Answer) → touches_of plan group.number group.changes ≡ a → touches_of plan (group.number - fewer) group.changes ≡ b → Alike plan fewer group
    by (Ok touches) b e f =
        both (record { plan = plan; number = group.number; position = group.position; touches = touches }) (ap (with_touches plan group group.number) e)
        (ap (with_touches plan group (group.number - fewer)) (under_number plan group.changes group.number (group.number - fewer) touches e))
    by (Err fault) (Ok touches) e f = let no : no_touches fault ≡ some_touches touches = sym e ∙ under_number plan group.changes (group.number - fewer) group.number touches f in cc
    by (Err fault) (Err other) e f = neither fault other (ap (with_touches plan group group.number) e) (ap (with_touches plan group (group.number - fewer)) f)

abbrev front_with : Made → List Made → List PreparedValue
front_with r rs = ok_prefix (r ∷ rs)

abbrev sound_of : PlanValue → List PlannedGroupValue → List PreparedValue
sound_of plan groups = ok_prefix (map (prepared plan) groups)

lowered_front : (plan : PlanValue) (fewer : ℕ) (g : PlannedGroupValue) (groups : List PlannedGroupValue) → Alike plan fewer g
    → sound_of plan (map (lowered_planned fewer) groups) ≡ map (lowered fewer) (sound_of plan groups)
    → front_with (prepared plan (lowered_planned fewer g)) (map (prepared plan) (map (lowered_planned fewer) groups)) ≡ map (lowered fewer) (front_with (prepared plan g) (map (prepared plan) groups))
lowered_front plan fewer g groups (both p e f) rest =
    ap (λ (r : Made). front_with r (map (prepared plan) (map (lowered_planned fewer) groups))) f
    ∙ ap (λ (gs : List PreparedValue). lowered fewer p ∷ gs) rest
    ∙ sym (ap (λ (r : Made). map (lowered fewer) (front_with r (map (prepared plan) groups))) e)
lowered_front plan fewer g groups (neither one other e f) rest =
    ap (λ (r : Made). front_with r (map (prepared plan) (map (lowered_planned fewer) groups))) f
    ∙ sym (ap (λ (r : Made). map (lowered fewer) (front_with r (map (prepared plan) groups))) e)

sound_lowered : (plan : PlanValue) (fewer : ℕ) (groups : List PlannedGroupValue) → sound_of plan (map (lowered_planned fewer) groups) ≡ map (lowered fewer) (sound_of plan groups)
sound_lowered plan fewer [] = refl
sound_lowered plan fewer (g ∷ groups) = lowered_front plan fewer g groups (alike plan fewer g) (sound_lowered plan fewer groups)

-- ---- what a feed's events say

abbrev Groups : Type 0
Groups = Result (List GroupValue) FeedFault

abbrev no_groups : FeedFault → Groups
no_groups fault = Err fault

abbrev Planned : Type 0
Planned = Result (List PlannedGroupValue) FeedFault

-- events that open under a plan
pub record Opens (plan : PlanValue) (events : List EventValue) (planned : List PlannedGroupValue) : Type 0 where
  pub all : List GroupValue
  pub given : groups_to_end (source_of plan) events ≡ Ok all
  pub agree : list_any (differs plan) events ≡ false
  pub are : map (planned_group plan) all ≡ planned

abbrev are_planned : List PlannedGroupValue → Planned
are_planned groups = Ok groups

abbrev no_planned : FeedFault → Planned
no_planned fault = Err fault

same_planned : (a b : List PlannedGroupValue) → are_planned a ≡ are_planned b → a ≡ b
same_planned a b e = cc

not_planned : {P : Type 0} (fault : FeedFault) (a : List PlannedGroupValue) → no_planned fault ≡ are_planned a → P
not_planned fault a e = cc

pub opens : (plan : PlanValue) (events : List EventValue) (planned : List PlannedGroupValue) → planned_groups plan events (groups_to_end (source_of plan) events) ≡ Ok planned → Opens plan events planned
opens plan events planned e = by (groups_to_end (source_of plan) events) refl e
  where
    by : (r : Groups) → groups_to_end (source_of plan) events ≡ r → planned_groups plan events r ≡ Ok planned → Opens plan events planned
    by (Err fault) given e = not_planned fault planned e
    by (Ok all) given e = elim (cases_Bool (list_any (differs plan) events)) [
      | inl differ ↦ not_planned FieldsDiffer planned (sym (cond-true (list_any (differs plan) events) (no_planned FieldsDiffer) (are_planned (map (planned_group plan) all)) differ) ∙ e)
      | inr agree ↦ record {
        all = all;
        given = given;
        agree = agree;
        are = same_planned (map (planned_group plan) all) planned (sym (cond-false (list_any (differs plan) events) (no_planned FieldsDiffer) (are_planned (map (planned_group plan) all)) agree) ∙ e);
      }
    ]

-- no FIELD of a feed differs from its plan
pub events_agree : (plan : PlanValue) (events : List EventValue) (planned : List PlannedGroupValue) → planned_groups plan events (groups_to_end (source_of plan) events) ≡ Ok planned
    → list_any (differs plan) events ≡ false
events_agree plan events planned e = (opens plan events planned e).agree

opened : (plan : PlanValue) (events : List EventValue) (all : List GroupValue) → groups_to_end (source_of plan) events ≡ Ok all → list_any (differs plan) events ≡ false
    → planned_groups plan events (groups_to_end (source_of plan) events) ≡ Ok (map (planned_group plan) all)
opened plan events all given agree =
    ap (planned_groups plan events) given ∙ cond-false (list_any (differs plan) events) (no_planned FieldsDiffer) (are_planned (map (planned_group plan) all)) agree

-- ---- no event of a base differs

place_agrees : (plan : PlanValue) (source : SourceValue) (place : EventValue) (position : Position) → position_of source place ≡ Some position → differs plan place ≡ false
place_agrees plan source (Field name columns) position e = absurd (none-some position e)
place_agrees plan source event position e = refl

rows_agree : (plan : PlanValue) (source : SourceValue) (history : PastEvents) (rows : List EventValue) → AllByRecursion (IsRowUnder source history) rows → list_any (differs plan) rows ≡ false
rows_agree plan source history [] h = refl
rows_agree plan source history (Row name changes ∷ rows) h = rows_agree plan source history rows h.1
rows_agree plan source history (event ∷ rows) h = absurd h.0

both_agree : (plan : PlanValue) (xs ys : List EventValue) → list_any (differs plan) xs ≡ false → list_any (differs plan) ys ≡ false → list_any (differs plan) (xs ++ ys) ≡ false
both_agree plan xs ys p q = list_any-append (differs plan) xs ys ∙ ap (λ (b : Bool). b || list_any (differs plan) ys) p ∙ q

-- ---- the groups of a feed

pub groups_are_under : (feed : FeedValue) → IsFeed feed → AreGroupsUnder feed.plan (sound_groups feed)
groups_are_under feed whole = all-each (λ (g : PreparedValue). AllByRecursion (IsTouchUnder feed.plan) g.touches) (sound_groups feed) (λ i group e.
    let of : IsGroupOf feed i group = group_of feed i group e in
    let made : IsPrepared (record { plan = feed.plan; number = of.planned.number; position = of.planned.position; touches = of.touches }) =
    group_whole feed (suc i) of.planned of.touches whole (sym of.there) of.made in
    subst (λ (g : PreparedValue). AllByRecursion (IsTouchUnder feed.plan) g.touches) of.is made.touches)

-- what is kept behind the first groups is what these alone leave
kept_front : (plan : PlanValue) (groups : List PreparedValue) (n : ℕ) (key : KeyValue) → kept_at plan (take n groups) n key ≡ kept_at plan groups n key
kept_front plan groups n key = ap (option_map (kept_of plan key)) (passed_at-take groups n key)

-- ---- the compacted feed

module _ (ties : Ties) (law : FeedsAreCompacted) (feed : FeedValue) (front behind fields rows : List EventValue) (place : EventValue) (position : Position) (inserted : ImageRows) (whole : IsFeed feed)
    (of : IsFeedOf feed (front ++ behind)) (base_for : IsBaseFor feed front fields rows place position inserted) where
  abbrev plan : PlanValue
  plan = feed.plan

  abbrev source : SourceValue
  source = source_of feed.plan

  abbrev many : ℕ
  many = groups_to feed front

  abbrev fewer : ℕ
  fewer = many - 1

  abbrev base_list : List EventValue
  base_list = base_events fields rows place

  -- what the old events say
  old : Opens plan (front ++ behind) feed.groups
  old = opens plan (front ++ behind) feed.groups of

  last : HasLast source (reverse front) position
  last = base_for.stands.behind_group

  many_is : many ≡ length last.before + 1
  many_is = ap length last.groups ∙ length-append last.before (last.last ∷ [])

  fewer_is : fewer ≡ length last.before
  fewer_is = omega (arith, many_is)

  next_is : fewer + 1 ≡ many
  next_is = omega (arith, many_is)

  -- the groups of the front, and behind them the others
  all_is : old.all ≡ last.before ++ last.last ∷ (groups_behind source (reverse behind) (reverse front)).0
  all_is =
      let w : Ended source (reverse (front ++ behind)) old.all = ended source (front ++ behind) old.all old.given in
      let more = groups_behind source (reverse behind) (reverse front) in
      sym w.are ∙ ap (groups_of source) (reverse-append front behind) ∙ more.1
      ∙ ap (λ (gs : List GroupValue). gs ++ more.0) last.groups
      ∙ append_assoc last.before (last.last ∷ []) more.0

  last_there : slice_get feed.groups fewer ≡ Some (planned_group plan last.last)
  last_there =
      ap (λ (gs : List PlannedGroupValue). slice_get gs fewer) (sym old.are)
      ∙ slice_get-map (planned_group plan) old.all fewer
      ∙ ap (option_map (planned_group plan)) (ap (slice_get old.all) fewer_is ∙ ap (λ (gs : List GroupValue). slice_get gs (length last.before)) all_is
      ∙ slice_get-at last.before last.last (groups_behind source (reverse behind) (reverse front)).0)

  -- the last group of the front is sound, too
  sound_last : (group : PreparedValue) × (slice_get (sound_groups feed) fewer ≡ Some group)
  sound_last = place_of (sound_groups feed) fewer (omega (arith, many_is, base_for.sound))

  sound_position : position ≡ sound_last.0.position
  sound_position =
      let g : IsGroupOf feed fewer sound_last.0 = group_of feed fewer sound_last.0 sound_last.1 in
      let same : planned_group plan last.last ≡ g.planned = same_Some (planned_group plan last.last) g.planned (sym last_there ∙ g.there) in
      sym last.at ∙ ap (λ (p : PlannedGroupValue). p.position) same ∙ ap (λ (p : PreparedValue). p.position) g.is

  -- the base
  made : (base : PreparedValue) × (prepared plan (base_group position inserted) ≡ Ok base) × IsBaseOf (sound_groups feed) fewer base
  made = base_of_left ties plan (sound_groups feed) fewer sound_last.0 position inserted (groups_are_under feed whole) sound_last.1 sound_position
      (subst (λ (n : ℕ). IsLeft (sound_groups feed) n inserted) (sym next_is) base_for.left)

  abbrev new_groups : List PlannedGroupValue
  new_groups = base_group position inserted ∷ map (lowered_planned fewer) (drop many feed.groups)

  abbrev new : FeedValue
  new = record { plan = plan; groups = new_groups }

  -- what the new events say
  abbrev new_all : List GroupValue
  new_all = first_group source rows position ∷ map (lowered_group fewer) (drop many old.all)

  new_given : groups_to_end source (base_list ++ behind) ≡ Ok new_all
  new_given = (law source front fields rows place position behind base_for.stands).given old.all old.given

  behind_agrees : list_any (differs plan) behind ≡ false
  behind_agrees = (or_parts (list_any (differs plan) front) (list_any (differs plan) behind) (sym (list_any-append (differs plan) front behind) ∙ old.agree)).1

  base_agrees : list_any (differs plan) base_list ≡ false
  base_agrees =
      let end : list_any (differs plan) (place ∷ Commit ∷ []) ≡ false = ap (λ (b : Bool). b || false) (place_agrees plan source place position base_for.stands.carries) in
      both_agree plan fields (Begin ∷ (rows ++ (place ∷ Commit ∷ []))) base_for.same_fields
      (both_agree plan rows (place ∷ Commit ∷ []) (rows_agree plan source (reverse fields) rows base_for.stands.only_rows) end)

  new_are : map (planned_group plan) new_all ≡ new_groups
  new_are =
      ap (λ (changes : List PlannedChangeValue). record { number = 1; position = position; changes = changes } ∷ map (planned_group plan) (map (lowered_group fewer) (drop many old.all))) base_for.inserts
      ∙ ap (λ (gs : List PlannedGroupValue). base_group position inserted ∷ gs) (
      planned_lowered plan fewer (drop many old.all)
      ∙ ap (map (lowered_planned fewer)) (map-drop (planned_group plan) many old.all ∙ ap (drop many) old.are)
      )

  new_opens : IsFeedOf new (base_list ++ behind)
  new_opens = opened plan (base_list ++ behind) new_all new_given (both_agree plan base_list behind base_agrees behind_agrees) ∙ ap are_planned new_are

  sound_new : sound_groups new ≡ compacted (sound_groups feed) fewer made.0
  sound_new =
      let later : List PlannedGroupValue = map (lowered_planned fewer) (drop many feed.groups) in
      ap (λ (r : Made). ok_prefix (r ∷ map (prepared plan) later)) made.1
      ∙ ap (λ (gs : List PreparedValue). made.0 ∷ gs) (
      sound_lowered plan fewer (drop many feed.groups)
      ∙ ap (map (lowered fewer)) (
      ap ok_prefix (map-drop (prepared plan) many feed.groups)
      ∙ drop-front (map (prepared plan) feed.groups) many base_for.sound
      ∙ ap (λ (n : ℕ). drop n (sound_groups feed)) (sym next_is)
      )
      )

  stays : StaysFrom (sound_groups feed) fewer made.0
  stays = stays_from (sound_groups feed) fewer made.0 made.2

  -- ---- positions

  group_there : (i : ℕ) (group : PlannedGroupValue) → fewer ≤ i → slice_get feed.groups i ≡ Some group → (now : PlannedGroupValue) × (slice_get new_groups (i - fewer) ≡ Some now) × (now.position ≡ group.position)
  group_there i group le e = elim (cases_lt fewer i) [
    | inr most ↦ (
        let is : i ≡ fewer = omega (arith, le, most) in
        let none : i - fewer ≡ 0 = omega (arith, is) in
        let same : planned_group plan last.last ≡ group = same_Some (planned_group plan last.last) group (sym last_there ∙ ap (slice_get feed.groups) (sym is) ∙ e) in
        (base_group position inserted, ap (slice_get new_groups) none, sym last.at ∙ ap (λ (p : PlannedGroupValue). p.position) same)
        )
    | inl less ↦ (
        let next : i - fewer ≡ suc (i - many) = omega (arith, less, many_is) in
        let behind_it : slice_get (drop many feed.groups) (i - many) ≡ Some group = slice_get-drop many feed.groups i group (omega (arith, less, many_is)) e in (
          lowered_planned fewer group,
          ap (slice_get new_groups) next ∙ slice_get-map (lowered_planned fewer) (drop many feed.groups) (i - many) ∙ ap (option_map (lowered_planned fewer)) behind_it,
          refl,
        )
        )
  ]

  number_there : (n : ℕ) (at : Position) → fewer < n → IsNumberAt feed at n → IsNumberAt new at (n - fewer)
  number_there n at less (inl none) = absurd (omega (arith, less, none.1))
  number_there zero at less (inr has) = absurd (omega (arith, less))
  number_there (suc i) at less (inr has) =
      let now = group_there i has.group (omega (arith, less)) has.there in
      let next : suc i - fewer ≡ suc (i - fewer) = omega (arith, less) in
      inr (record { group = now.0; there = ap (group_at new) next ∙ now.1; at = now.2 ∙ has.at })

  -- ---- rows

  so_many : (n : ℕ) → fewer < n → n ≤ length (sound_groups feed) → n - fewer ≤ length (sound_groups new)
  so_many n less le =
      let long : length (sound_groups new) ≡ suc (length (drop (fewer + 1) (sound_groups feed))) = ap length sound_new ∙ ap suc (length-map (drop (fewer + 1) (sound_groups feed)) (lowered fewer)) in
      let left : length (drop (fewer + 1) (sound_groups feed)) ≡ length (sound_groups feed) - (fewer + 1) = length-drop (fewer + 1) (sound_groups feed) in
      omega (arith, less, le, long, left)

  rows_stay : (n : ℕ) → fewer < n → kept_rows plan (sound_groups new) (n - fewer) ≡ kept_rows plan (sound_groups feed) n
  rows_stay n less =
      let passed = list-is_passed ties (compacted (sound_groups feed) fewer made.0) (n - fewer) in
      ap (λ (gs : List PreparedValue). kept_rows plan gs (n - fewer)) sound_new
      ∙ ap (map (kept_row plan)) (passed-is_list ties (sound_groups feed) n (passed_rows (compacted (sound_groups feed) fewer made.0) (n - fewer)) ((stays.are_passed n (passed_rows (compacted (sound_groups feed) fewer made.0) (n - fewer)) less).0 passed))

  cut_stays : (n : ℕ) (marks : Marks) (key : KeyValue) → fewer < n → cut_of (resumed_state new marks (n - fewer)) key ≡ cut_of (resumed_state feed marks n) key
  cut_stays n marks key less =
      ap (λ (row : Option KeptRow). cond (is_inside marks key) row None) (
      kept_front plan (sound_groups new) (n - fewer) key
      ∙ ap (λ (gs : List PreparedValue). kept_at plan gs (n - fewer) key) sound_new
      ∙ stays.kept plan n key less
      ∙ sym (kept_front plan (sound_groups feed) n key)
      )

  pub compacted_feed : IsCompactedFeed feed fewer (base_list ++ behind)
  compacted_feed = record {
    new = new;
    same_plan = refl;
    opens = new_opens;
    base = made.0;
    is_base = made.2;
    groups = sound_new;
    stays = stays;
    numbers = number_there;
    many = so_many;
    rows = rows_stay;
    cuts = cut_stays;
  }

-- ---- its bytes

pub bytes_open : (feed : FeedValue) (less : ℕ) (events : List EventValue) (c : IsCompactedFeed feed less events) (bytes : List ℕ) → HaveEvents bytes events → length bytes < 2 ^ 31
    → groups_under bytes c.new.plan ≡ Ok c.new.groups
bytes_open feed less events c bytes have short =
    let source : SourceValue = source_of c.new.plan in
    let given : Groups = groups_in source (events_of_feed bytes) in
    ap (planned_groups c.new.plan (events_of_feed bytes).items) (cond-true (nat_lt (length bytes) (2 ^ 31)) given (no_groups FeedTooLong) (lt-ltb (length bytes) (2 ^ 31) short))
    ∙ ap (λ (r : Reading EventValue FeedFault). planned_groups c.new.plan r.items (groups_in source r)) have.are
    ∙ c.opens
