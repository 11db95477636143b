-- The rows that are left are of tables whose columns the front says.
use Rattle.std.proofs.Common.{◌≡◌, ℕ, zero, suc, ◌≤◌, Bool, true, false, cond, List, [], ◌∷◌, ◌++◌, length, take, reverse, Option, Some, None, option_map, option_and_then, Ok, Err, slice_get, refl, sym, ap, subst, ◌∙◌, arith}
use Rattle.std.proofs.lemmas.List.{reverse-append}
use Rattle.std.proofs.lemmas.Option.{same_Some, none-some}
use Rattle.std.specs.List.{AllByRecursion, list_any, filter_map, cons_option, flat_map}
use Rattle.list_laws.proofs.Fronts.{each, All-append}
use Rattle.filter_rule.specs.PlanValue.{PlanValue, table_of_name, columns_of}
use Rattle.pk_copy.specs.KeyOf.{key_of, key_cells, key_part_of, is_null, has_no_part}
use Rattle.pk_copy.specs.KeyValue.{KeyValue}
use Rattle.pk_copy.specs.declared.fault.KeyFault.TheVariants.{NullKey, BadKey}
use Rattle.row_view.specs.FieldValue.{FieldValue}
use Rattle.vevent.specs.EventValue.{EventValue}
use Rattle.source_feed.specs.GroupValue.{TableChangeValue, GroupValue}
use Rattle.source_feed.specs.History.{RowValue, touches_in}
use Rattle.source_feed.specs.Image.{ImageRows}
use Rattle.source_feed.specs.PastEvents.{PastEvents}
use Rattle.source_feed.specs.Planned.{source_of, planned_change, planned_group, differs, PlannedChangeValue, PlannedGroupValue, FeedValue, IsFeed}
use Rattle.source_feed.specs.Prepared.{IsTouchUnder}
use Rattle.source_feed.specs.Sound.{AreOfBefore, AreOfAfter, AreOfChange, AreOfChanges}
use Rattle.source_feed.specs.SoundGroups.{sound_groups}
use Rattle.source_feed.specs.Touches.{TouchValue, PreparedValue, touches_of}
use Rattle.source_feed.proofs.PlanLaws.{field_agrees}
use Rattle.source_feed.proofs.SoundGroupLaws.{IsGroupOf, group_of}
use Rattle.source_feed.proofs.SoundLaws.{touches_by_change}
use Rattle.event_laws.specs.Laws.{HasColumns, HaveColumns, ChangesHaveColumns}
use Rattle.event_laws.proofs.RunLaws.{Ended, ended, groups_behind, front_faultless}
use Rattle.board_laws.proofs.Lookups.{Ties, is_key, same_key, all-at}
use Rattle.pk_copy.specs.KeyOrder.{key_cmp}
use Rattle.target_tables.specs.Touches.{last_at}
use Rattle.source_feed.specs.Groups.{groups_of}
use Rattle.source_feed.specs.Touches.{PutValue}
use Rattle.std.specs.Prelude.{IfSome, ◌<◌, min}
use Rattle.std.specs.Map.{lookup}
use Rattle.filter_rule.specs.PlanValue.{passes_of}
use Rattle.list_laws.proofs.Choices.{mapped}
use Rattle.std.proofs.lemmas.Option.{slice_get-map, slice_get_within}
use Rattle.list_laws.proofs.Places.{slice_get-take}
use Rattle.std.proofs.lemmas.List.{length-take}
use Rattle.compaction_laws.specs.Base.{left_at, IsLeft}
use Rattle.compaction_laws.specs.CompactedFeed.{IsFeedOf, groups_to}
use Rattle.compaction_laws.specs.Laws.{SaysColumnsOf}
use Rattle.compaction_laws.proofs.BaseLaws.{all-take, all-each, all-touches, Found, found, own_rows}
use Rattle.compaction_laws.proofs.FeedLaws.{Opens, opens, groups_are_under}
use Rattle.compaction_laws.proofs.PortionLaws.{any-reverse, any-front}

-- ---- lists

slice_get-left : {A : Type 0} (xs ys : List A) (i : ℕ) → i < length xs → slice_get (xs ++ ys) i ≡ slice_get xs i
slice_get-left [] ys i less = absurd (omega (arith, less))
slice_get-left (x ∷ xs) ys zero less = refl
slice_get-left (x ∷ xs) ys (suc i) less = slice_get-left xs ys i (omega (arith, less))

-- ---- the key of a row is of the row's table

made-table : (null bad : Bool) (made key : KeyValue) → cond null (Err NullKey) (cond bad (Err BadKey) (Ok made)) ≡ Ok key → made ≡ key
made-table true bad made key e = cc
made-table false true made key e = cc
made-table false false made key e = cc

key-table : (plan : PlanValue) (t : ℕ) (row : RowValue) (key : KeyValue) → key_of plan t row ≡ Ok key → t ≡ key.table
key-table plan t row key e =
    ap (λ (k : KeyValue). k.table)
    (made-table (list_any is_null (key_cells plan t row)) (list_any has_no_part (key_cells plan t row)) (record { table = t; parts = filter_map key_part_of (key_cells plan t row) }) key e)

-- ---- touches are of their changes' tables

module _ (plan : PlanValue) (P : ℕ → Type 0) where
  abbrev Of : TouchValue → Type 0
  Of touch = P touch.0.table

  of_one : (t : ℕ) (row : RowValue) (touch : TouchValue) → P t → key_of plan t row ≡ Ok touch.0 → Of touch
  of_one t row touch p e = subst P (key-table plan t row touch.0 e) p

  of_before : (t : ℕ) (row : Option RowValue) (touches : List TouchValue) → P t → AreOfBefore plan t row touches → AllByRecursion Of touches
  of_before t None touches p h = subst (AllByRecursion Of) (sym h) tt
  of_before t (Some row) touches p h = subst (AllByRecursion Of) (sym h.only) (of_one t row (h.key, None) p h.has, tt)

  of_after : (t : ℕ) (row : Option RowValue) (touches : List TouchValue) → P t → AreOfAfter plan t row touches → AllByRecursion Of touches
  of_after t None touches p h = subst (AllByRecursion Of) (sym h) tt
  of_after t (Some row) touches p h = subst (AllByRecursion Of) (sym h.only) (of_one t row (h.key, Some (record { row = row; passes = h.passes })) p h.has, tt)

  of_change : (change : PlannedChangeValue) (touches : List TouchValue) → P change.table → AreOfChange plan change touches → AllByRecursion Of touches
  of_change change touches p h =
      subst (AllByRecursion Of) (sym h.order) (All-append Of h.removed h.put (of_before change.table change.before h.removed p h.before) (of_after change.table change.after h.put p h.after))

  of_parts : (changes : List PlannedChangeValue) (parts : List (List TouchValue)) → length parts ≡ length changes → AllByRecursion (λ (c : PlannedChangeValue). P c.table) changes
      → ((i : ℕ) (change : PlannedChangeValue) (part : List TouchValue) → slice_get changes i ≡ Some change → slice_get parts i ≡ Some part → AreOfChange plan change part)
      → AllByRecursion Of (flat_map (λ part. part) parts)
  of_parts [] [] long all each = tt
  of_parts [] (part ∷ parts) long all each = absurd (omega (arith, long))
  of_parts (change ∷ changes) [] long all each = tt
  of_parts (change ∷ changes) (part ∷ parts) long all each =
      All-append Of part (flat_map (λ part. part) parts) (of_change change part all.0 (each 0 change part refl refl))
      (of_parts changes parts (omega (arith, long)) all.1 (λ i. each (suc i)))

  of_touches : (n : ℕ) (changes : List PlannedChangeValue) (touches : List TouchValue) → touches_of plan n changes ≡ Ok touches → AllByRecursion (λ (c : PlannedChangeValue). P c.table) changes → AllByRecursion Of touches
  of_touches n changes touches e all =
      let are : AreOfChanges plan changes touches = ((touches_by_change plan n changes).given touches).0 e in
      subst (AllByRecursion Of) (sym are.whole) (of_parts changes are.parts are.many all are.each)

-- ---- the front of a feed

module _ (ties : Ties) (law : ChangesHaveColumns) (feed : FeedValue) (front behind : List EventValue) (rows : ImageRows) (whole : IsFeed feed) (of : IsFeedOf feed (front ++ behind))
    (sound : groups_to feed front ≤ length (sound_groups feed)) (left : IsLeft (sound_groups feed) (groups_to feed front) rows) where
  abbrev plan : PlanValue
  plan = feed.plan

  abbrev past : PastEvents
  past = reverse front

  abbrev many : ℕ
  many = groups_to feed front

  opened : Opens plan (front ++ behind) feed.groups
  opened = opens plan (front ++ behind) feed.groups of

  record IsSaid (t : ℕ) : Type 0 where
    name : List ℕ
    planned : table_of_name plan name ≡ Some t
    has : HasColumns (source_of plan) past name

  old_end : Ended (source_of plan) (reverse behind ++ past) opened.all
  old_end = subst (λ (p : PastEvents). Ended (source_of plan) p opened.all) (reverse-append front behind) (ended (source_of plan) (front ++ behind) opened.all opened.given)

  known : HaveColumns (source_of plan) past
  known = law (source_of plan) past (front_faultless (source_of plan) (reverse behind) past old_end.faultless)

  all_is : opened.all ≡ groups_of (source_of plan) past ++ (groups_behind (source_of plan) (reverse behind) past).0
  all_is = sym old_end.are ∙ (groups_behind (source_of plan) (reverse behind) past).1

  abbrev made : TableChangeValue → ℕ → PlannedChangeValue
  made change t = record { table = t; before = change.before; after = change.after }

  said_changes : (changes : List TableChangeValue) → AllByRecursion (λ (change : TableChangeValue). HasColumns (source_of plan) past change.table) changes
      → AllByRecursion (λ (change : PlannedChangeValue). IsSaid change.table) (filter_map (planned_change plan) changes)
  said_changes [] h = tt
  said_changes (change ∷ changes) h = by (table_of_name plan change.table) refl (said_changes changes h.1)
    where
      by : (o : Option ℕ) → table_of_name plan change.table ≡ o → AllByRecursion (λ (c : PlannedChangeValue). IsSaid c.table) (filter_map (planned_change plan) changes)
          → AllByRecursion (λ (c : PlannedChangeValue). IsSaid c.table) (cons_option (option_map (made change) o) (filter_map (planned_change plan) changes))
      by None e rest = rest
      by (Some t) e rest = (record { name = change.table; planned = e; has = h.0 }, rest)

  said_group : (i : ℕ) (group : PreparedValue) → slice_get (take many (sound_groups feed)) i ≡ Some group → AllByRecursion (λ (touch : TouchValue). IsSaid touch.0.table) group.touches
  said_group i group e =
      let inside : i < length (take many (sound_groups feed)) = slice_get_within (take many (sound_groups feed)) i group e in
      let long : length (take many (sound_groups feed)) ≡ min many (length (sound_groups feed)) = length-take many (sound_groups feed) in
      let g : IsGroupOf feed i group = group_of feed i group (slice_get-take many (sound_groups feed) i group e) in
      let m = mapped (planned_group plan) (slice_get opened.all i) g.planned (sym (slice_get-map (planned_group plan) opened.all i) ∙ ap (λ (gs : List PlannedGroupValue). slice_get gs i) opened.are ∙ g.there) in
      let there : slice_get (groups_of (source_of plan) past) i ≡ Some m.0 =
      sym (slice_get-left (groups_of (source_of plan) past) (groups_behind (source_of plan) (reverse behind) past).0 i (omega (arith, inside, long))) ∙ ap (λ (gs : List GroupValue). slice_get gs i) (sym all_is) ∙ m.1 in
      let changes : AllByRecursion (λ (change : TableChangeValue). HasColumns (source_of plan) past change.table) m.0.changes =
      all-at (λ (group : GroupValue). AllByRecursion (λ (change : TableChangeValue). HasColumns (source_of plan) past change.table) group.changes) (groups_of (source_of plan) past) i m.0 known there in
      let planned : AllByRecursion (λ (c : PlannedChangeValue). IsSaid c.table) g.planned.changes =
      subst (λ (p : PlannedGroupValue). AllByRecursion (λ (c : PlannedChangeValue). IsSaid c.table) p.changes) m.2 (said_changes m.0.changes changes) in
      subst (λ (p : PreparedValue). AllByRecursion (λ (touch : TouchValue). IsSaid touch.0.table) p.touches) g.is (of_touches plan IsSaid g.planned.number g.planned.changes g.touches g.made planned)

  -- ---- the rows

  abbrev Both : TouchValue → Type 0
  Both touch = IsSaid touch.0.table × IsTouchUnder plan touch

  both : (touches : List TouchValue) → AllByRecursion (λ (touch : TouchValue). IsSaid touch.0.table) touches → AllByRecursion (IsTouchUnder plan) touches → AllByRecursion Both touches
  both [] h k = tt
  both (touch ∷ touches) h k = ((h.0, k.0), both touches h.1 k.1)

  all_both : AllByRecursion Both (touches_in (take many (sound_groups feed)))
  all_both =
      let groups : List PreparedValue = take many (sound_groups feed) in
      both (touches_in groups)
      (all-touches (λ (touch : TouchValue). IsSaid touch.0.table) groups (all-each (λ (group : PreparedValue). AllByRecursion (λ (touch : TouchValue). IsSaid touch.0.table) group.touches) groups said_group))
      (all-touches (IsTouchUnder plan) groups (all-take (λ (group : PreparedValue). AllByRecursion (IsTouchUnder plan) group.touches) many (sound_groups feed) (groups_are_under feed whole)))

  abbrev Fits : KeyValue → RowValue → Type 0
  Fits key row = (columns : List FieldValue) × SaysColumnsOf plan past key.table columns × (length row ≡ length columns)

  fits_touch : (touch : TouchValue) (row : RowValue) → Both touch → length row ≡ length (columns_of plan touch.0.table) → Fits touch.0 row
  fits_touch touch row b width =
      let agrees : list_any (differs plan) past ≡ false = any-reverse (differs plan) front (any-front (differs plan) front behind opened.agree) in
      let long : length b.0.has.0 ≡ length (columns_of plan touch.0.table) = field_agrees plan past b.0.name touch.0.table b.0.has.0 agrees b.0.planned b.0.has.1 in
      (b.0.has.0, record { name = b.0.name; planned = b.0.planned; said = b.0.has.1 }, width ∙ sym long)

  fits_row : (key : KeyValue) (row : RowValue) → left_at (sound_groups feed) many key ≡ Some row → Fits key row
  fits_row key row e = by (last_at key_cmp (touches_in (take many (sound_groups feed))) key) refl e
    where
      put_row : (touch : TouchValue) (under : IsTouchUnder plan touch) (o : Option PutValue) (put : PutValue) → o ≡ Some put
          → IfSome o (λ p. (p.row ≡ under.row) × (passes_of plan touch.0.table under.row ≡ Ok p.passes)) → put.row ≡ under.row
      put_row touch under None put e h = absurd (none-some put e)
      put_row touch under (Some p) put e h = ap (λ (x : PutValue). x.row) (sym (same_Some p put e)) ∙ h.0

      by : (o : Option (Option PutValue)) → last_at key_cmp (touches_in (take many (sound_groups feed))) key ≡ o → option_map (λ put. put.row) (option_and_then (λ put. put) o) ≡ Some row → Fits key row
      by None there e = absurd (none-some row e)
      by (Some None) there e = absurd (none-some row e)
      by (Some (Some put)) there e =
          let f : Found Both key (Some put) = found Both (touches_in (take many (sound_groups feed))) key (Some put) all_both there in
          let is : row ≡ f.has.1.row = sym (same_Some put.row row e) ∙ put_row f.touch f.has.1 f.touch.1 put f.leaves f.has.1.put in
          subst (λ (k : KeyValue). Fits k row) (sym (same_key ties key f.touch.0 f.same)) (fits_touch f.touch row f.has (ap length is ∙ f.has.1.width))

  each_fits : (xs : ImageRows) → AllByRecursion (λ (row : KeyValue × RowValue). lookup (is_key row.0) rows ≡ Some row.1) xs → AllByRecursion (λ (row : KeyValue × RowValue). Fits row.0 row.1) xs
  each_fits [] h = tt
  each_fits (x ∷ xs) h = (fits_row x.0 x.1 (sym (left.each_key x.0) ∙ h.0), each_fits xs h.1)

  pub left_have_columns : AllByRecursion (λ (row : KeyValue × RowValue). Fits row.0 row.1) rows
  left_have_columns = each_fits rows (own_rows rows left.rising)
