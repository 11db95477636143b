-- The rows that are left are the same under each plan over the same tables, and so a base is one under each.
use Rattle.std.proofs.Common.{◌≡◌, ℕ, zero, suc, ◌≤◌, Bool, cond, List, [], ◌∷◌, ◌++◌, length, map, take, Option, Some, None, option_map, option_and_then, Result, Ok, Err, slice_get, refl, sym, ap, ◌∙◌, arith}
use Rattle.std.proofs.lemmas.List.{map-append}
use Rattle.std.proofs.lemmas.Option.{same_Some}
use Rattle.std.specs.List.{AllByRecursion, flat_map}
use Rattle.std.specs.Option.{option_or}
use Rattle.std.specs.Ordering.{eq_by_cmp}
use Rattle.std.specs.Result.{result_ok, ok_prefix}
use Rattle.list_laws.proofs.Choices.{map-or, map-cond}
use Rattle.list_laws.specs.Outcome.{◌>>=◌}
use Rattle.filter_rule.specs.PlanValue.{PlanValue}
use Rattle.filter_rule.specs.WellFormed.{IsPlan}
use Rattle.filter_rule.specs.declared.decision.Decision.{Decision}
use Rattle.pk_copy.specs.KeyOrder.{key_cmp}
use Rattle.pk_copy.specs.KeyValue.{KeyValue}
use Rattle.target_tables.specs.Touches.{last_at}
use Rattle.vevent.specs.EventValue.{EventValue}
use Rattle.source_feed.specs.declared.fault.FeedFault.{FeedFault}
use Rattle.source_feed.specs.GroupValue.{Position}
use Rattle.source_feed.specs.History.{RowValue, touches_in}
use Rattle.source_feed.specs.Image.{ImageRows}
use Rattle.source_feed.specs.Planned.{PlannedChangeValue, PlannedGroupValue, FeedValue, IsFeed}
use Rattle.source_feed.specs.Sound.{ChangeRow, AreOfBefore, AreOfAfter, AreOfChange, AreOfChanges}
use Rattle.source_feed.specs.SoundGroups.{sound_groups}
use Rattle.source_feed.specs.Touches.{PutValue, TouchValue, PreparedValue, touches_of, prepared}
use Rattle.source_feed.proofs.SoundLaws.{touches_by_change}
use Rattle.compaction_laws.specs.Base.{left_at, IsLeft}
use Rattle.compaction_laws.specs.CompactedFeed.{groups_to, IsBaseFor}
use Rattle.compaction_laws.specs.Decisions.{deciding, feed_deciding}
use Rattle.compaction_laws.specs.CompactedBytes.{ReplacesFront}
use Rattle.compaction_laws.specs.Portions.{Portion, rows_of, IsOfOneTable}
use Rattle.compaction_laws.specs.Laws.{BytesAreCompacted, BytesAreCompactedUnderAll}

-- ---- touches without the filter's answer

abbrev Bare : Type 0
Bare = KeyValue × Option RowValue

abbrev row_put : Option PutValue → Option RowValue
row_put put = option_map (λ p. p.row) put

abbrev bare : TouchValue → Bare
bare touch = (touch.0, row_put touch.1)

last_at-bare : (touches : List TouchValue) (k : KeyValue) → last_at key_cmp (map bare touches) k ≡ option_map row_put (last_at key_cmp touches k)
last_at-bare [] k = refl
last_at-bare (t ∷ touches) k =
    let test : Bool = eq_by_cmp key_cmp k t.0 in
    ap (λ (v : Option (Option RowValue)). option_or v (cond test (Some (row_put t.1)) None)) (last_at-bare touches k)
    ∙ ap (λ (v : Option (Option RowValue)). option_or (option_map row_put (last_at key_cmp touches k)) v) (sym (map-cond row_put test t.1))
    ∙ sym (map-or row_put (last_at key_cmp touches k) (cond test (Some t.1) None))

abbrev flat : Option (Option RowValue) → Option RowValue
flat o = option_and_then (λ (row : Option RowValue). row) o

row_of_last : (o : Option (Option PutValue)) → row_put (option_and_then (λ put. put) o) ≡ flat (option_map row_put o)
row_of_last None = refl
row_of_last (Some put) = refl

left-bare : (history : List PreparedValue) (n : ℕ) (k : KeyValue) → left_at history n k ≡ flat (last_at key_cmp (map bare (touches_in (take n history))) k)
left-bare history n k = row_of_last (last_at key_cmp (touches_in (take n history)) k) ∙ ap flat (sym (last_at-bare (touches_in (take n history)) k))

-- ---- one group under two plans

module _ (plan : PlanValue) (decisions : List Decision) where
  abbrev other : PlanValue
  other = deciding plan decisions

  abbrev Answer : Type 0
  Answer = Result (List TouchValue) FeedFault

  abbrev Made : Type 0
  Made = Result PreparedValue FeedFault

  same_removed : (t : ℕ) (row : Option ChangeRow) (xs ys : List TouchValue) → AreOfBefore plan t row xs → AreOfBefore other t row ys → map bare xs ≡ map bare ys
  same_removed t None xs ys x y = ap (map bare) (x ∙ sym y)
  same_removed t (Some row) xs ys x y =
      let key : x.key ≡ y.key = same_Some x.key y.key (ap result_ok (sym x.has ∙ y.has)) in
      ap (map bare) x.only ∙ ap (λ (k : KeyValue). (k, None) ∷ []) key ∙ sym (ap (map bare) y.only)

  same_put : (t : ℕ) (row : Option ChangeRow) (xs ys : List TouchValue) → AreOfAfter plan t row xs → AreOfAfter other t row ys → map bare xs ≡ map bare ys
  same_put t None xs ys x y = ap (map bare) (x ∙ sym y)
  same_put t (Some row) xs ys x y =
      let key : x.key ≡ y.key = same_Some x.key y.key (ap result_ok (sym x.has ∙ y.has)) in
      ap (map bare) x.only ∙ ap (λ (k : KeyValue). (k, Some row) ∷ []) key ∙ sym (ap (map bare) y.only)

  same_change : (change : PlannedChangeValue) (xs ys : List TouchValue) → AreOfChange plan change xs → AreOfChange other change ys → map bare xs ≡ map bare ys
  same_change change xs ys x y =
      ap (map bare) x.order
      ∙ map-append bare x.removed x.put
      ∙ ap (λ (bs : List Bare). bs ++ map bare x.put) (same_removed change.table change.before x.removed y.removed x.before y.before)
      ∙ ap (λ (bs : List Bare). map bare y.removed ++ bs) (same_put change.table change.after x.put y.put x.after y.after)
      ∙ sym (map-append bare y.removed y.put)
      ∙ sym (ap (map bare) y.order)

  abbrev Each : PlanValue → List PlannedChangeValue → List (List TouchValue) → Type 0
  Each p changes parts = (i : ℕ) (change : PlannedChangeValue) (part : List TouchValue) → slice_get changes i ≡ Some change → slice_get parts i ≡ Some part → AreOfChange p change part

  abbrev joined : List (List TouchValue) → List TouchValue
  joined parts = flat_map (λ part. part) parts

  same_parts : (changes : List PlannedChangeValue) (xs ys : List (List TouchValue)) → length xs ≡ length changes → length ys ≡ length changes → Each plan changes xs → Each other changes ys
      → map bare (joined xs) ≡ map bare (joined ys)
  same_parts [] [] [] n m x y = refl
  same_parts [] (p ∷ xs) ys n m x y = absurd (omega (arith, n))
  same_parts [] [] (q ∷ ys) n m x y = absurd (omega (arith, m))
  same_parts (change ∷ changes) [] ys n m x y = absurd (omega (arith, n))
  same_parts (change ∷ changes) (p ∷ xs) [] n m x y = absurd (omega (arith, m))
  same_parts (change ∷ changes) (p ∷ xs) (q ∷ ys) n m x y =
      map-append bare p (joined xs)
      ∙ ap (λ (bs : List Bare). bs ++ map bare (joined xs)) (same_change change p q (x 0 change p refl refl) (y 0 change q refl refl))
      ∙ ap (λ (bs : List Bare). map bare q ++ bs) (same_parts changes xs ys (omega (arith, n)) (omega (arith, m)) (λ i. x (suc i)) (λ i. y (suc i)))
      ∙ sym (map-append bare q (joined ys))

  same_touches : (n : ℕ) (changes : List PlannedChangeValue) (xs ys : List TouchValue) → touches_of plan n changes ≡ Ok xs → touches_of other n changes ≡ Ok ys → map bare xs ≡ map bare ys
  same_touches n changes xs ys e f =
      let x : AreOfChanges plan changes xs = ((touches_by_change plan n changes).given xs).0 e in
      let y : AreOfChanges other changes ys = ((touches_by_change other n changes).given ys).0 f in
      ap (map bare) x.whole ∙ same_parts changes x.parts y.parts x.many y.many x.each y.each ∙ sym (ap (map bare) y.whole)

  -- ---- the first groups

  abbrev made_with : PlanValue → PlannedGroupValue → Answer → Made
  made_with p group a = a >>= λ touches. Ok (record { plan = p; number = group.number; position = group.position; touches = touches })

  abbrev sound_of : PlanValue → List PlannedGroupValue → List PreparedValue
  sound_of p groups = ok_prefix (map (prepared p) groups)

  abbrev bare_of : List PreparedValue → List Bare
  bare_of groups = map bare (touches_in groups)

  same_bare : (groups : List PlannedGroupValue) (n : ℕ) → n ≤ length (sound_of plan groups) → n ≤ length (sound_of other groups)
      → bare_of (take n (sound_of plan groups)) ≡ bare_of (take n (sound_of other groups))
  same_bare groups zero l m = refl
  same_bare [] (suc n) l m = refl
  same_bare (g ∷ groups) (suc n) l m = by (same_bare groups n) (touches_of plan g.number g.changes) (touches_of other g.number g.changes) refl refl l m
    where
      by : (n ≤ length (sound_of plan groups) → n ≤ length (sound_of other groups) → bare_of (take n (sound_of plan groups)) ≡ bare_of (take n (sound_of other groups)))
          → (a b : Answer) → touches_of plan g.number g.changes ≡ a → touches_of other g.number g.changes ≡ b
          → suc n ≤ length (ok_prefix (made_with plan g a ∷ map (prepared plan) groups)) → suc n ≤ length (ok_prefix (made_with other g b ∷ map (prepared other) groups))
          → bare_of (take (suc n) (ok_prefix (made_with plan g a ∷ map (prepared plan) groups))) ≡ bare_of (take (suc n) (ok_prefix (made_with other g b ∷ map (prepared other) groups)))
      by rest (Err fault) b e f l m = absurd (omega (arith, l))
      by rest (Ok xs) (Err fault) e f l m = absurd (omega (arith, m))
      by rest (Ok xs) (Ok ys) e f l m =
          map-append bare xs (touches_in (take n (sound_of plan groups)))
          ∙ ap (λ (bs : List Bare). bs ++ bare_of (take n (sound_of plan groups))) (same_touches g.number g.changes xs ys e f)
          ∙ ap (λ (bs : List Bare). map bare ys ++ bs) (rest (omega (arith, l)) (omega (arith, m)))
          ∙ sym (map-append bare ys (touches_in (take n (sound_of other groups))))

-- ---- rows and bases

pub left_deciding : (feed : FeedValue) (decisions : List Decision) (n : ℕ) (rows : ImageRows) → n ≤ length (sound_groups feed) → n ≤ length (sound_groups (feed_deciding feed decisions))
    → IsLeft (sound_groups feed) n rows → IsLeft (sound_groups (feed_deciding feed decisions)) n rows
left_deciding feed decisions n rows l m left = record {
  rising = left.rising;
  each_key = λ key.
      left.each_key key
      ∙ left-bare (sound_groups feed) n key
      ∙ ap (λ (bs : List Bare). flat (last_at key_cmp bs key)) (same_bare feed.plan decisions feed.groups n l m)
      ∙ sym (left-bare (sound_groups (feed_deciding feed decisions)) n key);
}

pub base_deciding : (feed : FeedValue) (decisions : List Decision) (front fields rows : List EventValue) (place : EventValue) (position : Position) (inserted : ImageRows)
    → IsBaseFor feed front fields rows place position inserted → groups_to feed front ≤ length (sound_groups (feed_deciding feed decisions))
    → IsBaseFor (feed_deciding feed decisions) front fields rows place position inserted
base_deciding feed decisions front fields rows place position inserted b sound = record {
  stands = b.stands;
  sound = sound;
  same_fields = b.same_fields;
  left = left_deciding feed decisions (groups_to feed front) inserted b.sound sound b.left;
  inserts = b.inserts;
}

-- ---- bytes

portions_deciding : (plan : PlanValue) (decisions : List Decision) (portions : List Portion) → AllByRecursion (IsOfOneTable plan) portions
    → AllByRecursion (IsOfOneTable (deciding plan decisions)) portions
portions_deciding plan decisions [] h = tt
portions_deciding plan decisions (p ∷ portions) h = (record { table = h.0.table; planned = h.0.planned; keys = h.0.keys; some = h.0.some }, portions_deciding plan decisions portions h.1)

replaces_deciding : (feed : FeedValue) (decisions : List Decision) (front : List EventValue) (base : List ℕ) → ReplacesFront feed front base → groups_to feed front ≤ length (sound_groups (feed_deciding feed decisions))
    → ReplacesFront (feed_deciding feed decisions) front base
replaces_deciding feed decisions front base r sound = record {
  block = r.block;
  cut = r.cut;
  sound = sound;
  portions = r.portions;
  each_portion = portions_deciding feed.plan decisions r.portions r.each_portion;
  left = left_deciding feed decisions (groups_to feed front) (rows_of r.portions) r.sound sound r.left;
  place = r.place;
  carries = r.carries;
  have = r.have;
}

feed_whole : (feed : FeedValue) (decisions : List Decision) → IsFeed feed → IsPlan (deciding feed.plan decisions) → IsFeed (feed_deciding feed decisions)
feed_whole feed decisions whole plan = record {
  plan = plan;
  order = whole.order;
  few = whole.few;
  changes = λ i j group change there at. let c = whole.changes i j group change there at in record { table = c.table; before = c.before; after = c.after };
}

pub compacted_deciding : BytesAreCompacted → BytesAreCompactedUnderAll
compacted_deciding law feed decisions bytes front behind base rest r whole opened events others short plan sound =
    law (feed_deciding feed decisions) bytes front behind base rest (replaces_deciding feed decisions front base r sound) (feed_whole feed decisions whole plan) opened events others short
