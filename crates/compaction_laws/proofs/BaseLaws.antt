-- The rows that a history's first groups leave, inserted by one group, are a base for these groups.
use Rattle.std.proofs.Common.{◌≡◌, ℕ, zero, suc, ◌+◌, ◌⊎◌, Bool, true, false, cond, List, [], ◌∷◌, ◌++◌, map, take, Option, Some, None, option_map, option_and_then, Result, Ok, IfSome, slice_get, refl, sym, ap, subst, ◌∙◌, inl, inr}
use Rattle.std.proofs.lemmas.Bool.{cases_Bool, cond-true, cond-false}
use Rattle.std.proofs.lemmas.List.{append-nil}
use Rattle.std.proofs.lemmas.Option.{same_Some, none-some}
use Rattle.std.specs.declared.cmp.Ordering.TheVariants.{Less, Greater}
use Rattle.std.specs.List.{AllByRecursion}
use Rattle.std.specs.Map.{lookup}
use Rattle.std.specs.Option.{option_or}
use Rattle.std.specs.Ordering.{is_eq, ordering_reverse}
use Rattle.list_laws.proofs.Fronts.{All-append}
use Rattle.list_laws.specs.Outcome.{◌>>=◌}
use Rattle.filter_rule.specs.PlanValue.{PlanValue, passes_of}
use Rattle.pk_copy.specs.KeyOf.{key_of}
use Rattle.pk_copy.specs.KeyOrder.{key_cmp}
use Rattle.pk_copy.specs.KeyValue.{KeyValue}
use Rattle.pk_copy.specs.KeyOrderLaws.{key_cmp_total}
use Rattle.target_tables.specs.Rising.{IsRising}
use Rattle.target_tables.specs.Touches.{last_at}
use Rattle.target_tables.proofs.Order.{each_two}
use Rattle.source_feed.specs.declared.fault.FeedFault.{FeedFault}
use Rattle.source_feed.specs.GroupValue.{Position}
use Rattle.source_feed.specs.History.{RowValue, touches_in, row_at}
use Rattle.source_feed.specs.Image.{ImageRows}
use Rattle.source_feed.specs.Prepared.{IsTouchUnder}
use Rattle.source_feed.specs.Touches.{PutValue, TouchValue, PreparedValue, touches_of_change, touches_of, prepared}
use Rattle.source_feed.proofs.SoundLaws.{after-made}
use Rattle.board_laws.proofs.Lookups.{Ties, is_key, is_itself, same_key}
use Rattle.compaction_laws.specs.Base.{left_at, IsLeft, insert_of, base_group, AreGroupsUnder}
use Rattle.compaction_laws.specs.Compacted.{IsBaseOf}

-- ---- lists

pub all-take : {X : Type 0} (P : X → Type 0) (n : ℕ) (xs : List X) → AllByRecursion P xs → AllByRecursion P (take n xs)
all-take P zero xs h = tt
all-take P (suc n) [] h = tt
all-take P (suc n) (x ∷ xs) h = (h.0, all-take P n xs h.1)

pub all-each : {X : Type 0} (P : X → Type 0) (xs : List X) → ((i : ℕ) (x : X) → slice_get xs i ≡ Some x → P x) → AllByRecursion P xs
all-each P [] h = tt
all-each P (x ∷ xs) h = (h 0 x refl, all-each P xs (λ i. h (suc i)))

pub all-touches : (P : TouchValue → Type 0) (groups : List PreparedValue) → AllByRecursion (λ (group : PreparedValue). AllByRecursion P group.touches) groups → AllByRecursion P (touches_in groups)
all-touches P [] h = tt
all-touches P (g ∷ groups) h = All-append P g.touches (touches_in groups) h.0 (all-touches P groups h.1)

-- ---- the last touch of a key is one of the touches

pub record Found (P : TouchValue → Type 0) (key : KeyValue) (what : Option PutValue) : Type 0 where
  pub touch : TouchValue
  pub has : P touch
  pub same : is_key key touch.0 ≡ true
  pub leaves : touch.1 ≡ what

pub found : (P : TouchValue → Type 0) (touches : List TouchValue) (key : KeyValue) (what : Option PutValue) → AllByRecursion P touches → last_at key_cmp touches key ≡ Some what → Found P key what
found P [] key what all e = absurd (none-some what e)
found P (touch ∷ later) key what all e = by (found P later key what all.1) (last_at key_cmp later key) refl (is_key key touch.0) refl e
  where
    by : (last_at key_cmp later key ≡ Some what → Found P key what) → (o : Option (Option PutValue)) → last_at key_cmp later key ≡ o → (b : Bool) → is_key key touch.0 ≡ b
        → option_or o (cond b (Some touch.1) None) ≡ Some what → Found P key what
    by rest (Some x) there b same e = rest (there ∙ e)
    by rest None there true same e = record { touch = touch; has = all.0; same = same; leaves = same_Some touch.1 what e }
    by rest None there false same e = absurd (none-some what e)

-- ---- each row of a rising list is found at its key

turned : (x y : KeyValue) → key_cmp y x ≡ Less → key_cmp x y ≡ Greater
turned x y less = key_cmp_total.antisymm x y ∙ ap ordering_reverse less

pub own_rows : (rows : ImageRows) → IsRising key_cmp rows → AllByRecursion (λ row. lookup (is_key row.0) rows ≡ Some row.1) rows
own_rows [] h = tt
own_rows (row ∷ rows) h =
    let behind : (later : KeyValue × RowValue) → key_cmp row.0 later.0 ≡ Less → lookup (is_key later.0) rows ≡ Some later.1 → lookup (is_key later.0) (row ∷ rows) ≡ Some later.1 =
    λ later less at. cond-false (is_key later.0 row.0) (Some row.1) (lookup (is_key later.0) rows) (ap is_eq (turned later.0 row.0 less)) ∙ at in (
      cond-true (is_key row.0 row.0) (Some row.1) (lookup (is_key row.0) rows) (is_itself row.0),
      each_two (λ (later : KeyValue × RowValue). key_cmp row.0 later.0 ≡ Less) (λ (later : KeyValue × RowValue). lookup (is_key later.0) rows ≡ Some later.1)
          (λ (later : KeyValue × RowValue). lookup (is_key later.0) (row ∷ rows) ≡ Some later.1) behind rows h.0 (own_rows rows h.1),
    )

-- ---- the rows that are left

abbrev Answer : Type 0
Answer = Result (List TouchValue) FeedFault

abbrev given : List TouchValue → Answer
given touches = Ok touches

module _ (ties : Ties) (plan : PlanValue) (history : List PreparedValue) (n : ℕ) (under : AreGroupsUnder plan history) where
  -- a row that is left at a key: it was put there, has the key, and the filter's answer of it is known
  record IsLeftRow (key : KeyValue) (row : RowValue) : Type 0 where
    put : PutValue
    at : row_at history n key ≡ Some put
    same : put.row ≡ row
    has_key : key_of plan key.table row ≡ Ok key
    answer : passes_of plan key.table row ≡ Ok put.passes

  put_there : (key : KeyValue) (put : PutValue) → last_at key_cmp (touches_in (take n history)) key ≡ Some (Some put)
      → (key_of plan key.table put.row ≡ Ok key) × (passes_of plan key.table put.row ≡ Ok put.passes)
  put_there key put e = by f.touch.1 f.leaves f.has.put
    where
      f : Found (IsTouchUnder plan) key (Some put)
      f = found (IsTouchUnder plan) (touches_in (take n history)) key (Some put) (all-touches (IsTouchUnder plan) (take n history) (all-take (λ (g : PreparedValue). AllByRecursion (IsTouchUnder plan) g.touches) n history under)) e

      is : key ≡ f.touch.0
      is = same_key ties key f.touch.0 f.same

      by : (o : Option PutValue) → o ≡ Some put → IfSome o (λ p. (p.row ≡ f.has.row) × (passes_of plan f.touch.0.table f.has.row ≡ Ok p.passes))
          → (key_of plan key.table put.row ≡ Ok key) × (passes_of plan key.table put.row ≡ Ok put.passes)
      by None e h = absurd (none-some put e)
      by (Some p) e h =
          let here : (put.row ≡ f.has.row) × (passes_of plan f.touch.0.table f.has.row ≡ Ok put.passes) =
          subst (λ (x : PutValue). (x.row ≡ f.has.row) × (passes_of plan f.touch.0.table f.has.row ≡ Ok x.passes)) (same_Some p put e) h in (
            subst (λ (k : KeyValue). key_of plan k.table put.row ≡ Ok k) (sym is) (ap (key_of plan f.touch.0.table) here.0 ∙ f.has.key),
            subst (λ (k : KeyValue). passes_of plan k.table put.row ≡ Ok put.passes) (sym is) (ap (passes_of plan f.touch.0.table) here.0 ∙ here.1),
          )

  row_left : (key : KeyValue) (row : RowValue) → left_at history n key ≡ Some row → IsLeftRow key row
  row_left key row e = by (last_at key_cmp (touches_in (take n history)) key) refl e
    where
      by : (o : Option (Option PutValue)) → last_at key_cmp (touches_in (take n history)) key ≡ o → option_map (λ put. put.row) (option_and_then (λ put. put) o) ≡ Some row → IsLeftRow key row
      by None there e = absurd (none-some row e)
      by (Some None) there e = absurd (none-some row e)
      by (Some (Some put)) there e =
          let is : put.row ≡ row = same_Some put.row row e in
          let what = put_there key put there in
          record {
            put = put;
            at = ap (option_and_then (λ put. put)) there;
            same = is;
            has_key = subst (λ (r : RowValue). key_of plan key.table r ≡ Ok key) is what.0;
            answer = subst (λ (r : RowValue). passes_of plan key.table r ≡ Ok put.passes) is what.1;
          }

  -- ---- the touches of a base

  record AreBaseTouches (rows : ImageRows) : Type 0 where
    touches : List TouchValue
    made : touches_of plan 1 (map insert_of rows) ≡ Ok touches
    at : (key : KeyValue) → ((last_at key_cmp touches key ≡ None) × (lookup (is_key key) rows ≡ None)) ⊎ (last_at key_cmp touches key ≡ Some (row_at history n key))

  abbrev touch_of : KeyValue → RowValue → Bool → TouchValue
  touch_of key row passes = (key, Some (record { row = row; passes = passes }))

  inserted : (key : KeyValue) (row : RowValue) (passes : Bool) → key_of plan key.table row ≡ Ok key → passes_of plan key.table row ≡ Ok passes
      → touches_of_change plan 1 (insert_of (key, row)) ≡ Ok (touch_of key row passes ∷ [])
  inserted key row passes k p =
      ap (λ (a : Answer). a >>= λ put. given put)
      (after-made plan 1 key.table (Some row) (touch_of key row passes ∷ []) (record { key = key; passes = passes; has = k; answer = p; only = refl }))

  -- one row more in front
  touch_more : (row : KeyValue × RowValue) (rows : ImageRows) → IsLeftRow row.0 row.1 → AreBaseTouches rows → AreBaseTouches (row ∷ rows)
  touch_more row rows left others =
      let mine : TouchValue = touch_of row.0 row.1 left.put.passes in
      let put_is : mine.1 ≡ Some left.put = ap (λ (r : RowValue). Some (record { row = r; passes = left.put.passes })) (sym left.same) in
      let with_mine : KeyValue → Option (Option PutValue) → Option (Option PutValue) = λ key o. option_or o (cond (is_key key row.0) (Some mine.1) None) in
      record {
        touches = mine ∷ others.touches;
        made = ap (λ (a : Answer). a >>= λ some. touches_of plan 1 (map insert_of rows) >>= λ more. given (some ++ more)) (inserted row.0 row.1 left.put.passes left.has_key left.answer)
            ∙ ap (λ (a : Answer). a >>= λ more. given ((mine ∷ []) ++ more)) others.made;
        at = λ key. elim (others.at key) [
          | inr there ↦ inr (ap (with_mine key) there)
          | inl none ↦ elim (cases_Bool (is_key key row.0)) [
            | inl same ↦ inr (
                ap (with_mine key) none.0
                ∙ cond-true (is_key key row.0) (Some mine.1) None same
                ∙ ap Some (put_is ∙ sym left.at ∙ ap (row_at history n) (sym (same_key ties key row.0 same)))
                )
            | inr apart ↦ inl (
              ap (with_mine key) none.0 ∙ cond-false (is_key key row.0) (Some mine.1) None apart,
              cond-false (is_key key row.0) (Some row.1) (lookup (is_key key) rows) apart ∙ none.1,
            )
          ]
        ];
      }

  base_touches : (rows : ImageRows) → AllByRecursion (λ row. IsLeftRow row.0 row.1) rows → AreBaseTouches rows
  base_touches [] all = record { touches = []; made = refl; at = λ key. inl (refl, refl) }
  base_touches (row ∷ rows) all = touch_more row rows all.0 (base_touches rows all.1)

  no_row : (o : Option PutValue) → option_map (λ (put : PutValue). put.row) o ≡ None → o ≡ None
  no_row None e = refl
  no_row (Some put) e = absurd (none-some put.row (sym e))

-- ---- a base

abbrev good : PreparedValue → Result PreparedValue FeedFault
good group = Ok group

module _ (ties : Ties) (plan : PlanValue) (history : List PreparedValue) (fewer : ℕ) (last : PreparedValue) (position : Position) (rows : ImageRows) (under : AreGroupsUnder plan history)
    (there : slice_get history fewer ≡ Some last) (at : position ≡ last.position) (left : IsLeft history (fewer + 1) rows) where
  each_left : (xs : ImageRows) → AllByRecursion (λ row. lookup (is_key row.0) rows ≡ Some row.1) xs → AllByRecursion (λ row. IsLeftRow ties plan history (fewer + 1) under row.0 row.1) xs
  each_left [] h = tt
  each_left (x ∷ xs) h = (row_left ties plan history (fewer + 1) under x.0 x.1 (sym (left.each_key x.0) ∙ h.0), each_left xs h.1)

  t : AreBaseTouches ties plan history (fewer + 1) under rows
  t = base_touches ties plan history (fewer + 1) under rows (each_left rows (own_rows rows left.rising))

  abbrev base : PreparedValue
  base = record { plan = plan; number = 1; position = position; touches = t.touches }

  is_made : prepared plan (base_group position rows) ≡ Ok base
  is_made = ap (λ (a : Answer). a >>= λ touches. good (record { plan = plan; number = 1; position = position; touches = touches })) t.made

  leaves : (key : KeyValue) → row_at (base ∷ []) 1 key ≡ row_at history (fewer + 1) key
  leaves key =
      ap (λ (ts : List TouchValue). option_and_then (λ put. put) (last_at key_cmp ts key)) (append-nil t.touches)
      ∙ elim (t.at key) [
        | inr here ↦ ap (option_and_then (λ put. put)) here
        | inl none ↦ ap (option_and_then (λ put. put)) none.0 ∙ sym (no_row ties plan history (fewer + 1) under (row_at history (fewer + 1) key) (sym (left.each_key key) ∙ none.1))
      ]

  pub base_of_left : (made : PreparedValue) × (prepared plan (base_group position rows) ≡ Ok made) × IsBaseOf history fewer made
  base_of_left = (base, is_made, record { number = refl; last = last; there = there; position = at; leaves = leaves })
