-- What the puts of a group and of a chunk say at a key, and that their keys rise.
use Rattle.std.proofs.Common.{◌≡◌, Bool, true, false, cond, List, [], ◌∷◌, ◌++◌, length, map, reverse, append-nil, Option, Some, None, Ok, Ordering, refl, sym, ap, subst, ◌∙◌}
use Rattle.std.proofs.lemmas.Bool.{true≢false}
use Rattle.std.proofs.lemmas.Cmp.{tied_back, tied_itself}
use Rattle.std.proofs.lemmas.Grind.{reverse_onto}
use Rattle.std.proofs.lemmas.List.{map-append}
use Rattle.std.proofs.lemmas.Option.{none-some, same_Some}
use Rattle.std.specs.Cmp.{Equal-is}
use Rattle.std.specs.declared.cmp.Ordering.TheVariants.{Less, Equal}
use Rattle.std.specs.List.{AllByRecursion, filter}
use Rattle.std.specs.Map.{lookup}
use Rattle.std.specs.Option.{option_or, option_map, option_and_then}
use Rattle.std.specs.Ordering.{eq_by_cmp, flip_args, is_eq}
use Rattle.std.specs.Prelude.{IfSome}
use Rattle.pk_copy.specs.KeyOrder.{key_cmp}
use Rattle.pk_copy.specs.KeyOrderLaws.{key_cmp_total}
use Rattle.pk_copy.specs.KeyValue.{KeyValue}
use Rattle.pk_copy.specs.Marks.{Marks, is_inside}
use Rattle.target_tables.specs.Rising.{Ordered, IsRising}
use Rattle.target_tables.specs.Touches.{last_at, change_at}
use Rattle.target_tables.proofs.Order.{ordered_with}
use Rattle.target_tables.proofs.Values.{none_above}
use Rattle.filter_rule.specs.PlanValue.{PlanValue, passes_of}
use Rattle.source_feed.specs.History.{RowValue, passing, kept_of}
use Rattle.source_feed.specs.Image.{ImageRows, row_in, lent_row}
use Rattle.source_feed.specs.Prepared.{IsTouchUnder}
use Rattle.source_feed.specs.Touches.{PutValue, TouchValue}
use Rattle.board_laws.specs.KeptRows.{kept_row}
use Rattle.board_laws.specs.Touching.{put_by}
use Rattle.apply_core.specs.Private.Changes.{Change, IsOfTable, AreOfTables, change_of, kept_change, lent_change, put_row}
use denote.Ref.{Bor}

abbrev Lent : Type 0
Lent = Bor KeyValue × Option RowValue

abbrev Rows : Type 0
Rows = List (KeyValue × Option RowValue)

-- keys behind references are ordered as the keys
abbrev lent_cmp : Bor KeyValue → Bor KeyValue → Ordering
lent_cmp a b = key_cmp a.now b.now

-- some reference to a key
abbrev lend : KeyValue → Bor KeyValue
lend key = record { ref_ptr = (0, 0); now = key }

-- ---- lent changes

last_at-lent : (changes : List Lent) (k : Bor KeyValue) → last_at lent_cmp changes k ≡ last_at key_cmp (map lent_change changes) k.now
last_at-lent [] k = refl
last_at-lent (change ∷ later) k =
    ap (λ (v : Option (Option RowValue)). option_or v (cond (eq_by_cmp key_cmp k.now change.0.now) (Some change.1) None)) (last_at-lent later k)

change_at-lent : (changes : List Lent) (k : Bor KeyValue) → change_at lent_cmp changes k ≡ lookup (eq_by_cmp key_cmp k.now) (map lent_change changes)
change_at-lent [] k = refl
change_at-lent (change ∷ later) k =
    ap (λ (v : Option (Option RowValue)). cond (eq_by_cmp key_cmp k.now change.0.now) (Some change.1) v) (change_at-lent later k)

-- ---- the other way round

last_at-behind : (xs : Rows) (x : Change) (k : KeyValue) → last_at key_cmp (xs ++ x ∷ []) k ≡ option_or (cond (eq_by_cmp key_cmp k x.0) (Some x.1) None) (last_at key_cmp xs k)
last_at-behind [] x k = elim (eq_by_cmp key_cmp k x.0) as (λ b. cond b (Some x.1) None ≡ option_or (cond b (Some x.1) None) None) [ true ↦ refl | false ↦ refl ]
last_at-behind (y ∷ xs) x k =
    ap (λ (v : Option (Option RowValue)). option_or v (cond (eq_by_cmp key_cmp k y.0) (Some y.1) None)) (last_at-behind xs x k)
    ∙ (elim (eq_by_cmp key_cmp k x.0) as (λ b.
    option_or (option_or (cond b (Some x.1) None) (last_at key_cmp xs k)) (cond (eq_by_cmp key_cmp k y.0) (Some y.1) None)
    ≡ option_or (cond b (Some x.1) None) (option_or (last_at key_cmp xs k) (cond (eq_by_cmp key_cmp k y.0) (Some y.1) None))) [ true ↦ refl | false ↦ refl ])

-- what comes last of a list is what comes first of its reverse
last_at-reverse : (xs : Rows) (k : KeyValue) → last_at key_cmp (reverse xs) k ≡ lookup (eq_by_cmp key_cmp k) xs
last_at-reverse [] k = refl
last_at-reverse (x ∷ xs) k =
    ap (λ (ys : Rows). last_at key_cmp ys k) (reverse_onto xs x [])
    ∙ last_at-behind (reverse xs) x k
    ∙ ap (λ (v : Option (Option RowValue)). option_or (cond (eq_by_cmp key_cmp k x.0) (Some x.1) None) v) (last_at-reverse xs k)
    ∙ (elim (eq_by_cmp key_cmp k x.0) as (λ b. option_or (cond b (Some x.1) None) (lookup (eq_by_cmp key_cmp k) xs) ≡ cond b (Some x.1) (lookup (eq_by_cmp key_cmp k) xs)) [ true ↦ refl | false ↦ refl ])

-- what is done with each, and the other way round
map-reverse : {A B : Type 0} (f : A → B) (xs : List A) → map f (reverse xs) ≡ reverse (map f xs)
map-reverse f [] = refl
map-reverse {A} {B} f (x ∷ xs) =
    ap (λ (ys : List A). map f ys) (reverse_onto xs x [])
    ∙ map-append f (reverse xs) (x ∷ [])
    ∙ ap (λ (ys : List B). ys ++ f x ∷ []) (map-reverse f xs)
    ∙ sym (reverse_onto (map f xs) (f x) [])

all_behind : (P : Change → Type 0) (xs : Rows) (x : Change) → AllByRecursion P xs → P x → AllByRecursion P (xs ++ x ∷ [])
all_behind P [] x h here = (here, tt)
all_behind P (y ∷ xs) x h here = (h.0, all_behind P xs x h.1 here)

all_reversed : (P : Change → Type 0) (xs : Rows) → AllByRecursion P xs → AllByRecursion P (reverse xs)
all_reversed P [] h = tt
all_reversed P (x ∷ xs) h = rw (reverse_onto xs x []) (all_behind P (reverse xs) x (all_reversed P xs h.1) h.0)

rising-reverse : (xs : Rows) → Ordered (λ a b. key_cmp b a ≡ Less) xs → IsRising key_cmp (reverse xs)
rising-reverse [] h = tt
rising-reverse (x ∷ xs) h =
    rw (reverse_onto xs x [])
    (ordered_with (λ a b. key_cmp a b ≡ Less) (reverse xs) x [] (subst (IsRising key_cmp) (sym (append-nil (reverse xs))) (rising-reverse xs h.1)) (all_reversed (λ e. key_cmp e.0 x.0 ≡ Less) xs h.0) tt)

each_lent : (k : KeyValue) (later : List Lent) → AllByRecursion (λ change. key_cmp change.0.now k ≡ Less) later → AllByRecursion (λ change. key_cmp change.0 k ≡ Less) (map lent_change later)
each_lent k [] h = tt
each_lent k (change ∷ later) h = (h.0, each_lent k later h.1)

falling-lent : (kept : List Lent) → IsRising (flip_args lent_cmp) kept → Ordered (λ a b. key_cmp b a ≡ Less) (map lent_change kept)
falling-lent [] h = tt
falling-lent (change ∷ later) h = (each_lent change.0.now later h.0, falling-lent later h.1)

-- ---- the kept columns of what is left

kept_end : (plan : PlanValue) (x : Change) (k : KeyValue) (v : Option (Option RowValue)) (b : Bool) → (b ≡ true → k ≡ x.0)
    → option_or (option_map (option_map (kept_of plan k)) v) (cond b (Some (option_map (kept_of plan x.0) x.1)) None) ≡ option_map (option_map (kept_of plan k)) (option_or v (cond b (Some x.1) None))
kept_end plan x k (Some put) b same = refl
kept_end plan x k None true same = ap (λ (key : KeyValue). Some (option_map (kept_of plan key) x.1)) (sym (same refl))
kept_end plan x k None false same = refl

-- what comes last of changes with their kept columns is what comes last, with its kept columns
last_at-kept : (ties : (a b : KeyValue) → key_cmp a b ≡ Equal → a ≡ b) (plan : PlanValue) (xs : Rows) (k : KeyValue) → last_at key_cmp (map (kept_change plan) xs) k ≡ option_map (option_map (kept_of plan k)) (last_at key_cmp xs k)
last_at-kept ties plan [] k = refl
last_at-kept ties plan (x ∷ xs) k =
    ap (λ (v : Option (Option RowValue)). option_or v (cond (eq_by_cmp key_cmp k x.0) (Some (option_map (kept_of plan x.0) x.1)) None)) (last_at-kept ties plan xs k)
    ∙ kept_end plan x k (last_at key_cmp xs k) (eq_by_cmp key_cmp k x.0) (λ e. ties k x.0 ((Equal-is (key_cmp k x.0)).0 e))

each_kept : (plan : PlanValue) (k : KeyValue) (xs : Rows) → AllByRecursion (λ change. key_cmp k change.0 ≡ Less) xs → AllByRecursion (λ change. key_cmp k change.0 ≡ Less) (map (kept_change plan) xs)
each_kept plan k [] h = tt
each_kept plan k (x ∷ xs) h = (h.0, each_kept plan k xs h.1)

rising-kept : (plan : PlanValue) (xs : Rows) → IsRising key_cmp xs → IsRising key_cmp (map (kept_change plan) xs)
rising-kept plan [] h = tt
rising-kept plan (x ∷ xs) h = (each_kept plan x.0 xs h.0, rising-kept plan xs h.1)

-- ---- rows of the plan's tables

last_at-none : (k : KeyValue) (xs : Rows) → AllByRecursion (λ change. key_cmp k change.0 ≡ Less) xs → last_at key_cmp xs k ≡ None
last_at-none k [] h = refl
last_at-none k (x ∷ xs) h =
    ap (λ (o : Option (Option RowValue)). option_or o (cond (eq_by_cmp key_cmp k x.0) (Some x.1) None)) (last_at-none k xs h.1)
    ∙ ap (λ (o : Ordering). cond {A = Option (Option RowValue)} (is_eq o) (Some x.1) None) h.0

-- what comes last at each key of rising ones are all of them
all_by_last : (P : KeyValue → Option RowValue → Type 0) (xs : Rows) → IsRising key_cmp xs → ((k : KeyValue) (v : Option RowValue) → last_at key_cmp xs k ≡ Some v → P k v) → AllByRecursion (λ change. P change.0 change.1) xs
all_by_last P [] h each = tt
all_by_last P (x ∷ xs) h each = (
  each x.0 x.1 here,
  all_by_last P xs h.1 (λ k v e. each k v (ap (λ (o : Option (Option RowValue)). option_or o (cond (eq_by_cmp key_cmp k x.0) (Some x.1) None)) e)),
)
  where
    here : last_at key_cmp (x ∷ xs) x.0 ≡ Some x.1
    here =
        ap (λ (o : Option (Option RowValue)). option_or o (cond (eq_by_cmp key_cmp x.0 x.0) (Some x.1) None)) (last_at-none x.0 xs h.0)
        ∙ ap (λ (o : Ordering). cond {A = Option (Option RowValue)} (is_eq o) (Some x.1) None) (tied_itself key_cmp_total x.0)

-- of the same row the same
pub of_table_if : (plan : PlanValue) (key : KeyValue) (o same : Option RowValue) → same ≡ o → IfSome o (IsOfTable plan key) → IfSome same (λ row. IsOfTable plan key row)
of_table_if plan key o same is h = subst (λ (v : Option RowValue). IfSome v (IsOfTable plan key)) (sym is) h

-- the row that a touch puts is of its key's table
of_touch : (plan : PlanValue) (touch : TouchValue) → IsTouchUnder plan touch → IfSome touch.1 (λ put. IsOfTable plan touch.0 put.row)
of_touch plan touch h = by touch.1 h.put
  where
    by : (o : Option PutValue) → IfSome o (λ put. (put.row ≡ h.row) × (passes_of plan touch.0.table h.row ≡ Ok put.passes)) → IfSome o (λ put. IsOfTable plan touch.0 put.row)
    by None e = tt
    by (Some put) e = (h.table, ap length e.0 ∙ h.width)

-- ---- the touches of copied keys

module _ (ties : (a b : KeyValue) → key_cmp a b ≡ Equal → a ≡ b) (marks : Marks) where
  abbrev left : Option PutValue → Option RowValue
  left = option_and_then passing

  abbrev inside : TouchValue → Bool
  inside touch = is_inside marks touch.0

  -- one touch more in front
  one_more : (is copied same : Bool) (later : Option (Option PutValue)) (put : Option PutValue) → (same ≡ true → copied ≡ is)
      → cond is (option_or (cond copied (option_map left later) None) (cond same (Some (left put)) None)) (cond copied (option_map left later) None)
      ≡ cond copied (option_map left (option_or later (cond same (Some put) None))) None
  one_more true true true None put h = refl
  one_more true true true (Some x) put h = refl
  one_more true true false None put h = refl
  one_more true true false (Some x) put h = refl
  one_more true false true later put h = absurd (true≢false (sym (h refl)))
  one_more true false false later put h = refl
  one_more false true true later put h = absurd (true≢false (h refl))
  one_more false true false None put h = refl
  one_more false true false (Some x) put h = refl
  one_more false false same later put h = refl

  in_front : (is : Bool) (touch : TouchValue) (later : List TouchValue) (k : KeyValue)
      → last_at key_cmp (map change_of (cond is (touch ∷ later) later)) k
      ≡ cond is (option_or (last_at key_cmp (map change_of later) k) (cond (eq_by_cmp key_cmp k touch.0) (Some (left touch.1)) None)) (last_at key_cmp (map change_of later) k)
  in_front true touch later k = refl
  in_front false touch later k = refl

  either : {A : Type 0} (b : Bool) (x : A) → x ≡ cond b x x
  either true x = refl
  either false x = refl

  last_at-copied : (touches : List TouchValue) (k : KeyValue) → last_at key_cmp (map change_of (filter inside touches)) k ≡ cond (is_inside marks k) (option_map left (last_at key_cmp touches k)) None
  last_at-copied [] k = either (is_inside marks k) None
  last_at-copied (touch ∷ later) k =
      let same : Bool = eq_by_cmp key_cmp k touch.0 in
      in_front (inside touch) touch (filter inside later) k
      ∙ ap (λ (v : Option (Option RowValue)). cond (inside touch) (option_or v (cond same (Some (left touch.1)) None)) v) (last_at-copied later k)
      ∙ one_more (inside touch) (is_inside marks k) same (last_at key_cmp later k) touch.1 (λ e. ap (is_inside marks) (ties k touch.0 ((Equal-is (key_cmp k touch.0)).0 e)))

  -- the last of the lent changes of each key, the other way round, is what the touches leave at copied keys
  lent-by_last : (touches : List TouchValue) (changes kept : List Lent) (puts : Rows)
      → map lent_change changes ≡ map change_of (filter inside touches)
      → ((k : Bor KeyValue) → change_at lent_cmp kept k ≡ last_at lent_cmp changes k)
      → puts ≡ map lent_change (reverse kept)
      → (key : KeyValue) → last_at key_cmp puts key ≡ cond (is_inside marks key) (option_map left (last_at key_cmp touches key)) None
  lent-by_last touches changes kept puts lent last made key =
      ap (λ (ps : Rows). last_at key_cmp ps key) (made ∙ map-reverse lent_change kept)
      ∙ last_at-reverse (map lent_change kept) key
      ∙ sym (change_at-lent kept (lend key))
      ∙ last (lend key)
      ∙ last_at-lent changes (lend key)
      ∙ ap (λ (cs : Rows). last_at key_cmp cs key) lent
      ∙ last_at-copied touches key

  -- the row that comes last at a key is of its table
  last_of_table : (plan : PlanValue) (touches : List TouchValue) (k : KeyValue) (v : Option PutValue) → AllByRecursion (IsTouchUnder plan) touches → last_at key_cmp touches k ≡ Some v → IfSome v (λ put. IsOfTable plan k put.row)
  last_of_table plan [] k v all e = absurd (none-some v e)
  last_of_table plan (touch ∷ later) k v all e = by (λ h. last_of_table plan later k v all.1 h) (last_at key_cmp later k) refl (eq_by_cmp key_cmp k touch.0) refl e
    where
      by : (last_at key_cmp later k ≡ Some v → IfSome v (λ put. IsOfTable plan k put.row)) → (o : Option (Option PutValue)) → last_at key_cmp later k ≡ o → (b : Bool) → eq_by_cmp key_cmp k touch.0 ≡ b
          → option_or o (cond b (Some touch.1) None) ≡ Some v → IfSome v (λ put. IsOfTable plan k put.row)
      by rest (Some x) there b same e = rest (there ∙ e)
      by rest None there true same e =
          subst (λ (key : KeyValue). IfSome v (λ put. IsOfTable plan key put.row)) (sym (ties k touch.0 ((Equal-is (key_cmp k touch.0)).0 same)))
          (subst (λ (o : Option PutValue). IfSome o (λ put. IsOfTable plan touch.0 put.row)) (same_Some touch.1 v e) (of_touch plan touch all.0))
      by rest None there false same e = absurd (none-some v e)

  left_of_table : (plan : PlanValue) (k : KeyValue) (is : Bool) (o : Option (Option PutValue)) → ((v : Option PutValue) → o ≡ Some v → IfSome v (λ put. IsOfTable plan k put.row)) → (r : Option RowValue)
      → cond is (option_map left o) None ≡ Some r → IfSome r (IsOfTable plan k)
  left_of_table plan k false o h r e = absurd (none-some r e)
  left_of_table plan k true None h r e = absurd (none-some r e)
  left_of_table plan k true (Some None) h r e = subst (λ (o : Option RowValue). IfSome o (IsOfTable plan k)) (same_Some None r e) tt
  left_of_table plan k true (Some (Some put)) h r e = subst (λ (o : Option RowValue). IfSome o (IsOfTable plan k)) (same_Some (passing put) r e) (by put.passes)
    where
      by : (b : Bool) → IfSome (cond b (Some put.row) None) (IsOfTable plan k)
      by true = h (Some put) refl
      by false = tt

  -- the rows that are left are of the plan's tables
  pub left_of_tables : (plan : PlanValue) (touches : List TouchValue) (changes kept : List Lent) → AllByRecursion (IsTouchUnder plan) touches
      → map lent_change changes ≡ map change_of (filter inside touches)
      → ((k : Bor KeyValue) → change_at lent_cmp kept k ≡ last_at lent_cmp changes k)
      → IsRising (flip_args lent_cmp) kept
      → AreOfTables plan (map lent_change (reverse kept))
  left_of_tables plan touches changes kept under lent last falling =
      all_by_last (λ k v. IfSome v (IsOfTable plan k)) (map lent_change (reverse kept))
      (subst (IsRising key_cmp) (sym (map-reverse lent_change kept)) (rising-reverse (map lent_change kept) (falling-lent kept falling)))
      (λ k v e. left_of_table plan k (is_inside marks k) (last_at key_cmp touches k) (λ put there. last_of_table plan touches k put under there) v (sym (lent-by_last touches changes kept (map lent_change (reverse kept)) lent last refl k) ∙ e))

  -- and with their kept columns these
  pub left-by_last : (plan : PlanValue) (touches : List TouchValue) (changes kept : List Lent) (puts : Rows)
      → map lent_change changes ≡ map change_of (filter inside touches)
      → ((k : Bor KeyValue) → change_at lent_cmp kept k ≡ last_at lent_cmp changes k)
      → puts ≡ map (kept_change plan) (map lent_change (reverse kept))
      → (key : KeyValue) → last_at key_cmp puts key ≡ option_map (option_map (kept_of plan key)) (cond (is_inside marks key) (option_map left (last_at key_cmp touches key)) None)
  left-by_last plan touches changes kept puts lent last made key =
      ap (λ (ps : Rows). last_at key_cmp ps key) made
      ∙ last_at-kept ties plan (map lent_change (reverse kept)) key
      ∙ ap (option_map (option_map (kept_of plan key))) (lent-by_last touches changes kept (map lent_change (reverse kept)) lent last refl key)

pub rising-by_last : (plan : PlanValue) (kept : List Lent) (puts : Rows) → IsRising (flip_args lent_cmp) kept → puts ≡ map (kept_change plan) (map lent_change (reverse kept)) → IsRising key_cmp puts
rising-by_last plan kept puts falling made =
    subst (IsRising key_cmp) (sym (made ∙ ap (map (kept_change plan)) (map-reverse lent_change kept))) (rising-kept plan (reverse (map lent_change kept)) (rising-reverse (map lent_change kept) (falling-lent kept falling)))

-- ---- the rows of a chunk

abbrev put_lent : PlanValue → Bor KeyValue × Bor RowValue → Change
put_lent plan row = put_row (kept_row plan (lent_row row))

each_of : (plan : PlanValue) (rows : List (Bor KeyValue × Bor RowValue)) → map (put_lent plan) rows ≡ map put_row (map (kept_row plan) (map lent_row rows))
each_of plan [] = refl
each_of plan (x ∷ rows) = ap (λ (later : Rows). put_lent plan x ∷ later) (each_of plan rows)

above-picked : (plan : PlanValue) (k : KeyValue) (rows : ImageRows) → AllByRecursion (λ row. key_cmp k row.0 ≡ Less) rows → AllByRecursion (λ row. key_cmp k row.0 ≡ Less) (map (kept_row plan) rows)
above-picked plan k [] h = tt
above-picked plan k (x ∷ rows) h = (h.0, above-picked plan k rows h.1)

rising-picked : (plan : PlanValue) (rows : ImageRows) → IsRising key_cmp rows → IsRising key_cmp (map (kept_row plan) rows)
rising-picked plan [] h = tt
rising-picked plan (x ∷ rows) h = (above-picked plan x.0 rows h.0, rising-picked plan rows h.1)

last_at-rows : (rows : ImageRows) (k : KeyValue) → IsRising key_cmp rows → last_at key_cmp (map put_row rows) k ≡ put_by rows k
last_at-rows [] k h = refl
last_at-rows (x ∷ rows) k h =
    ap (λ (v : Option (Option RowValue)). option_or v (cond (eq_by_cmp key_cmp k x.0) (Some (Some x.1)) None)) (last_at-rows rows k h.1)
    ∙ by (eq_by_cmp key_cmp k x.0) refl
  where
    none : (v : Option RowValue) → option_or (option_map Some v) None ≡ option_map Some v
    none None = refl
    none (Some row) = refl

    by : (b : Bool) → eq_by_cmp key_cmp k x.0 ≡ b → option_or (option_map Some (row_in rows k)) (cond b (Some (Some x.1)) None) ≡ option_map Some (cond b (Some x.1) (row_in rows k))
    by true e =
        let tied : key_cmp x.0 k ≡ Equal = tied_back key_cmp_total k x.0 ((Equal-is (key_cmp k x.0)).0 e) in
        ap (λ (v : Option RowValue). option_or (option_map Some v) (Some (Some x.1))) (none_above key_cmp_total x.0 k rows tied h.0)
    by false e = none (row_in rows k)

each_put : (k : KeyValue) (rows : ImageRows) → AllByRecursion (λ row. key_cmp k row.0 ≡ Less) rows → AllByRecursion (λ row. key_cmp k row.0 ≡ Less) (map put_row rows)
each_put k [] h = tt
each_put k (x ∷ rows) h = (h.0, each_put k rows h.1)

rising-rows : (rows : ImageRows) → IsRising key_cmp rows → IsRising key_cmp (map put_row rows)
rising-rows [] h = tt
rising-rows (x ∷ rows) h = (each_put x.0 rows h.0, rising-rows rows h.1)

pub put-by_rows : (plan : PlanValue) (rows : List (Bor KeyValue × Bor RowValue)) (puts : Rows) → puts ≡ map (put_lent plan) rows → IsRising key_cmp (map lent_row rows)
    → (key : KeyValue) → last_at key_cmp puts key ≡ put_by (map (kept_row plan) (map lent_row rows)) key
put-by_rows plan rows puts made rising key =
    ap (λ (ps : Rows). last_at key_cmp ps key) (made ∙ each_of plan rows) ∙ last_at-rows (map (kept_row plan) (map lent_row rows)) key (rising-picked plan (map lent_row rows) rising)

pub rising-by_rows : (plan : PlanValue) (rows : List (Bor KeyValue × Bor RowValue)) (puts : Rows) → puts ≡ map (put_lent plan) rows → IsRising key_cmp (map lent_row rows) → IsRising key_cmp puts
rising-by_rows plan rows puts made rising =
    subst (IsRising key_cmp) (sym (made ∙ each_of plan rows)) (rising-rows (map (kept_row plan) (map lent_row rows)) (rising-picked plan (map lent_row rows) rising))
