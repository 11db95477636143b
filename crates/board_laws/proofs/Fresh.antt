-- A board of which nothing is read and copied is lawful; equal rows and lists.
use Rattle.std.proofs.Common.{◌≡◌, ℕ, ◌+◌, ◌≤◌, ◌==◌, ◌&&◌, Bool, true, false, cond, List, [], ◌∷◌, length, map, take, min, Option, Some, None, slice_get, refl, sym, ap, subst, ◌∙◌, arith}
use Rattle.std.proofs.lemmas.Bool.Decides.{nat_tests}
use Rattle.std.proofs.lemmas.List.{length-map, length-take}
use Rattle.std.proofs.lemmas.Option.{slice_get-map, same_Some, none-some}
use Rattle.std.specs.Prelude.{nat_lt, nat_le}
use Rattle.std.specs.List.{AllByRecursion, filter}
use Rattle.std.specs.Option.{option_map, option_and_then}
use Rattle.list_laws.proofs.Places.{no_place}
use Rattle.filter_rule.specs.PlanValue.{PlanValue}
use Rattle.filter_rule.specs.WellFormed.{IsPlan}
use Rattle.pk_copy.specs.KeyValue.{KeyValue}
use Rattle.pk_copy.specs.Marks.{is_inside, is_beyond, is_past}
use Rattle.source_feed.specs.Touches.{PreparedValue}
use Rattle.source_feed.specs.History.{RowValue, IsPassed}
use Rattle.source_feed.specs.Image.{ImageRows, chunk_of}
use Rattle.board_laws.specs.Meaning.{State}
use Rattle.board_laws.specs.KeptRows.{passed_rows}
use Rattle.board_laws.specs.Cut.{cut_of}
use Rattle.board_laws.specs.Lawful.{start_of, IsReadList, IsSoundState, IsLawful}
use Rattle.board_laws.specs.Chunk.{rows_left, takes_all}
use Rattle.board_laws.proofs.History.{passed_at-alike}
use Rattle.board_laws.proofs.Lookups.{all-at}

start-read : (plan : PlanValue) → IsReadList plan []
start-read plan = record {
  prepared = λ i g e. no_place i g e;
  planned = λ i g e. no_place i g e;
  order = record {
    numbered = λ i g e. no_place i g e;
    canonical = λ i g e. no_place i g e;
    from_empty = λ i g e. no_place i g e;
    growing = λ i j earlier later less e f. no_place i earlier e;
  };
}

pub start-sound : (plan : PlanValue) → IsPlan plan → IsSoundState (start_of plan)
start-sound plan well = record {
  plan = well;
  list = start-read plan;
  standing = record { applied = omega arith; done = omega arith; snapshot = tt };
  marks = record { within = omega arith; current = tt };
  tables = refl;
  upto = tt;
}

-- nothing is kept of no group
pub start-cut : (plan : PlanValue) (key : KeyValue) → cut_of (start_of plan) key ≡ None
start-cut plan key = elim (is_inside (start_of plan).marks key) as (λ b. ◌≡◌ {A = Option RowValue} (cond b None None) None) [ true ↦ refl | false ↦ refl ]

-- a stream of a fresh board is the start of a plan
started : (plans : List PlanValue) (s : ℕ) (state : State) → slice_get (map start_of plans) s ≡ Some state → (plan : PlanValue) × (slice_get plans s ≡ Some plan) × (start_of plan ≡ state)
started plans s state e = by (slice_get plans s) refl (sym (slice_get-map start_of plans s) ∙ e)
  where
    by : (o : Option PlanValue) → slice_get plans s ≡ o → option_map start_of (slice_get plans s) ≡ Some state → (plan : PlanValue) × (slice_get plans s ≡ Some plan) × (start_of plan ≡ state)
    by None e f = let clash : None ≡ Some state = sym (ap (λ (o : Option PlanValue). option_map start_of o) e) ∙ f in absurd (none-some state clash)
    by (Some plan) e f = (plan, e, same_Some (start_of plan) state (sym (ap (λ (o : Option PlanValue). option_map start_of o) e) ∙ f))

pub fresh-lawful : (plans : List PlanValue) → 1 ≤ length plans → length plans ≤ 64 → AllByRecursion IsPlan plans
    → ((s t : ℕ) (one other : PlanValue) → slice_get plans s ≡ Some one → slice_get plans t ≡ Some other → one.tables ≡ other.tables)
    → IsLawful (record { streams = map start_of plans; rows = [] })
fresh-lawful plans some few well tables = record {
  some = subst (λ n. 1 ≤ n) (sym (length-map plans start_of)) some;
  few = subst (λ n. n ≤ 64) (sym (length-map plans start_of)) few;
  sound = λ s state e. (let p = started plans s state e in subst (λ (x : State). IsSoundState x) p.2 (start-sound p.0 (all-at IsPlan plans s p.0 well p.1)));
  tables = λ s t one other e f. (let p = started plans s one e in
      let q = started plans t other f in
      ap (λ (x : State). x.plan.tables) (sym p.2) ∙ tables s t p.0 q.0 p.1 q.1 ∙ ap (λ (x : State). x.plan.tables) q.2);
  rising = tt;
  cuts = λ s key. sym (no_cut s (slice_get (map start_of plans) s) refl key);
}
  where
    no_cut : (s : ℕ) (o : Option State) → slice_get (map start_of plans) s ≡ o → (key : KeyValue) → option_and_then (λ state. cut_of state key) (slice_get (map start_of plans) s) ≡ None
    no_cut s None e key = ap (λ (o : Option State). option_and_then (λ state. cut_of state key) o) e
    no_cut s (Some state) e key =
        let p = started plans s state e in
        ap (λ (o : Option State). option_and_then (λ state. cut_of state key) o) e ∙ ap (λ (x : State). cut_of x key) (sym p.2) ∙ start-cut p.0 key

-- ---- images

-- rows that a history keeps are those that any other keeps with the same first groups
pub passed-alike : (one other : List PreparedValue) (n : ℕ) (rows : ImageRows) → take n one ≡ take n other → IsPassed one n rows → IsPassed other n rows
passed-alike one other n rows e kept = record { rising = kept.rising; each_key = λ key. kept.each_key key ∙ passed_at-alike one other n key e }

-- ---- chunks

same-test : (copying of_table beyond : Bool) → copying ≡ true → (of_table && beyond) ≡ (copying && (of_table && beyond))
same-test copying of_table beyond c = sym (ap (λ b. b && (of_table && beyond)) c)

filter-alike : {X : Type 0} (p q : X → Bool) → ((x : X) → p x ≡ q x) → (xs : List X) → filter p xs ≡ filter q xs
filter-alike p q h [] = refl
filter-alike {X} p q h (x ∷ xs) = ap (λ b. cond b (x ∷ filter p xs) (filter p xs)) (h x) ∙ ap (λ (ys : List X). cond (q x) (x ∷ ys) ys) (filter-alike p q h xs)

-- the first rows past the mark of the first table that isn't done are those that are left
pub chunk-left : (state : State) (n : ℕ) → nat_lt state.marks.done state.marks.tables ≡ true
    → chunk_of (passed_rows state.list state.applied) state.marks.done state.marks.upto n ≡ take n (rows_left state)
chunk-left state n copying =
    ap (λ (rows : ImageRows). take n rows)
    (filter-alike (λ row. row.0.table == state.marks.done && is_beyond state.marks.upto row.0) (λ row. is_past state.marks row.0)
    (λ row. same-test (nat_lt state.marks.done state.marks.tables) (row.0.table == state.marks.done) (is_beyond state.marks.upto row.0) copying) (passed_rows state.list state.applied))

-- one row more is asked for: whether it is there says whether rows are left behind the chunk
pub all-taken : (state : State) (c : ℕ) → nat_le (length (take (c + 1) (rows_left state))) c ≡ takes_all state c
all-taken state c =
    ap (λ n. nat_le n c) (length-take (c + 1) (rows_left state)) ∙ by (length (rows_left state))
  where
    by : (n : ℕ) → nat_le (min (c + 1) n) c ≡ nat_le n c
    by n = grind (arith, nat_tests)
