-- A chunk of rows: behind it the copied keys are the old ones and the chunk's, so the stream's cut is the old one
-- and the chunk.
use Rattle.std.proofs.Common.{◌≡◌, ℕ, ◌+◌, ◌-◌, ◌==◌, ◌&&◌, ◌||◌, Bool, true, false, cond, [], ◌∷◌, ◌++◌, length, drop, Option, Some, None, Ordering, slice_get, refl, sym, ap, subst, ◌∙◌, arith, append_assoc}
use Rattle.std.proofs.lemmas.Bool.{true≢false}
use Rattle.std.proofs.lemmas.List.{take-append-drop, take_all}
use Rattle.std.proofs.lemmas.Bool.Decides.{nat_tests}
use borrow.Author.Tests.{leb-true}
use Rattle.std.specs.Prelude.{nat_lt, unwrap_or}
use Rattle.std.specs.declared.cmp.Ordering.TheVariants.{Less, Equal, Greater}
use Rattle.std.specs.List.{AllByRecursion}
use Rattle.std.specs.Option.{option_map, option_map_or}
use Rattle.std.specs.Ordering.{ordering_reverse, is_le, is_gt}
use Rattle.pk_copy.specs.KeyOrder.{key_cmp}
use Rattle.pk_copy.specs.KeyOrderLaws.{key_cmp_total}
use Rattle.pk_copy.specs.KeyValue.{KeyValue}
use Rattle.pk_copy.specs.Marks.{Marks, current_mark, covers, is_inside, is_beyond, is_past, moved_to, next_table, waiting, up_to, copied}
use Rattle.target_tables.specs.Rising.{IsRising}
use Rattle.source_feed.specs.History.{RowValue, passed_at}
use Rattle.source_feed.specs.Image.{ImageRows, row_in}
use Rattle.board_laws.specs.Meaning.{State}
use Rattle.board_laws.specs.KeptRows.{passed_rows}
use Rattle.board_laws.proofs.PassedCut.{passed_cut}
use Rattle.board_laws.specs.Chunk.{rows_left, rows_taken, takes_all, marks_behind, copied_state}
use Rattle.board_laws.specs.Touching.{put_by}
use Rattle.board_laws.proofs.Lists.{parts_of_last, empty_without_last}
use Rattle.board_laws.proofs.Lookups.{Ties, all_right, filter-passes, rising-filter, lookup-filter, lookup-front}
use Rattle.board_laws.proofs.KeptList.{list-is_passed}

-- ---- which keys are copied behind a chunk

-- below the next number are the numbers below this one and itself
below_next : (t d : ℕ) → nat_lt t (d + 1) ≡ (nat_lt t d || (t == d))
below_next t d = grind (arith, nat_tests)

le_or_gt : (r : Ordering) → (is_le r || is_gt r) ≡ true
le_or_gt Less = refl
le_or_gt Equal = refl
le_or_gt Greater = refl

-- the table done: by whether the key's table comes before it (a) or is it (b)
next-by : (a b after next copying : Bool) (upto : Option KeyValue) (key : KeyValue) → next ≡ (a || b) → copying ≡ true
    → covers (cond next copied (cond after waiting waiting)) key ≡ (covers (cond a copied (cond b (current_mark upto) waiting)) key || (copying && (b && is_beyond upto key)))
next-by true b after next copying upto key n c = ap (λ v. covers (cond v copied (cond after waiting waiting)) key) n
next-by false true after next copying None key n c = ap (λ v. covers (cond v copied (cond after waiting waiting)) key) n ∙ sym (ap (λ v. v && true) c)
next-by false true after next copying (Some u) key n c =
    ap (λ v. covers (cond v copied (cond after waiting waiting)) key) n
    ∙ sym (le_or_gt (key_cmp key u))
    ∙ sym (ap (λ v. is_le (key_cmp key u) || (v && is_gt (key_cmp key u))) c)
next-by false false true next copying upto key n c = ap (λ v. covers (cond v copied waiting) key) n ∙ sym (ap (λ v. v && false) c)
next-by false false false next copying upto key n c = ap (λ v. covers (cond v copied waiting) key) n ∙ sym (ap (λ v. v && false) c)

-- a key up to another is up to every greater one
le_before : (key u last : KeyValue) → is_le (key_cmp key u) ≡ true → is_gt (key_cmp last u) ≡ true → is_le (key_cmp key last) ≡ true
le_before key u last le gt = by (key_cmp last u) refl (key_cmp key u) refl
  where
    less : key_cmp last u ≡ Greater → key_cmp u last ≡ Less
    less e = key_cmp_total.antisymm u last ∙ ap ordering_reverse e

    by : (r : Ordering) → key_cmp last u ≡ r → (q : Ordering) → key_cmp key u ≡ q → is_le (key_cmp key last) ≡ true
    by Less e q f = absurd (true≢false (sym gt ∙ ap is_gt e))
    by Equal e q f = absurd (true≢false (sym gt ∙ ap is_gt e))
    by Greater e Less f = ap is_le (key_cmp_total.trans key u last f (less e))
    by Greater e Equal f = ap is_le (key_cmp_total.congr key u last f ∙ less e)
    by Greater e Greater f = absurd (true≢false (sym le ∙ ap is_le f))

-- the mark moved to a later key
moved-by : (a b copying : Bool) (upto : Option KeyValue) (key last : KeyValue) → copying ≡ true → is_beyond upto last ≡ true
    → covers (cond a copied (cond b (up_to last) waiting)) key
    ≡ (covers (cond a copied (cond b (current_mark upto) waiting)) key || ((copying && (b && is_beyond upto key)) && is_le (key_cmp key last)))
moved-by true b copying upto key last c beyond = refl
moved-by false true copying None key last c beyond = sym (ap (λ v. (v && true) && is_le (key_cmp key last)) c)
moved-by false true copying (Some u) key last c beyond =
    by (key_cmp key u) refl ∙ sym (ap (λ v. is_le (key_cmp key u) || ((v && is_gt (key_cmp key u)) && is_le (key_cmp key last))) c)
  where
    by : (r : Ordering) → key_cmp key u ≡ r → is_le (key_cmp key last) ≡ (is_le (key_cmp key u) || (is_gt (key_cmp key u) && is_le (key_cmp key last)))
    by Less e = le_before key u last (ap is_le e) beyond ∙ sym (ap (λ r. is_le r || (is_gt r && is_le (key_cmp key last))) e)
    by Equal e = le_before key u last (ap is_le e) beyond ∙ sym (ap (λ r. is_le r || (is_gt r && is_le (key_cmp key last))) e)
    by Greater e = sym (ap (λ r. is_le r || (is_gt r && is_le (key_cmp key last))) e)
moved-by false false copying upto key last c beyond = sym (ap (λ v. (v && false) && is_le (key_cmp key last)) c)

pub and-left : (a b : Bool) → (a && b) ≡ true → a ≡ true
and-left true b h = refl
and-left false b h = absurd (true≢false (sym h))

pub and-right : (a b : Bool) → (a && b) ≡ true → b ≡ true
and-right true b h = h
and-right false b h = absurd (true≢false (sym h))

module _ (marks : Marks) (copying : nat_lt marks.done marks.tables ≡ true) (key : KeyValue) where
  -- with the table done, the keys that were copied and those past them
  pub inside-next : is_inside (next_table marks) key ≡ (is_inside marks key || is_past marks key)
  inside-next =
      next-by (nat_lt key.table marks.done) (key.table == marks.done) (key.table == marks.done + 1) (nat_lt key.table (marks.done + 1)) (nat_lt marks.done marks.tables) marks.upto key
      (below_next key.table marks.done) copying

  -- with the mark moved to a key past it, the keys that were copied and those past them up to that key
  pub inside-moved : (last : KeyValue) → is_past marks last ≡ true → is_inside (moved_to last marks) key ≡ (is_inside marks key || (is_past marks key && is_le (key_cmp key last)))
  inside-moved last past =
      moved-by (nat_lt key.table marks.done) (key.table == marks.done) (nat_lt marks.done marks.tables) marks.upto key last copying
      (and-right (last.table == marks.done) (is_beyond marks.upto last) (and-right (nat_lt marks.done marks.tables) (last.table == marks.done && is_beyond marks.upto last) past))

-- ---- the cut

-- the row at a key that is copied now: one of the chunk, or one that was copied before
pub cut-copied : (inside new : Bool) (kept : Option RowValue) → cond (inside || new) kept None ≡ unwrap_or (option_map Some (cond new kept None)) (cond inside kept None)
cut-copied true true None = refl
cut-copied true true (Some row) = refl
cut-copied true false kept = refl
cut-copied false true None = refl
cut-copied false true (Some row) = refl
cut-copied false false kept = refl

and-cond : {A : Type 0} (a b : Bool) (x : Option A) → cond b (cond a x None) None ≡ cond (a && b) x None
and-cond true true x = refl
and-cond true false x = refl
and-cond false true x = refl
and-cond false false x = refl

module _ (ties : Ties) (state : State) where
  pub left-rising : IsRising key_cmp (rows_left state)
  left-rising = rising-filter (λ row. is_past state.marks row.0) (passed_rows state.list state.applied) (list-is_passed ties state.list state.applied).rising

  -- the rows that are left: at each key past the mark the kept one
  pub left-at : (key : KeyValue) → row_in (rows_left state) key ≡ cond (is_past state.marks key) (passed_at state.list state.applied key) None
  left-at key =
      lookup-filter ties (λ k. is_past state.marks k) (passed_rows state.list state.applied) key
      ∙ ap (λ (v : Option RowValue). cond (is_past state.marks key) v None) ((list-is_passed ties state.list state.applied).each_key key)

  -- a chunk that ends with this row: at each key past the mark and up to that row's the kept one
  module _ (c : ℕ) (last : KeyValue × RowValue) (ends : slice_get (rows_taken state c) (length (rows_taken state c) - 1) ≡ Some last) where
    abbrev front : ImageRows
    front = (parts_of_last (rows_taken state c) last ends).0

    parts : rows_taken state c ≡ front ++ last ∷ []
    parts = (parts_of_last (rows_taken state c) last ends).1

    whole : rows_left state ≡ front ++ last ∷ drop c (rows_left state)
    whole =
        sym (take-append-drop c (rows_left state))
        ∙ ap (λ (rows : ImageRows). rows ++ drop c (rows_left state)) parts
        ∙ append_assoc front (last ∷ []) (drop c (rows_left state))

    pub last-past : is_past state.marks last.0 ≡ true
    last-past =
        let all : AllByRecursion (λ row. is_past state.marks row.0 ≡ true) (front ++ last ∷ drop c (rows_left state)) =
        subst (λ (rows : ImageRows). AllByRecursion (λ row. is_past state.marks row.0 ≡ true) rows) whole (filter-passes (λ row. is_past state.marks row.0) (passed_rows state.list state.applied)) in
        (all_right (λ row. is_past state.marks row.0 ≡ true) front (last ∷ drop c (rows_left state)) all).0

    pub taken-at : (key : KeyValue) → row_in (rows_taken state c) key ≡ cond (is_past state.marks key && is_le (key_cmp key last.0)) (passed_at state.list state.applied key) None
    taken-at key =
        ap (λ (rows : ImageRows). row_in rows key) parts
        ∙ lookup-front front last (drop c (rows_left state)) (subst (λ (rows : ImageRows). IsRising key_cmp rows) whole left-rising) key
        ∙ ap (λ (rows : ImageRows). cond (is_le (key_cmp key last.0)) (row_in rows key) None) (sym whole)
        ∙ ap (λ (v : Option RowValue). cond (is_le (key_cmp key last.0)) v None) (left-at key)
        ∙ and-cond (is_past state.marks key) (is_le (key_cmp key last.0)) (passed_at state.list state.applied key)

  -- behind a chunk stands at each key its row, or what stood there
  pub cut-after_copy : nat_lt state.marks.done state.marks.tables ≡ true → (c : ℕ) (key : KeyValue) → passed_cut (copied_state state c) key ≡ unwrap_or (put_by (rows_taken state c) key) (passed_cut state key)
  cut-after_copy copying c key = by (takes_all state c) refl
    where
      kept : Option RowValue
      kept = passed_at state.list state.applied key

      all : takes_all state c ≡ true → row_in (rows_taken state c) key ≡ cond (is_past state.marks key) (passed_at state.list state.applied key) None
      all e = ap (λ (rows : ImageRows). row_in rows key) (take_all c (rows_left state) (leb-true (length (rows_left state)) c e)) ∙ left-at key

      moved : (o : Option (KeyValue × RowValue)) → slice_get (rows_taken state c) (length (rows_taken state c) - 1) ≡ o
          → cond (is_inside (option_map_or (λ row. moved_to row.0 state.marks) o state.marks) key) (passed_at state.list state.applied key) None ≡ unwrap_or (put_by (rows_taken state c) key) (passed_cut state key)
      moved None e = sym (ap (λ (rows : ImageRows). unwrap_or (put_by rows key) (passed_cut state key)) (empty_without_last (rows_taken state c) e))
      moved (Some last) e =
          ap (λ b. cond b (passed_at state.list state.applied key) None) (inside-moved state.marks copying key last.0 (last-past c last e))
          ∙ cut-copied (is_inside state.marks key) (is_past state.marks key && is_le (key_cmp key last.0)) (passed_at state.list state.applied key)
          ∙ ap (λ (v : Option RowValue). unwrap_or (option_map Some v) (passed_cut state key)) (sym (taken-at c last e key))

      by : (b : Bool) → takes_all state c ≡ b → passed_cut (copied_state state c) key ≡ unwrap_or (put_by (rows_taken state c) key) (passed_cut state key)
      by true e =
          ap (λ b. passed_cut (cond b (record { plan = state.plan; list = state.list; applied = state.applied; marks = next_table state.marks; snapshot = None })
          (record { plan = state.plan; list = state.list; applied = state.applied; marks = marks_behind (rows_taken state c) state.marks; snapshot = state.snapshot })) key) e
          ∙ ap (λ b. cond b (passed_at state.list state.applied key) None) (inside-next state.marks copying key)
          ∙ cut-copied (is_inside state.marks key) (is_past state.marks key) (passed_at state.list state.applied key)
          ∙ ap (λ (v : Option RowValue). unwrap_or (option_map Some v) (passed_cut state key)) (sym (all e))
      by false e =
          ap (λ b. passed_cut (cond b (record { plan = state.plan; list = state.list; applied = state.applied; marks = next_table state.marks; snapshot = None })
          (record { plan = state.plan; list = state.list; applied = state.applied; marks = marks_behind (rows_taken state c) state.marks; snapshot = state.snapshot })) key) e
          ∙ moved (slice_get (rows_taken state c) (length (rows_taken state c) - 1)) refl
