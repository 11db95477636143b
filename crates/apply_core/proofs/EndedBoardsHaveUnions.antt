-- Boards whose streams have ended: their rows are those that the feeds keep.
use Rattle.std.proofs.Common.{◌≡◌, ◌≢◌, ◌==◌, ℕ, zero, suc, ◌<◌, ◌≤◌, Bool, true, false, cond, List, [], ◌∷◌, length, take, Option, Some, None, slice_get, refl, sym, ap, subst, ◌∙◌, arith}
use Rattle.std.proofs.lemmas.Bool.{ne_eqb}
use Rattle.std.proofs.lemmas.Option.{same_Some, none-some, slice_get_within}
use borrow.Author.Tests.{eqb-true, eq-eqb, ltb-false}
use Rattle.std.specs.Prelude.{nat_lt, IfSome}
use Rattle.std.specs.List.{AllByRecursion}
use Rattle.std.specs.Option.{option_or, option_map, option_and_then}
use Rattle.std.specs.declared.cmp.Ordering.TheVariants.{Less}
use Rattle.std.proofs.lemmas.List.{take-take}
use Rattle.list_laws.proofs.Fronts.{All-append}
use Rattle.list_laws.proofs.Places.{place_of, slice_get-take}
use Rattle.filter_rule.specs.PlanValue.{PlanValue}
use Rattle.pk_copy.specs.KeyOrder.{key_cmp}
use Rattle.pk_copy.specs.KeyValue.{KeyValue}
use Rattle.pk_copy.specs.Marks.{Marks, AreMarks, IsOfCurrent, current_mark, covers, is_inside, waiting, copied}
use Rattle.target_tables.specs.Contents.{value_at}
use Rattle.target_tables.specs.Rising.{IsRising}
use Rattle.target_tables.specs.Touches.{last_at}
use Rattle.source_feed.specs.History.{RowValue, touches_in, passing, kept_of, kept_at}
use Rattle.source_feed.specs.Planned.{FeedValue}
use Rattle.source_feed.specs.Prepared.{IsTouchUnder}
use Rattle.source_feed.specs.SoundGroups.{sound_groups}
use Rattle.source_feed.specs.Touches.{PutValue, TouchValue, PreparedValue}
use Rattle.dump.specs.DumpRowsValue.{DumpRowsValue, row_with_key}
use Rattle.board_laws.specs.Meaning.{State, TargetRows, Meaning}
use Rattle.board_laws.specs.Cut.{cut_of, own_row}
use Rattle.board_laws.specs.Lawful.{standing_of, IsSoundState}
use Rattle.board_laws.specs.Reading.{ReadsFeed, HasFeed}
use Rattle.board_laws.proofs.Lookups.{Ties, is_key, same_key, same_rows}
use Rattle.board_laws.proofs.History.{passed_at-alike}
use Rattle.apply_core.specs.Shown.{all_rows}
use Rattle.apply_core.proofs.ShowLaws.{all-unowned}
use Rattle.apply_core.proofs.PhasesTellNumbers.{running-done}
use Rattle.apply_core.specs.Ended.{HasEnded, IsFedBoard, AllHaveEnded, kept_of_feed, kept_by, KeepApart, IsRowsUnion}

-- ---- keys of planned tables

abbrev IsOfTable : ℕ → TouchValue → Type 0
IsOfTable tables touch = touch.0.table < tables

tables_of : (plan : PlanValue) (n : ℕ) → length plan.tables ≡ n → (touches : List TouchValue) → AllByRecursion (IsTouchUnder plan) touches → AllByRecursion (IsOfTable n) touches
tables_of plan n e [] h = tt
tables_of plan n e (touch ∷ later) h = (subst (λ m. touch.0.table < m) e h.0.table, tables_of plan n e later h.1)

all_touches : (n : ℕ) (groups : List PreparedValue) → ((i : ℕ) (group : PreparedValue) → slice_get groups i ≡ Some group → AllByRecursion (IsOfTable n) group.touches) → AllByRecursion (IsOfTable n) (touches_in groups)
all_touches n [] h = tt
all_touches n (group ∷ later) h = All-append (IsOfTable n) group.touches (touches_in later) (h 0 group refl) (all_touches n later (λ i g e. h (suc i) g e))

-- a key of another table isn't touched
untouched : (ties : Ties) (n : ℕ) (touches : List TouchValue) (key : KeyValue) → AllByRecursion (IsOfTable n) touches → n ≤ key.table → last_at key_cmp touches key ≡ None
untouched ties n [] key h past = refl
untouched ties n (touch ∷ later) key h past =
    ap (λ (v : Option (Option PutValue)). option_or v (cond (is_key key touch.0) (Some touch.1) None)) (untouched ties n later key h.1 past) ∙ by (is_key key touch.0) refl
  where
    by : (b : Bool) → is_key key touch.0 ≡ b → cond (is_key key touch.0) (Some touch.1) None ≡ None
    by true e =
        let same : key.table ≡ touch.0.table = ap (λ (k : KeyValue). k.table) (same_key ties key touch.0 e) in
        absurd (let less : touch.0.table < n = h.0 in omega (arith, same, less, past))
    by false e = ap (λ b. cond b (Some touch.1) None) e

-- ---- the cut of a stream that has ended

length-take_most : {A : Type 0} (n : ℕ) (xs : List A) → length (take n xs) ≤ n
length-take_most zero xs = omega arith
length-take_most (suc n) [] = omega arith
length-take_most (suc n) (x ∷ xs) = let rest : length (take n xs) ≤ n = length-take_most n xs in omega (arith, rest)

-- where all tables are copied, a key is copied exactly where its table is one of them
inside-all : (marks : Marks) → AreMarks marks → marks.done ≡ marks.tables → (key : KeyValue) → is_inside marks key ≡ nat_lt key.table marks.tables
inside-all marks are all key = by marks.upto are.current (nat_lt key.table marks.done) (key.table == marks.done) ∙ ap (nat_lt key.table) all
  where
    by : (o : Option KeyValue) → IfSome o (IsOfCurrent marks) → (b c : Bool) → covers (cond b copied (cond c (current_mark o) waiting)) key ≡ b
    by o h true c = refl
    by None h false true = refl
    by None h false false = refl
    by (Some last) h false c = absurd (let less : marks.done < marks.tables = h.copying in omega (arith, less, all))

module _ (ties : Ties) (feed : FeedValue) (state : State) (sound : IsSoundState state) (reads : ReadsFeed feed state) (ended : HasEnded feed state) where
  -- its list is all of the feed's groups
  kept-whole : (key : KeyValue) → kept_at state.plan state.list state.applied key ≡ kept_of_feed feed key
  kept-whole key =
      let enough : length feed.groups ≤ reads.length_read =
      (let most : length (take reads.length_read (sound_groups feed)) ≤ reads.length_read = length-take_most reads.length_read (sound_groups feed) in
      let many : length (take reads.length_read (sound_groups feed)) ≡ length feed.groups = ap (λ (xs : List PreparedValue). length xs) (sym reads.list) ∙ ended.read in
      omega (arith, most, many)) in
      ap (λ n. kept_at state.plan state.list n key) ended.applied
      ∙ ap (option_map (kept_of state.plan key))
      (passed_at-alike state.list (sound_groups feed) (length feed.groups) key
      (ap (λ (xs : List PreparedValue). take (length feed.groups) xs) reads.list ∙ take-take (length feed.groups) reads.length_read (sound_groups feed) enough))
      ∙ ap (λ (plan : PlanValue). kept_at plan (sound_groups feed) (length feed.groups) key) reads.plan

  touched-tables : AllByRecursion (IsOfTable state.marks.tables) (touches_in (take state.applied state.list))
  touched-tables =
      all_touches state.marks.tables (take state.applied state.list)
      (λ i group e.
      let here : slice_get state.list i ≡ Some group = slice_get-take state.applied state.list i group e in
      tables_of group.plan state.marks.tables (ap (λ (plan : PlanValue). length plan.tables) (sound.list.planned i group here) ∙ sym sound.tables) group.touches (sound.list.prepared i group here).touches)

  ended-cut : (key : KeyValue) → cut_of state key ≡ kept_of_feed feed key
  ended-cut key = ap (λ b. cond b (kept_at state.plan state.list state.applied key) None) (inside-all state.marks sound.marks (running-done (standing_of state) ended.running) key) ∙ by (nat_lt key.table state.marks.tables) refl ∙ kept-whole key
    where
      by : (b : Bool) → nat_lt key.table state.marks.tables ≡ b → cond b (kept_at state.plan state.list state.applied key) None ≡ kept_at state.plan state.list state.applied key
      by true e = refl
      by false e =
          sym (ap (λ (t : Option (Option PutValue)). option_map (kept_of state.plan key) (option_and_then passing (option_and_then (λ put. put) t)))
          (untouched ties state.marks.tables (touches_in (take state.applied state.list)) key touched-tables (ltb-false key.table state.marks.tables e)))

-- ---- the rows that feeds keep

none-kept : (feeds : List FeedValue) (key : KeyValue) → ((t : ℕ) (feed : FeedValue) → slice_get feeds t ≡ Some feed → kept_of_feed feed key ≡ None) → kept_by feeds key ≡ None
none-kept [] key h = refl
none-kept (feed ∷ later) key h = ap (λ (v : Option RowValue). option_or v (kept_by later key)) (h 0 feed refl) ∙ none-kept later key (λ t f e. h (suc t) f e)

one-kept : (feeds : List FeedValue) (key : KeyValue) (s : ℕ) (feed : FeedValue) (row : RowValue) → slice_get feeds s ≡ Some feed → kept_of_feed feed key ≡ Some row
    → ((t : ℕ) (other : FeedValue) → t ≢ s → slice_get feeds t ≡ Some other → kept_of_feed other key ≡ None) → kept_by feeds key ≡ Some row
one-kept [] key s feed row at e others = absurd (none-some feed at)
one-kept (first ∷ later) key zero feed row at e others =
    ap (λ (f : FeedValue). option_or (kept_of_feed f key) (kept_by later key)) (same_Some first feed at) ∙ ap (λ (v : Option RowValue). option_or v (kept_by later key)) e
one-kept (first ∷ later) key (suc s) feed row at e others =
    ap (λ (v : Option RowValue). option_or v (kept_by later key)) (others 0 first (λ is. absurd (omega (arith, is))) refl)
    ∙ one-kept later key s feed row at e (λ t other ne here. others (suc t) other (λ is. ne (omega (arith, is))) here)

-- ---- the rows of a target

at-unowned : (rows : TargetRows) (key : KeyValue) → row_with_key (all_rows rows) key ≡ option_map (λ (there : ℕ × RowValue). there.1) (value_at key_cmp rows key)
at-unowned [] key = refl
at-unowned (entry ∷ rows) key =
    elim (is_key key entry.0) as (λ b. cond b (Some entry.1.1) (row_with_key (all_rows rows) key) ≡ option_map (λ (there : ℕ × RowValue). there.1) (cond b (Some entry.1) (value_at key_cmp rows key))) [
      | true ↦ refl
      | false ↦ at-unowned rows key
    ]

rising-unowned : (rows : TargetRows) → IsRising key_cmp rows → IsRising key_cmp (all_rows rows)
rising-unowned [] h = tt
rising-unowned (entry ∷ rows) h = (all-unowned (λ k. key_cmp entry.0 k ≡ Less) rows h.0, rising-unowned rows h.1)

module _ (ties : Ties) (feeds : List FeedValue) (board : Meaning) (fed : IsFedBoard feeds board) (ended : AllHaveEnded feeds board) where
  -- a feed has a stream, whose row at a key is what the feed keeps there
  own-kept : (s : ℕ) (feed : FeedValue) → slice_get feeds s ≡ Some feed → (key : KeyValue) → own_row s (value_at key_cmp board.rows key) ≡ kept_of_feed feed key
  own-kept s feed at key =
      let within : s < length board.streams = (let less : s < length feeds = slice_get_within feeds s feed at in omega (arith, less, fed.count)) in
      let here : (state : State) × (slice_get board.streams s ≡ Some state) = place_of board.streams s within in
      let has : HasFeed feeds s here.0 = fed.reads s here.0 here.1 in
      let same : has.feed ≡ feed = same_Some has.feed feed (sym has.fed ∙ at) in
      fed.lawful.cuts s key
      ∙ ap (λ (o : Option State). option_and_then (λ x. cut_of x key) o) here.1
      ∙ ended-cut ties feed here.0 (fed.lawful.sound s here.0 here.1) (subst (λ (f : FeedValue). ReadsFeed f here.0) same has.reads) (ended s feed here.0 at here.1) key

  -- the stream of a row has a feed
  has-feed : (s : ℕ) (key : KeyValue) (row : RowValue) → own_row s (value_at key_cmp board.rows key) ≡ Some row → (feed : FeedValue) × (slice_get feeds s ≡ Some feed)
  has-feed s key row e = by (slice_get board.streams s) refl (sym (fed.lawful.cuts s key) ∙ e)
    where
      by : (o : Option State) → slice_get board.streams s ≡ o → option_and_then (λ x. cut_of x key) o ≡ Some row → (feed : FeedValue) × (slice_get feeds s ≡ Some feed)
      by None at e = absurd (none-some row e)
      by (Some state) at e = let has : HasFeed feeds s state = fed.reads s state at in (has.feed, has.fed)

  row-kept : (key : KeyValue) → option_map (λ (there : ℕ × RowValue). there.1) (value_at key_cmp board.rows key) ≡ kept_by feeds key
  row-kept key = by (value_at key_cmp board.rows key) refl
    where
      by : (o : Option (ℕ × RowValue)) → value_at key_cmp board.rows key ≡ o → option_map (λ (there : ℕ × RowValue). there.1) o ≡ kept_by feeds key
      by None e = sym (none-kept feeds key (λ t feed at. sym (own-kept t feed at key) ∙ ap (own_row t) e))
      by (Some there) e =
          let mine : own_row there.0 (value_at key_cmp board.rows key) ≡ Some there.1 = ap (own_row there.0) e ∙ ap (λ b. cond b (Some there.1) None) (eq-eqb there.0 there.0 refl) in
          let has : (feed : FeedValue) × (slice_get feeds there.0 ≡ Some feed) = has-feed there.0 key there.1 mine in
          sym (one-kept feeds key there.0 has.0 there.1 has.1 (sym (own-kept there.0 has.0 has.1 key) ∙ mine)
          (λ t other ne at. sym (own-kept t other at key) ∙ ap (own_row t) e ∙ ap (λ b. cond b (Some there.1) None) (ne_eqb there.0 t (λ is. ne (sym is)))))

  -- a row has one owner
  one-owner : (o : Option (ℕ × RowValue)) (s t : ℕ) → own_row s o ≢ None → own_row t o ≢ None → s ≡ t
  one-owner None s t mine theirs = absurd (mine refl)
  one-owner (Some there) s t mine theirs = sym (by s mine) ∙ by t theirs
    where
      by : (n : ℕ) → own_row n (Some there) ≢ None → there.0 ≡ n
      by n own = decided (there.0 == n) refl own
        where
          decided : (b : Bool) → (there.0 == n) ≡ b → cond b (Some there.1) None ≢ None → there.0 ≡ n
          decided true e own = eqb-true there.0 n e
          decided false e own = absurd (own refl)

  kept-apart : KeepApart feeds
  kept-apart s t one other key at_s at_t mine theirs =
      one-owner (value_at key_cmp board.rows key) s t (λ none. mine (sym (own-kept s one at_s key) ∙ none)) (λ none. theirs (sym (own-kept t other at_t key) ∙ none))

  pub union-kept : IsRowsUnion feeds (all_rows board.rows)
  union-kept = record {
    rising = rising-unowned board.rows fed.lawful.rising;
    each_key = λ key. at-unowned board.rows key ∙ row-kept key;
    apart = kept-apart;
  }

-- rows that are such a union are the same
pub one-union : (ties : Ties) (feeds : List FeedValue) (one other : DumpRowsValue) → IsRowsUnion feeds one → IsRowsUnion feeds other → one ≡ other
one-union ties feeds one other a b = same_rows ties one other a.rising b.rising (λ q. a.each_key q ∙ sym (b.each_key q))
