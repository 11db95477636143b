-- Streams that read their feeds, step by step, and feeds that share no key.
use Rattle.std.proofs.Common.{◌≡◌, ◌≢◌, ◌==◌, ℕ, zero, suc, ◌+◌, ◌<◌, inl, inr, Bool, true, false, cond, List, [], ◌∷◌, ◌++◌, length, map, take, drop, Option, Some, None, Result, Ok, Err, slice_get, refl, sym, ap, subst, ◌∙◌, arith}
use Rattle.std.proofs.lemmas.Bool.{eqb-false, true≢false}
use Rattle.std.proofs.lemmas.Grind.{flat_map-append}
use Rattle.std.proofs.lemmas.List.{take-append-drop}
use Rattle.std.proofs.lemmas.Option.{same_Some, none-some, slice_get-map}
use borrow.Author.Tests.{eqb-true, eq-eqb, leb-false}
use Rattle.std.specs.Prelude.{MatchOption, nat_le}
use Rattle.std.specs.Option.{option_or, option_map, option_map_or, option_and_then}
use Rattle.std.specs.Result.{result_ok}
use Rattle.list_laws.proofs.Fronts.{front_of}
use Rattle.list_laws.proofs.Places.{one_longer}
use Rattle.list_laws.specs.Outcome.{◌>>=◌}
use Rattle.filter_rule.specs.PlanValue.{PlanValue}
use Rattle.pk_copy.specs.KeyOrder.{key_cmp}
use Rattle.pk_copy.specs.KeyValue.{KeyValue}
use Rattle.pk_copy.specs.Marks.{is_inside, next_table}
use Rattle.stream_core.specs.declared.step.Step.{Step}
use Rattle.stream_core.specs.declared.step.Step.TheVariants.{Offer, Advance, OpenAt, CopyRows, Close, Restart}
use Rattle.target_tables.specs.Contents.{value_at}
use Rattle.target_tables.specs.Touches.{last_at, owner_in_the_way}
use Rattle.source_feed.specs.declared.fault.FeedFault.{FeedFault}
use Rattle.source_feed.specs.Planned.{PlannedGroupValue, FeedValue}
use Rattle.source_feed.specs.Touches.{PutValue, TouchValue, PreparedValue, touches_of, prepared, prepared_if, prepared_at}
use Rattle.source_feed.specs.History.{RowValue, touches_in, passing, kept_of, kept_at}
use Rattle.source_feed.specs.SoundGroups.{sound_groups}
use Rattle.source_feed.proofs.ImageLaws.{last_at-append}
use Rattle.board_laws.specs.declared.refusal.Refusal.TheVariants.{NoStream, WrongPlan, Diverged, Core, OwnedByOther, FeedCount, Memory}
use Rattle.board_laws.specs.declared.step_refusal.StepRefusal.TheVariants.{Unprepared, Refused}
use Rattle.board_laws.specs.Meaning.{State, Meaning}
use Rattle.board_laws.specs.Cut.{cut_of, cut_in, own_row}
use Rattle.board_laws.specs.Lawful.{IsLawful}
use Rattle.board_laws.specs.Event.{Event, offer, advance, open_at, copy_rows, close, restart}
use Rattle.board_laws.specs.Chunk.{takes_all, rows_taken, marks_behind}
use Rattle.board_laws.specs.StateAfter.{state_after}
use Rattle.board_laws.specs.Allowed.{IsAllowed, IsNext}
use Rattle.board_laws.specs.Step.{IsMade, IsRefusedFor, IsClash}
use Rattle.board_laws.specs.Runs.{event_of_step, IsTouchedIn, AreDisjoint}
use Rattle.board_laws.specs.Schedule.{Reply, IsEventStep, IsReplyBy, feed_of, unfed, IsReply, IsRun}
use Rattle.board_laws.specs.Lone.{is_hindrance, is_hindered}
use Rattle.board_laws.specs.Reading.{HasFeed, AllReadTheirFeeds}
use Rattle.board_laws.specs.RunLaws.{IsClashReply, NoneClashes}
use Rattle.board_laws.proofs.Lists.{slice_get-set}
use Rattle.board_laws.proofs.Making.{plan-after}
use Rattle.board_laws.proofs.Following.{refused_by, feed_of-some, unchanged, answered_by, one-lawful}

-- ---- beginnings of lists

-- ---- an offered group of a feed

abbrev good : PreparedValue → Result PreparedValue FeedFault
good group = Ok group

abbrev bad : FeedFault → Result PreparedValue FeedFault
bad fault = Err fault

same_ok : (x y : PreparedValue) → good x ≡ good y → x ≡ y
same_ok x y e = same_Some x y (ap result_ok e)

no_ok : {P : Type 0} (r : Result PreparedValue FeedFault) (group : PreparedValue) → result_ok r ≡ None → r ≡ good group → P
no_ok r group none e = absurd (none-some group (sym none ∙ ap result_ok e))

-- a group with touches
abbrev of_touches : PlanValue → PlannedGroupValue → List TouchValue → PreparedValue
of_touches plan planned touches = record { plan = plan; number = planned.number; position = planned.position; touches = touches }

-- a prepared group has the number of the group
number_of_prepared : (plan : PlanValue) (planned : PlannedGroupValue) (group : PreparedValue) → prepared plan planned ≡ Ok group → group.number ≡ planned.number
number_of_prepared plan planned group h = by (touches_of plan planned.number planned.changes) h
  where
    by : (r : Result (List TouchValue) FeedFault) → (r >>= λ touches. good (of_touches plan planned touches)) ≡ good group → group.number ≡ planned.number
    by (Ok touches) e = sym (ap (λ (g : PreparedValue). g.number) (same_ok (of_touches plan planned touches) group e))
    by (Err fault) e = no_ok (bad fault) group refl e

-- the place of a prepared group among a feed's groups
at_its_place : (feed : FeedValue) (n : ℕ) (group : PreparedValue) (numbered : (i : ℕ) (g : PlannedGroupValue) → slice_get feed.groups i ≡ Some g → g.number ≡ i + 1) → prepared_at feed n ≡ Ok group
    → (i : ℕ) × (group.number ≡ i + 1) × (slice_get (map (prepared feed.plan) feed.groups) i ≡ Some (Ok group))
at_its_place feed zero group numbered h = no_ok _ group refl h
at_its_place feed (suc i) group numbered h = by (slice_get feed.groups i) refl h
  where
    by : (o : Option PlannedGroupValue) → slice_get feed.groups i ≡ o → prepared_if feed o ≡ Ok group
        → (i : ℕ) × (group.number ≡ i + 1) × (slice_get (map (prepared feed.plan) feed.groups) i ≡ Some (Ok group))
    by None e h = no_ok _ group refl h
    by (Some planned) e h = (
      i,
      number_of_prepared feed.plan planned group h ∙ numbered i planned e,
      slice_get-map (prepared feed.plan) feed.groups i ∙ ap (λ (o : Option PlannedGroupValue). option_map (prepared feed.plan) o) e ∙ ap (λ (r : Result PreparedValue FeedFault). Some r) h,
    )

-- an offer is of a prepared group
abbrev is_offer : Event → Bool
is_offer (offer group) = true
is_offer advance = false
is_offer (open_at m) = false
is_offer (copy_rows c) = false
is_offer close = false
is_offer restart = false

abbrev offered : PreparedValue → Event → PreparedValue
offered group (offer other) = other
offered group advance = group
offered group (open_at m) = group
offered group (copy_rows c) = group
offered group close = group
offered group restart = group

no_offer : {P : Type 0} (event : Event) (group : PreparedValue) → is_offer event ≡ false → Some event ≡ Some (offer group) → P
no_offer event group none h = absurd (true≢false (sym (ap is_offer (same_Some event (offer group) h)) ∙ none))

of_offer : (feed : FeedValue) (step : Step) (group : PreparedValue) → event_of_step feed step ≡ Some (offer group) → (n : ℕ) × (prepared_at feed n ≡ Ok group)
of_offer feed (Offer n) group h = (n, by (prepared_at feed n) h)
  where
    by : (r : Result PreparedValue FeedFault) → option_map offer (result_ok r) ≡ Some (offer group) → r ≡ good group
    by (Ok g) e = ap good (ap (offered g) (same_Some (offer g) (offer group) e))
    by (Err fault) e = absurd (none-some (offer group) e)
of_offer feed Advance group h = no_offer advance group refl h
of_offer feed (OpenAt m) group h = no_offer (open_at m) group refl h
of_offer feed (CopyRows c) group h = no_offer (copy_rows c) group refl h
of_offer feed Close group h = no_offer close group refl h
of_offer feed Restart group h = no_offer restart group refl h

-- ---- one step

-- behind a step that nothing is against a stream still reads its feed
module _ (feeds : List FeedValue) (s : ℕ) (state : State) (has : HasFeed feeds s state) where
  still : (after : State) → after.plan ≡ state.plan → after.list ≡ state.list → HasFeed feeds s after
  still after plan list = record {
    feed = has.feed;
    fed = has.fed;
    whole = has.whole;
    reads = record { plan = plan ∙ has.reads.plan; length_read = has.reads.length_read; list = list ∙ has.reads.list };
  }

  list-copied : (c : ℕ) → (state_after state (copy_rows c)).list ≡ state.list
  list-copied c =
      elim (takes_all state c) as (λ b. (cond b (record state { marks = next_table state.marks; snapshot = None }) (record state { marks = marks_behind (rows_taken state c) state.marks })).list ≡ state.list) [ true ↦ refl | false ↦ refl ]

  has-after : (event : Event) (step : Step) → event_of_step has.feed step ≡ Some event → IsAllowed state event → HasFeed feeds s (state_after state event)
  has-after (offer group) step of_step allowed = by (nat_le group.number (length state.list)) refl
    where
      of : (n : ℕ) × (prepared_at has.feed n ≡ Ok group)
      of = of_offer has.feed step group of_step

      place : (i : ℕ) × (group.number ≡ i + 1) × (slice_get (map (prepared has.feed.plan) has.feed.groups) i ≡ Some (Ok group))
      place = at_its_place has.feed of.0 group has.whole.order.numbered of.1

      next : nat_le group.number (length state.list) ≡ false → IsNext state.list group
      next e = elim allowed.place [ inl old ↦ absurd (let above : length state.list < group.number = leb-false group.number (length state.list) e in omega (arith, old.within)) | inr new ↦ new ]

      longer : nat_le group.number (length state.list) ≡ false → state.list ++ group ∷ [] ≡ take (suc has.reads.length_read) (sound_groups has.feed)
      longer e =
          let number : group.number ≡ length state.list + 1 = (next e).number in
          let at : place.0 ≡ length state.list = omega (arith, number, place.1) in
          let here : slice_get (map (prepared has.feed.plan) has.feed.groups) (length (take has.reads.length_read (sound_groups has.feed))) ≡ Some (Ok group)
          = ap (λ (xs : List PreparedValue). slice_get (map (prepared has.feed.plan) has.feed.groups) (length xs)) (sym has.reads.list) ∙ ap (slice_get (map (prepared has.feed.plan) has.feed.groups)) (sym at) ∙ place.2 in
          ap (λ (xs : List PreparedValue). xs ++ group ∷ []) has.reads.list ∙ one_longer (map (prepared has.feed.plan) has.feed.groups) has.reads.length_read group here

      by : (b : Bool) → nat_le group.number (length state.list) ≡ b
          → HasFeed feeds s (cond b state (record { plan = state.plan; list = state.list ++ group ∷ []; applied = state.applied; marks = state.marks; snapshot = state.snapshot }))
      by true e = has
      by false e = record {
        feed = has.feed;
        fed = has.fed;
        whole = has.whole;
        reads = record { plan = has.reads.plan; length_read = suc has.reads.length_read; list = longer e };
      }
  has-after advance step of_step allowed = still (state_after state advance) refl refl
  has-after (open_at m) step of_step allowed = still (state_after state (open_at m)) refl refl
  has-after (copy_rows c) step of_step allowed = still (state_after state (copy_rows c)) (plan-after state (copy_rows c)) (list-copied c)
  has-after close step of_step allowed = still (state_after state close) refl refl
  has-after restart step of_step allowed =
      let front : (k : ℕ) × (take state.applied (take has.reads.length_read (sound_groups has.feed)) ≡ take k (sound_groups has.feed)) = front_of state.applied has.reads.length_read (sound_groups has.feed) in
      record {
        feed = has.feed;
        fed = has.fed;
        whole = has.whole;
        reads = record { plan = has.reads.plan; length_read = front.0; list = ap (λ (xs : List PreparedValue). take state.applied xs) has.reads.list ∙ front.1 };
      }

-- the same where the step is of the feed of the stream's number
has-behind : (feeds : List FeedValue) (s : ℕ) (state : State) (feed : FeedValue) (event : Event) (step : Step) → HasFeed feeds s state → slice_get feeds s ≡ Some feed → event_of_step feed step ≡ Some event → IsAllowed state event
    → HasFeed feeds s (state_after state event)
has-behind feeds s state feed event step has fed of_step allowed =
    let same : feed ≡ has.feed = same_Some feed has.feed (sym fed ∙ has.fed) in
    has-after feeds s state has event step (ap (λ f. event_of_step f step) (sym same) ∙ of_step) allowed

one-reads : (feeds : List FeedValue) (old : Meaning) (step : ℕ × Step) (reply : Reply) (new : Meaning) → IsReply feeds old step reply new → AllReadTheirFeeds feeds old → AllReadTheirFeeds feeds new
one-reads feeds old step (Err refusal) new h all = subst (AllReadTheirFeeds feeds) (sym (unchanged feeds old step refusal new h)) all
one-reads feeds old step (Ok answer) new h all =
    let one : (feed : FeedValue) × (slice_get feeds step.0 ≡ Some feed) × IsEventStep feed old step.0 step.1 (Ok answer) new = answered_by feeds old step answer new h in
    let made : IsMade old step.0 one.2.event answer new = one.2.stepped in
    λ t x e.
    elim (slice_get-set old.streams step.0 (state_after made.state one.2.event) x t (ap (λ (streams : List State). slice_get streams t) (sym made.streams) ∙ e)) [
      | inl same ↦
          subst (λ u. HasFeed feeds u x) (sym same.0)
          (subst (λ (z : State). HasFeed feeds step.0 z) same.1 (has-behind feeds step.0 made.state one.0 one.2.event step.1 (all step.0 made.state made.stream) one.1 one.2.of_step made.allowed))
      | inr other ↦ all t x other.1
    ]

pub run-reads : (feeds : List FeedValue) (old new : Meaning) (steps : List (ℕ × Step)) (replies : List Reply) → IsRun feeds old steps replies new → AllReadTheirFeeds feeds old → AllReadTheirFeeds feeds new
run-reads feeds old new [] [] run all = subst (AllReadTheirFeeds feeds) (sym run) all
run-reads feeds old new [] (reply ∷ replies) run all = elim run [ ]
run-reads feeds old new (step ∷ steps) [] run all = elim run [ ]
run-reads feeds old new (step ∷ steps) (reply ∷ replies) run all = run-reads feeds run.0 new steps replies run.2 (one-reads feeds old step reply run.0 run.1 all)

-- ---- keys of feeds

-- a key that a front of groups touches the groups touch
pub touched_front : (k : ℕ) (groups : List PreparedValue) (key : KeyValue) → IsTouchedIn (take k groups) key → IsTouchedIn groups key
touched_front k groups key touched =
    λ none.
    touched
    (right_none (last_at key_cmp (touches_in (drop k groups)) key) (last_at key_cmp (touches_in (take k groups)) key)
    (sym (last_at-append (touches_in (take k groups)) (touches_in (drop k groups)) key)
    ∙ ap (λ (ts : List TouchValue). last_at key_cmp ts key) (sym (flat_map-append (λ (g : PreparedValue). g.touches) (take k groups) (drop k groups)))
    ∙ ap (λ (gs : List PreparedValue). last_at key_cmp (touches_in gs) key) (take-append-drop k groups)
    ∙ none))
  where
    right_none : (a b : Option (Option PutValue)) → option_or a b ≡ None → b ≡ None
    right_none None b e = e
    right_none (Some x) b e = absurd (none-some x (sym e))

-- a key with a row in a stream's cut is one that its feed touches
cut-touched : (feeds : List FeedValue) (s : ℕ) (state : State) (has : HasFeed feeds s state) (key : KeyValue) (row : RowValue) → cut_of state key ≡ Some row → IsTouchedIn (sound_groups has.feed) key
cut-touched feeds s state has key row e =
    let front : (k : ℕ) × (take state.applied (take has.reads.length_read (sound_groups has.feed)) ≡ take k (sound_groups has.feed)) = front_of state.applied has.reads.length_read (sound_groups has.feed) in
    let groups : take state.applied state.list ≡ take front.0 (sound_groups has.feed) = ap (λ (xs : List PreparedValue). take state.applied xs) has.reads.list ∙ front.1 in
    touched_front front.0 (sound_groups has.feed) key
    (λ untouched. none-some row (sym (no_row (is_inside state.marks key) (ap (λ (gs : List PreparedValue). last_at key_cmp (touches_in gs) key) groups ∙ untouched)) ∙ e))
  where
    no_row : (b : Bool) → last_at key_cmp (touches_in (take state.applied state.list)) key ≡ None → cond b (kept_at state.plan state.list state.applied key) None ≡ None
    no_row true untouched = ap (λ (t : Option (Option PutValue)). option_map (kept_of state.plan key) (option_and_then passing (option_and_then (λ put. put) t))) untouched
    no_row false untouched = refl

-- ---- no row is in the way

-- a row in the way is another stream's, at a key where one is due
in_the_way : (s : ℕ) (due : Option RowValue) (there : Option (ℕ × RowValue)) (owner : ℕ) → owner_in_the_way s (option_map Some due) there ≡ Some owner
    → (row : RowValue) × (other : ℕ × RowValue) × (due ≡ Some row) × (there ≡ Some other) × (other.0 ≢ s)
in_the_way s None there owner h = absurd (none-some owner h)
in_the_way s (Some row) None owner h = absurd (none-some owner h)
in_the_way s (Some row) (Some x) owner h = (row, x, refl, refl, by (x.0 == s) refl h)
  where
    by : (b : Bool) → (x.0 == s) ≡ b → cond b None (Some x.0) ≡ Some owner → x.0 ≢ s
    by true e h = absurd (none-some owner h)
    by false e h = eqb-false x.0 s e

no_clash : (feeds : List FeedValue) (old : Meaning) (s : ℕ) (state : State) (feed : FeedValue) (event : Event) (step : Step) (key : KeyValue) (owner : ℕ) → AreDisjoint feeds → IsLawful old → AllReadTheirFeeds feeds old
    → slice_get old.streams s ≡ Some state → slice_get feeds s ≡ Some feed → event_of_step feed step ≡ Some event → IsClash old.rows s state event key owner → ⊥
no_clash feeds old s state feed event step key owner disjoint lawful all here fed of_step clash =
    let way = in_the_way s (cut_of (state_after state event) key) (value_at key_cmp old.rows key) owner clash.least.here in
    let mine : HasFeed feeds s (state_after state event) = has-behind feeds s state feed event step (all s state here) fed of_step clash.allowed in
    let cut : cut_in old way.1.0 key ≡ Some way.1.1 = sym (lawful.cuts way.1.0 key) ∙ ap (own_row way.1.0) way.3 ∙ ap (λ b. cond b (Some way.1.1) None) (eq-eqb way.1.0 way.1.0 refl) in
    by way.1.0 way.1.1 way.4 mine (cut-touched feeds s (state_after state event) mine key way.0 way.2) (slice_get old.streams way.1.0) refl cut
  where
    by : (t : ℕ) (row : RowValue) → t ≢ s → (mine : HasFeed feeds s (state_after state event)) → IsTouchedIn (sound_groups mine.feed) key → (o : Option State) → slice_get old.streams t ≡ o
        → option_and_then (λ x. cut_of x key) o ≡ Some row → ⊥
    by t row other mine touched None at e = none-some row e
    by t row other mine touched (Some x) at e =
        let theirs : HasFeed feeds t x = all t x at in
        other (disjoint t s theirs.feed mine.feed key theirs.fed mine.fed (cut-touched feeds t x theirs key row e) touched)

one-free : (feeds : List FeedValue) (old : Meaning) (step : ℕ × Step) (reply : Reply) (new : Meaning) → AreDisjoint feeds → IsLawful old → AllReadTheirFeeds feeds old → IsReply feeds old step reply new → IsClashReply reply → ⊥
one-free feeds old step (Ok answer) new disjoint lawful all h c = c
one-free feeds old step (Err (Unprepared fault)) new disjoint lawful all h c = c
one-free feeds old step (Err (Refused NoStream)) new disjoint lawful all h c = c
one-free feeds old step (Err (Refused WrongPlan)) new disjoint lawful all h c = c
one-free feeds old step (Err (Refused Diverged)) new disjoint lawful all h c = c
one-free feeds old step (Err (Refused (Core refusal))) new disjoint lawful all h c = c
one-free feeds old step (Err (Refused FeedCount)) new disjoint lawful all h c = c
one-free feeds old step (Err (Refused Memory)) new disjoint lawful all h c = c
one-free feeds old step (Err (Refused (OwnedByOther key owner))) new disjoint lawful all h c = by (feed_of feeds old step.0) refl h
  where
    stands : (feed : FeedValue) → slice_get feeds step.0 ≡ Some feed → (event : Event) → event_of_step feed step.1 ≡ Some event → (o : Option State) → slice_get old.streams step.0 ≡ o
        → MatchOption o (OwnedByOther key owner ≡ NoStream) (λ state. IsRefusedFor old step.0 state event (OwnedByOther key owner)) → ⊥
    stands feed fed event of_step None at h = true≢false (ap (λ r. is_hindrance (Refused r)) h)
    stands feed fed event of_step (Some state) at h = no_clash feeds old step.0 state feed event step.1 key owner disjoint lawful all at fed of_step h

    no_clash_unfed : (o : Option State) → refused_by (Refused (OwnedByOther key owner)) ≡ refused_by (Refused (option_map_or (λ (x : State). FeedCount) o NoStream)) → ⊥
    no_clash_unfed None e = true≢false (ap is_hindered e)
    no_clash_unfed (Some x) e = true≢false (ap is_hindered e)

    by : (o : Option FeedValue) → feed_of feeds old step.0 ≡ o
        → MatchOption o ((refused_by (Refused (OwnedByOther key owner)) ≡ refused_by (Refused (unfed old step.0))) × (new ≡ old)) (λ feed. IsReplyBy feed old step.0 step.1 (Err (Refused (OwnedByOther key owner))) new) → ⊥
    by None e h = no_clash_unfed (slice_get old.streams step.0) h.0
    by (Some feed) e h = stands feed (feed_of-some feeds old step.0 feed e) h.event h.of_step (slice_get old.streams step.0) refl h.stepped.0

pub none_clashes : (feeds : List FeedValue) (old new : Meaning) (steps : List (ℕ × Step)) (replies : List Reply) → IsRun feeds old steps replies new → IsLawful old → AllReadTheirFeeds feeds old → AreDisjoint feeds → NoneClashes replies
none_clashes feeds old new [] [] run lawful all disjoint = tt
none_clashes feeds old new [] (reply ∷ replies) run lawful all disjoint = elim run [ ]
none_clashes feeds old new (step ∷ steps) [] run lawful all disjoint = tt
none_clashes feeds old new (step ∷ steps) (reply ∷ replies) run lawful all disjoint = (
  one-free feeds old step reply run.0 disjoint lawful all run.1,
  none_clashes feeds run.0 new steps replies run.2 (one-lawful feeds old step reply run.0 run.1 lawful) (one-reads feeds old step reply run.0 run.1 all) disjoint,
)
