-- Streams that still read their feeds behind a step, and the keys that they touch.
use Rattle.std.proofs.Common.{◌≡◌, ◌≢◌, ◌==◌, ℕ, suc, Bool, true, false, cond, List, [], ◌∷◌, ◌++◌, length, map, take, Option, Some, None, Result, Ok, slice_get, refl, sym, ap, subst, ◌∙◌}
use Rattle.std.proofs.lemmas.Bool.{eqb-false}
use Rattle.std.proofs.lemmas.Option.{same_Some, none-some, slice_get-map}
use Rattle.std.specs.Prelude.{nat_le}
use Rattle.std.specs.Option.{option_map, option_and_then}
use Rattle.board_laws.proofs.FeedLaws.{touched_front}
use Rattle.list_laws.proofs.Places.{one_longer}
use Rattle.pk_copy.specs.KeyOrder.{key_cmp}
use Rattle.pk_copy.specs.KeyValue.{KeyValue}
use Rattle.pk_copy.specs.Marks.{is_inside, next_table}
use Rattle.stream_core.specs.declared.step.Step.{Step}
use Rattle.stream_core.specs.declared.step.Step.TheVariants.{Offer, Advance, OpenAt, CopyRows, Close, Restart}
use Rattle.target_tables.specs.Touches.{last_at, owner_in_the_way}
use Rattle.source_feed.specs.declared.fault.FeedFault.{FeedFault}
use Rattle.source_feed.specs.History.{RowValue, touches_in, passing, kept_of, kept_at}
use Rattle.source_feed.specs.Planned.{PlannedGroupValue, FeedValue}
use Rattle.source_feed.specs.SoundGroups.{sound_groups}
use Rattle.source_feed.specs.Touches.{PutValue, PreparedValue, prepared, prepared_at}
use Rattle.board_laws.specs.Meaning.{State}
use Rattle.board_laws.specs.Cut.{cut_of}
use Rattle.board_laws.specs.Lawful.{standing_of}
use Rattle.board_laws.specs.Event.{Event, offer, advance, open_at, copy_rows, close}
use Rattle.board_laws.specs.Chunk.{takes_all, rows_taken, marks_behind}
use Rattle.board_laws.specs.StateAfter.{state_after}
use Rattle.board_laws.specs.Reading.{ReadsFeed}
use Rattle.board_laws.specs.Runs.{event_of_step, IsTouchedIn}
use Rattle.board_laws.proofs.Making.{plan-after}
use Rattle.apply_core.specs.Courses.{LeadsOn}
use Rattle.apply_core.proofs.CourseStepsAreAllowed.{plus_one, at_number, of_offer}

-- ---- a stream still reads its feed

module _ (feed : FeedValue) (state : State) (reads : ReadsFeed feed state) (was is : ℕ) where
  still : (after : State) → after.plan ≡ state.plan → after.list ≡ state.list → ReadsFeed feed after
  still after plan list = record { plan = plan ∙ reads.plan; length_read = reads.length_read; list = list ∙ reads.list }

  list-copied : (c : ℕ) → (state_after state (copy_rows c)).list ≡ state.list
  list-copied c =
      elim (takes_all state c) as (λ b. (cond b (record state { marks = next_table state.marks; snapshot = None }) (record state { marks = marks_behind (rows_taken state c) state.marks })).list ≡ state.list) [ true ↦ refl | false ↦ refl ]

  reads-offer : (n : ℕ) → LeadsOn (standing_of state) (length feed.groups) was is (Offer n) → (group : PreparedValue) → prepared_at feed n ≡ Ok group → ReadsFeed feed (state_after state (offer group))
  reads-offer n leads group h = by (nat_le group.number (length state.list))
    where
      next : (planned : PlannedGroupValue) × (slice_get feed.groups (length state.list) ≡ Some planned) × (prepared feed.plan planned ≡ Ok group)
      next = at_number feed (length state.list) (Ok group) leads.1 (ap (prepared_at feed) (sym (leads.0 ∙ plus_one (length state.list))) ∙ h)

      here : slice_get (map (prepared feed.plan) feed.groups) (length (take reads.length_read (sound_groups feed))) ≡ Some (Ok group)
      here =
          ap (λ (xs : List PreparedValue). slice_get (map (prepared feed.plan) feed.groups) (length xs)) (sym reads.list)
          ∙ slice_get-map (prepared feed.plan) feed.groups (length state.list)
          ∙ ap (λ (o : Option PlannedGroupValue). option_map (prepared feed.plan) o) next.1
          ∙ ap (λ (r : Result PreparedValue FeedFault). Some r) next.2

      by : (b : Bool) → ReadsFeed feed (cond b state (record { plan = state.plan; list = state.list ++ group ∷ []; applied = state.applied; marks = state.marks; snapshot = state.snapshot }))
      by true = reads
      by false = record {
        plan = reads.plan;
        length_read = suc reads.length_read;
        list = ap (λ (xs : List PreparedValue). xs ++ group ∷ []) reads.list ∙ one_longer (map (prepared feed.plan) feed.groups) reads.length_read group here;
      }

  -- behind a step on its course a stream still reads its feed
  pub reads-on : (step : Step) (event : Event) → LeadsOn (standing_of state) (length feed.groups) was is step → event_of_step feed step ≡ Some event → ReadsFeed feed (state_after state event)
  reads-on (Offer n) event leads h =
      let one : (group : PreparedValue) × (prepared_at feed n ≡ Ok group) × (offer group ≡ event) = of_offer feed n event h in
      subst (λ e. ReadsFeed feed (state_after state e)) one.2 (reads-offer n leads one.0 one.1)
  reads-on Advance event leads h = subst (λ e. ReadsFeed feed (state_after state e)) (same_Some advance event h) (still (state_after state advance) refl refl)
  reads-on (OpenAt m) event leads h = subst (λ e. ReadsFeed feed (state_after state e)) (same_Some (open_at m) event h) (still (state_after state (open_at m)) refl refl)
  reads-on (CopyRows c) event leads h = subst (λ e. ReadsFeed feed (state_after state e)) (same_Some (copy_rows c) event h) (still (state_after state (copy_rows c)) (plan-after state (copy_rows c)) (list-copied c))
  reads-on Close event leads h = subst (λ e. ReadsFeed feed (state_after state e)) (same_Some close event h) (still (state_after state close) refl refl)
  reads-on Restart event leads h = absurd leads

-- ---- keys of a cut

-- a key with a row in a stream's cut is one that its applied groups touch
pub cut_front : (state : State) (key : KeyValue) (row : RowValue) → cut_of state key ≡ Some row → IsTouchedIn (take state.applied state.list) key
cut_front state key row e = λ untouched. none-some row (sym (no_row (is_inside state.marks key) untouched) ∙ e)
  where
    no_row : (b : Bool) → last_at key_cmp (touches_in (take state.applied state.list)) key ≡ None → cond b (kept_at state.plan state.list state.applied key) None ≡ None
    no_row true untouched = ap (λ (t : Option (Option PutValue)). option_map (kept_of state.plan key) (option_and_then passing (option_and_then (λ put. put) t))) untouched
    no_row false untouched = refl

-- a key that a front of a stream's list touches its feed touches
pub read_touched : (feed : FeedValue) (state : State) (k : ℕ) (key : KeyValue) → ReadsFeed feed state → IsTouchedIn (take k state.list) key → IsTouchedIn (sound_groups feed) key
read_touched feed state k key reads touched =
    touched_front reads.length_read (sound_groups feed) key (subst (λ (groups : List PreparedValue). IsTouchedIn groups key) reads.list (touched_front k state.list key touched))

-- a row in the way is another stream's, at a key where one is due
pub record IsInTheWay (s : ℕ) (due : Option RowValue) (there : Option (ℕ × RowValue)) (owner : ℕ) : Type 0 where
  pub row : RowValue
  pub is_due : due ≡ Some row
  pub old : RowValue
  pub stands : there ≡ Some (owner, old)
  pub other : owner ≢ s

pub in_the_way : (s : ℕ) (due : Option RowValue) (there : Option (ℕ × RowValue)) (owner : ℕ) → owner_in_the_way s (option_map Some due) there ≡ Some owner → IsInTheWay s due there owner
in_the_way s None there owner h = absurd (none-some owner h)
in_the_way s (Some row) None owner h = absurd (none-some owner h)
in_the_way s (Some row) (Some x) owner h = by (x.0 == s) refl h
  where
    by : (b : Bool) → (x.0 == s) ≡ b → cond b None (Some x.0) ≡ Some owner → IsInTheWay s (Some row) (Some x) owner
    by true e h = absurd (none-some owner h)
    by false e h =
        let same : x.0 ≡ owner = same_Some x.0 owner h in
        record { row = row; is_due = refl; old = x.1; stands = ap (λ (o : ℕ). Some (o, x.1)) same; other = λ is. eqb-false x.0 s e (same ∙ is) }
