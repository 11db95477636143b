-- Streams that go on, and the keys that they don't touch.
use Rattle.std.proofs.Common.{◌≡◌, ◌≢◌, ℕ, ◌+◌, ◌≤◌, inl, inr, Bool, true, false, cond, List, [], ◌∷◌, ◌++◌, length, take, drop, Option, Some, None, Result, Ok, Err, slice_get, set, refl, sym, ap, subst, ◌∙◌, arith}
use Rattle.std.proofs.lemmas.Grind.{flat_map-append}
use Rattle.std.proofs.lemmas.List.{take-append-drop, take-append-le, take-take, length-set}
use Rattle.std.proofs.lemmas.Option.{same_Some, none-some, slice_get_past, slice_get_cases}
use Rattle.std.specs.Prelude.{nat_le}
use Rattle.std.specs.Option.{option_or, option_map, option_and_then}
use Rattle.std.specs.Result.{result_ok}
use Rattle.std.specs.List.{AllByRecursion}
use Rattle.list_laws.proofs.Fronts.{All-append}
use Rattle.list_laws.proofs.Places.{slice_get-set_other}
use Rattle.filter_rule.specs.PlanValue.{PlanValue}
use Rattle.pk_copy.specs.KeyOrder.{key_cmp}
use Rattle.pk_copy.specs.KeyValue.{KeyValue}
use Rattle.pk_copy.specs.Marks.{Marks, is_inside}
use Rattle.stream_core.specs.declared.step.Step.{Step}
use Rattle.stream_core.specs.declared.step.Step.TheVariants.{Offer, Advance, OpenAt, CopyRows, Close, Restart}
use Rattle.target_tables.specs.Contents.{value_at}
use Rattle.target_tables.specs.Touches.{last_at}
use Rattle.source_feed.specs.declared.fault.FeedFault.{FeedFault}
use Rattle.source_feed.specs.Planned.{FeedValue}
use Rattle.source_feed.specs.Touches.{PutValue, TouchValue, PreparedValue, prepared_at}
use Rattle.source_feed.specs.History.{KeptRow, touches_in, passing, kept_of, kept_at}
use Rattle.source_feed.proofs.ImageLaws.{last_at-append}
use Rattle.board_laws.specs.declared.answer.Answer.{Answer}
use Rattle.board_laws.specs.Meaning.{State, Meaning}
use Rattle.board_laws.specs.Cut.{cut_of, cut_in, own_row}
use Rattle.board_laws.specs.Lawful.{IsLawful}
use Rattle.board_laws.specs.Event.{Event, offer, advance}
use Rattle.board_laws.specs.StateAfter.{state_after}
use Rattle.board_laws.specs.Step.{IsMade}
use Rattle.board_laws.specs.Runs.{IsTouchedIn, event_of_step}
use Rattle.board_laws.specs.Schedule.{Reply, IsEventStep, IsReply, IsRun}
use Rattle.board_laws.proofs.Lists.{slice_get-set}
use Rattle.board_laws.proofs.Following.{unchanged, answered_by, one-lawful}
use Rattle.change_laws.specs.Since.{HasGoneOn, HaveGoneOn, applied_behind, HasTouched, IsTouchedSince, GoesOnBy, HasMoved}
use Rattle.change_laws.proofs.Standing.{same-standing}

-- ---- one stream

same-state : (state : State) → HasGoneOn state state
same-state state = record { plan = refl; marks = refl; applied = omega arith; begins = refl }

both : (old between new : State) → HasGoneOn old between → HasGoneOn between new → HasGoneOn old new
both old between new a b = record {
  plan = b.plan ∙ a.plan;
  marks = b.marks ∙ a.marks;
  applied = omega (arith, a.applied, b.applied);
  begins =
      sym (take-take old.applied between.applied new.list a.applied)
      ∙ ap (λ (xs : List PreparedValue). take old.applied xs) b.begins
      ∙ take-take old.applied between.applied between.list a.applied
      ∙ a.begins;
}

-- a group that is read, or is one of those that were
on-offered : (state : State) (group : PreparedValue) → state.applied ≤ length state.list → HasGoneOn state (state_after state (offer group))
on-offered state group fits =
    elim (nat_le group.number (length state.list)) as (λ b. HasGoneOn state (cond b state (record { plan = state.plan; list = state.list ++ group ∷ []; applied = state.applied; marks = state.marks; snapshot = state.snapshot }))) [
      | true ↦ same-state state
      | false ↦ record { plan = refl; marks = refl; applied = omega arith; begins = take-append-le state.applied state.list (group ∷ []) fits }
    ]

on-advanced : (state : State) → HasGoneOn state (state_after state advance)
on-advanced state = record { plan = refl; marks = refl; applied = omega arith; begins = refl }

-- by the event of such a step
on-event : (feed : FeedValue) (state : State) (step : Step) (event : Event) → GoesOnBy step → event_of_step feed step ≡ Some event → state.applied ≤ length state.list → HasGoneOn state (state_after state event)
on-event feed state (Offer n) event by_step e fits = by (prepared_at feed n) e
  where
    by : (r : Result PreparedValue FeedFault) → option_map offer (result_ok r) ≡ Some event → HasGoneOn state (state_after state event)
    by (Ok group) e = subst (λ (x : Event). HasGoneOn state (state_after state x)) (same_Some (offer group) event e) (on-offered state group fits)
    by (Err fault) e = absurd (none-some event e)
on-event feed state Advance event by_step e fits = subst (λ (x : Event). HasGoneOn state (state_after state x)) (same_Some advance event e) (on-advanced state)
on-event feed state (OpenAt m) event by_step e fits = absurd by_step
on-event feed state (CopyRows c) event by_step e fits = absurd by_step
on-event feed state Close event by_step e fits = absurd by_step
on-event feed state Restart event by_step e fits = absurd by_step

-- ---- all streams

same-board_goes_on : (board other : Meaning) → other ≡ board → HaveGoneOn board other
same-board_goes_on board other same = record {
  count = ap (λ (b : Meaning). length b.streams) same;
  each = λ s before after stood stands.
      subst (λ (x : State). HasGoneOn before x) (same_Some before after (sym stood ∙ ap (λ (b : Meaning). slice_get b.streams s) (sym same) ∙ stands)) (same-state before);
}

none-goes_on : (board : Meaning) → HaveGoneOn board board
none-goes_on board = same-board_goes_on board board refl

made-goes_on : (feed : FeedValue) (old new : Meaning) (s : ℕ) (step : Step) (event : Event) (answer : Answer) → GoesOnBy step → IsLawful old → event_of_step feed step ≡ Some event → IsMade old s event answer new
    → HaveGoneOn old new
made-goes_on feed old new s step event answer by_step lawful of_step made = record {
  count = ap (λ (xs : List State). length xs) made.streams ∙ length-set old.streams s (state_after made.state event);
  each = λ t before after stood stands.
      elim (slice_get-set old.streams s (state_after made.state event) after t (ap (λ (xs : List State). slice_get xs t) (sym made.streams) ∙ stands)) [
        | inl same ↦
            let is : made.state ≡ before = same_Some made.state before (sym made.stream ∙ ap (slice_get old.streams) (sym same.0) ∙ stood) in
            let gone : HasGoneOn made.state (state_after made.state event) = on-event feed made.state step event by_step of_step (lawful.sound s made.state made.stream).standing.applied in
            subst (λ (x : State). HasGoneOn x after) is (subst (λ (x : State). HasGoneOn made.state x) same.1 gone)
        | inr other ↦ subst (λ (x : State). HasGoneOn before x) (same_Some before after (sym stood ∙ other.1)) (same-state before)
      ];
}

step-goes_on : (feeds : List FeedValue) (old new : Meaning) (s : ℕ) (step : Step) (reply : Reply) → GoesOnBy step → IsLawful old → IsReply feeds old (s, step) reply new → HaveGoneOn old new
step-goes_on feeds old new s step (Ok answer) by_step lawful h =
    let one : (feed : FeedValue) × (slice_get feeds s ≡ Some feed) × IsEventStep feed old s step (Ok answer) new = answered_by feeds old (s, step) answer new h in
    made-goes_on one.0 old new s step one.2.event answer by_step lawful one.2.of_step one.2.stepped
step-goes_on feeds old new s step (Err refusal) by_step lawful h = same-board_goes_on old new (unchanged feeds old (s, step) refusal new h)

pub goes_on-again : (old between new : Meaning) → HaveGoneOn old between → HaveGoneOn between new → HaveGoneOn old new
goes_on-again old between new a b = record {
  count = b.count ∙ a.count;
  each = λ s before after stood stands.
      elim (slice_get_cases between.streams s).1 [
        | inl there ↦ both before there.0 after (a.each s before there.0 stood there.2) (b.each s there.0 after there.2 stands)
        | inr past ↦
            let fits : length new.streams ≤ s = subst (λ n. n ≤ s) (sym b.count) past.0 in
            absurd (none-some after (sym (slice_get_past new.streams s fits) ∙ stands))
      ];
}

-- ---- moves

pub stands-still : (feeds : List FeedValue) (board : Meaning) → HaveGoneOn board board × HasMoved feeds board board
stands-still feeds board = (none-goes_on board, record { steps = []; replies = []; onwards = tt; run = refl })

pub step-moves : (feeds : List FeedValue) (old new : Meaning) (s : ℕ) (step : Step) (reply : Reply) → GoesOnBy step → IsReply feeds old (s, step) reply new → HasMoved feeds old new
step-moves feeds old new s step reply by_step h = record { steps = (s, step) ∷ []; replies = reply ∷ []; onwards = (by_step, tt); run = (new, h, refl) }

-- another stream stands as it stood
pub others-stand : (feeds : List FeedValue) (old new : Meaning) (s : ℕ) (step : Step) (reply : Reply) → IsReply feeds old (s, step) reply new → (t : ℕ) → t ≢ s → slice_get new.streams t ≡ slice_get old.streams t
others-stand feeds old new s step (Ok answer) h t other =
    let one : (feed : FeedValue) × (slice_get feeds s ≡ Some feed) × IsEventStep feed old s step (Ok answer) new = answered_by feeds old (s, step) answer new h in
    ap (λ (xs : List State). slice_get xs t) one.2.stepped.streams ∙ slice_get-set_other old.streams s (state_after one.2.stepped.state one.2.event) t other
others-stand feeds old new s step (Err refusal) h t other = ap (λ (b : Meaning). slice_get b.streams t) (unchanged feeds old (s, step) refusal new h)

run-both : (feeds : List FeedValue) (old between new : Meaning) (steps others : List (ℕ × Step)) (replies answers : List Reply) → IsRun feeds old steps replies between → IsRun feeds between others answers new
    → IsRun feeds old (steps ++ others) (replies ++ answers) new
run-both feeds old between new [] others [] answers one other = subst (λ (b : Meaning). IsRun feeds b others answers new) one other
run-both feeds old between new [] others (reply ∷ replies) answers one other = elim one [ ]
run-both feeds old between new (step ∷ steps) others [] answers one other = elim one [ ]
run-both feeds old between new (step ∷ steps) others (reply ∷ replies) answers one other = (one.0, one.1, run-both feeds one.0 between new steps others replies answers one.2 other)

pub moves-add_up : (feeds : List FeedValue) (old between new : Meaning) → HasMoved feeds old between → HasMoved feeds between new → HasMoved feeds old new
moves-add_up feeds old between new a b = record {
  steps = a.steps ++ b.steps;
  replies = a.replies ++ b.replies;
  onwards = All-append (λ (step : ℕ × Step). GoesOnBy step.1) a.steps b.steps a.onwards b.onwards;
  run = run-both feeds old between new a.steps b.steps a.replies b.replies a.run b.run;
}

run-goes_on : (feeds : List FeedValue) (old new : Meaning) (steps : List (ℕ × Step)) (replies : List Reply) → IsLawful old → AllByRecursion (λ (step : ℕ × Step). GoesOnBy step.1) steps → IsRun feeds old steps replies new
    → HaveGoneOn old new
run-goes_on feeds old new [] [] lawful onwards run = same-board_goes_on old new run
run-goes_on feeds old new [] (reply ∷ replies) lawful onwards run = elim run [ ]
run-goes_on feeds old new (step ∷ steps) [] lawful onwards run = elim run [ ]
run-goes_on feeds old new (step ∷ steps) (reply ∷ replies) lawful onwards run =
    goes_on-again old run.0 new (step-goes_on feeds old run.0 step.0 step.1 reply onwards.0 lawful run.1)
    (run-goes_on feeds run.0 new steps replies (one-lawful feeds old step reply run.0 run.1 lawful) onwards.1 run.2)

pub moved-goes_on : (feeds : List FeedValue) (old new : Meaning) → IsLawful old → HasMoved feeds old new → HaveGoneOn old new
moved-goes_on feeds old new lawful moved = run-goes_on feeds old new moved.steps moved.replies lawful moved.onwards moved.run

-- ---- keys that they don't touch

last-still : (one other : List PreparedValue) (a b : ℕ) (key : KeyValue) → a ≤ b → take a other ≡ take a one → last_at key_cmp (touches_in (drop a (take b other))) key ≡ None
    → last_at key_cmp (touches_in (take b other)) key ≡ last_at key_cmp (touches_in (take a one)) key
last-still one other a b key le begins none =
    let first : List PreparedValue = take a (take b other) in
    let later : List PreparedValue = drop a (take b other) in
    ap (λ (xs : List PreparedValue). last_at key_cmp (touches_in xs) key) (sym (take-append-drop a (take b other)))
    ∙ ap (λ (ts : List TouchValue). last_at key_cmp ts key) (flat_map-append (λ (g : PreparedValue). g.touches) first later)
    ∙ last_at-append (touches_in first) (touches_in later) key
    ∙ ap (λ (v : Option (Option PutValue)). option_or v (last_at key_cmp (touches_in first) key)) none
    ∙ ap (λ (xs : List PreparedValue). last_at key_cmp (touches_in xs) key) (take-take a b other le ∙ begins)

-- the row of a cut by the last touch
abbrev row_by : PlanValue → Marks → KeyValue → Option (Option PutValue) → Option KeptRow
row_by plan marks key touch = cond (is_inside marks key) (option_map (kept_of plan key) (option_and_then passing (option_and_then (λ put. put) touch))) None

cut-still : (before after : State) (key : KeyValue) → HasGoneOn before after → last_at key_cmp (touches_in (applied_behind before.applied after)) key ≡ None → cut_of after key ≡ cut_of before key
cut-still before after key gone none =
    ap (λ (p : PlanValue). row_by p after.marks key (last_at key_cmp (touches_in (take after.applied after.list)) key)) gone.plan
    ∙ ap (λ (m : Marks). row_by before.plan m key (last_at key_cmp (touches_in (take after.applied after.list)) key)) gone.marks
    ∙ ap (row_by before.plan before.marks key) (last-still before.list after.list before.applied after.applied key gone.applied gone.begins none)

abbrev cut_by : KeyValue → Option State → Option KeptRow
cut_by key o = option_and_then (λ state. cut_of state key) o

module _ (old new : Meaning) (key : KeyValue) (gone : HaveGoneOn old new) (untouched : ¬ IsTouchedSince old new key) where
  cut-same : (s : ℕ) → cut_in new s key ≡ cut_in old s key
  cut-same s = by (slice_get old.streams s) refl (slice_get new.streams s) refl
    where
      here : (before after : State) → slice_get old.streams s ≡ Some before → slice_get new.streams s ≡ Some after → (v : Option (Option PutValue)) → last_at key_cmp (touches_in (applied_behind before.applied after)) key ≡ v
          → cut_of after key ≡ cut_of before key
      here before after stood stands None e = cut-still before after key (gone.each s before after stood stands) e
      here before after stood stands (Some put) e =
          absurd (untouched (s, record { before = before; stood = stood; after = after; stands = stands; touched = λ none. none-some put (sym none ∙ e) }))

      past : (xs ys : List State) → length xs ≡ length ys → (x : State) → slice_get xs s ≡ Some x → slice_get ys s ≡ None → ⊥
      past xs ys same x there none =
          elim (slice_get_cases ys s).1 [
            | inl some ↦ none-some some.0 (sym none ∙ some.2)
            | inr behind ↦ none-some x (sym (slice_get_past xs s (subst (λ n. n ≤ s) (sym same) behind.0)) ∙ there)
          ]

      by : (o : Option State) → slice_get old.streams s ≡ o → (n : Option State) → slice_get new.streams s ≡ n → cut_by key (slice_get new.streams s) ≡ cut_by key (slice_get old.streams s)
      by None stood None stands = ap (cut_by key) (stands ∙ sym stood)
      by (Some before) stood (Some after) stands = ap (cut_by key) stands ∙ here before after stood stands (last_at key_cmp (touches_in (applied_behind before.applied after)) key) refl ∙ ap (cut_by key) (sym stood)
      by None stood (Some after) stands = absurd (past new.streams old.streams gone.count after stands stood)
      by (Some before) stood None stands = absurd (past old.streams new.streams (sym gone.count) before stood stands)

  pub untouched-stands : IsLawful old → IsLawful new → value_at key_cmp new.rows key ≡ value_at key_cmp old.rows key
  untouched-stands lawful still =
      same-standing (value_at key_cmp new.rows key) (value_at key_cmp old.rows key) (λ s. still.cuts s key ∙ cut-same s ∙ sym (lawful.cuts s key))
