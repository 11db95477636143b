-- What a step does to a board on its round.
use Rattle.std.proofs.Common.{◌≡◌, ◌≢◌, ◌⊎◌, inl, inr, ℕ, suc, ◌+◌, ◌<◌, ◌≤◌, Bool, true, false, List, [], ◌∷◌, ◌++◌, length, cond, Option, Some, None, Result, Ok, Err, slice_get, set, refl, sym, ap, subst, ◌∙◌, arith}
use Rattle.std.proofs.lemmas.List.{length-set}
use Rattle.std.proofs.lemmas.Option.{same_Some, none-some, slice_get_within}
use Rattle.std.specs.Prelude.{nat_le}
use Rattle.std.specs.Option.{option_map}
use Rattle.std.specs.Result.{result_ok}
use Rattle.list_laws.proofs.Places.{place_of, slice_get-set_other}
use Rattle.stream_core.specs.declared.step.Step.{Step}
use Rattle.stream_core.specs.declared.step.Step.TheVariants.{Offer, Advance, OpenAt, CopyRows, Close, Restart}
use Rattle.source_feed.specs.declared.fault.FeedFault.{FeedFault}
use Rattle.source_feed.specs.Planned.{FeedValue}
use Rattle.source_feed.specs.Touches.{PreparedValue, prepared_at}
use Rattle.board_laws.specs.declared.answer.Answer.{Answer}
use Rattle.board_laws.specs.declared.step_refusal.StepRefusal.{StepRefusal}
use Rattle.board_laws.specs.Event.{Event, offer, advance}
use Rattle.board_laws.specs.FedBoards.{Fed}
use Rattle.board_laws.specs.Lawful.{IsLawful}
use Rattle.board_laws.specs.Meaning.{State, Meaning}
use Rattle.board_laws.specs.Runs.{event_of_step}
use Rattle.board_laws.specs.Schedule.{Reply, IsEventStep, IsReply}
use Rattle.board_laws.specs.StateAfter.{state_after}
use Rattle.board_laws.specs.Step.{IsMade}
use Rattle.board_laws.proofs.Following.{unchanged, answered_by}
use Rattle.board_laws.proofs.Lists.{slice_get-set}
use Rattle.change_laws.specs.Since.{GoesOnBy, HasMoved}
use Rattle.change_laws.proofs.GoingOn.{stands-still, step-moves, others-stand, moves-add_up, moved-goes_on}
use Rattle.worker_rounds.specs.Rounds.{IsStopped, ApplyUpTo}
use Rattle.worker_rounds.specs.Private.OnRound.{Gone, IsOnRound, Runs, MayApply, IsStepOn, AreAsideOf, AppliesOne}

-- ---- how many groups are applied

-- behind an offer as many as before
offered-state : (state : State) (group : PreparedValue) → (state_after state (offer group)).applied ≡ state.applied
offered-state state group = by (nat_le group.number (length state.list))
  where
    by : (b : Bool) → (cond b state (record state { list = state.list ++ group ∷ [] })).applied ≡ state.applied
    by true = refl
    by false = refl

offered-applied : (feed : FeedValue) (n : ℕ) (state : State) (event : Event) → event_of_step feed (Offer n) ≡ Some event → (state_after state event).applied ≡ state.applied
offered-applied feed n state event e = by (prepared_at feed n) e
  where
    by : (r : Result PreparedValue FeedFault) → option_map offer (result_ok r) ≡ Some event → (state_after state event).applied ≡ state.applied
    by (Ok group) e = subst (λ (x : Event). (state_after state x).applied ≡ state.applied) (same_Some (offer group) event e) (offered-state state group)
    by (Err fault) e = absurd (none-some event e)

advanced-applied : (feed : FeedValue) (state : State) (event : Event) → event_of_step feed Advance ≡ Some event → (state_after state event).applied ≡ suc state.applied
advanced-applied feed state event e = let one : state.applied + 1 ≡ suc state.applied = omega arith in subst (λ (x : Event). (state_after state x).applied ≡ suc state.applied) (same_Some advance event e) one

-- a board that is left as it was
still-states : (old new : Meaning) → new ≡ old → (t : ℕ) (before after : State) → slice_get old.streams t ≡ Some before → slice_get new.streams t ≡ Some after → after ≡ before
still-states old new same t before after stood stands = same_Some after before (sym stands ∙ ap (λ (b : Meaning). slice_get b.streams t) same ∙ stood)

-- what a made step leaves of a stream
made-state : (old new : Meaning) (s : ℕ) (event : Event) (answer : Answer) → IsMade old s event answer new
    → (t : ℕ) (before after : State) → slice_get old.streams t ≡ Some before → slice_get new.streams t ≡ Some after → ((t ≡ s) × (after ≡ state_after before event)) ⊎ ((t ≢ s) × (after ≡ before))
made-state old new s event answer made t before after stood stands =
    elim (slice_get-set old.streams s (state_after made.state event) after t (ap (λ (xs : List State). slice_get xs t) (sym made.streams) ∙ stands)) [
      | inl same ↦
          let is : made.state ≡ before = same_Some made.state before (sym made.stream ∙ ap (slice_get old.streams) (sym same.0) ∙ stood) in
          inl (same.0, sym same.1 ∙ ap (λ (x : State). state_after x event) is)
      | inr other ↦ inr (other.0, same_Some after before (sym other.1 ∙ stood))
    ]

-- behind a step by which a stream goes on: one more of its own where it is applied, and else as many as before
abbrev Counts : ℕ → Step → ℕ → State → State → Type 0
Counts s step t before after = (after.applied ≡ before.applied) ⊎ ((t ≡ s) × (step ≡ Advance) × (after.applied ≡ suc before.applied))

event-counts : (feed : FeedValue) (s : ℕ) (step : Step) (event : Event) → GoesOnBy step → event_of_step feed step ≡ Some event → (t : ℕ) (before after : State) → t ≡ s → after ≡ state_after before event → Counts s step t before after
event-counts feed s (Offer n) event by_step e t before after at is = inl (ap (λ (x : State). x.applied) is ∙ offered-applied feed n before event e)
event-counts feed s Advance event by_step e t before after at is = inr (at, refl, ap (λ (x : State). x.applied) is ∙ advanced-applied feed before event e)
event-counts feed s (OpenAt m) event by_step e t before after at is = absurd by_step
event-counts feed s (CopyRows c) event by_step e t before after at is = absurd by_step
event-counts feed s Close event by_step e t before after at is = absurd by_step
event-counts feed s Restart event by_step e t before after at is = absurd by_step

step-counts : (feeds : List FeedValue) (old new : Meaning) (s : ℕ) (step : Step) (reply : Reply) → GoesOnBy step → IsReply feeds old (s, step) reply new
    → (t : ℕ) (before after : State) → slice_get old.streams t ≡ Some before → slice_get new.streams t ≡ Some after → Counts s step t before after
step-counts feeds old new s step (Ok answer) by_step h t before after stood stands =
    let one : (feed : FeedValue) × (slice_get feeds s ≡ Some feed) × IsEventStep feed old s step (Ok answer) new = answered_by feeds old (s, step) answer new h in
    elim (made-state old new s one.2.event answer one.2.stepped t before after stood stands) [
      | inl mine ↦ event-counts one.0 s step one.2.event by_step one.2.of_step t before after mine.0 mine.1
      | inr other ↦ inl (ap (λ (x : State). x.applied) other.1)
    ]
step-counts feeds old new s step (Err refusal) by_step h t before after stood stands =
    inl (ap (λ (x : State). x.applied) (still-states old new (unchanged feeds old (s, step) refusal new h) t before after stood stands))

-- an offer applies none
pub offer-applies_none : (feeds : List FeedValue) (old new : Meaning) (s n : ℕ) (reply : Reply) → IsReply feeds old (s, Offer n) reply new
    → (t : ℕ) (before after : State) → slice_get old.streams t ≡ Some before → slice_get new.streams t ≡ Some after → after.applied ≡ before.applied
offer-applies_none feeds old new s n reply h t before after stood stands =
    elim (step-counts feeds old new s (Offer n) reply tt h t before after stood stands) [
      | inl same ↦ same
      | inr one ↦ cc
    ]

-- an advance that is made applies one
pub advance-applies_one : (feeds : List FeedValue) (old new : Meaning) (s : ℕ) (answer : Answer) → IsReply feeds old (s, Advance) (Ok answer) new → AppliesOne s old new
advance-applies_one feeds old new s answer h before after stood stands =
    let one : (feed : FeedValue) × (slice_get feeds s ≡ Some feed) × IsEventStep feed old s Advance (Ok answer) new = answered_by feeds old (s, Advance) answer new h in
    elim (made-state old new s one.2.event answer one.2.stepped s before after stood stands) [
      | inl mine ↦ ap (λ (x : State). x.applied) mine.1 ∙ advanced-applied one.0 before one.2.event one.2.of_step
      | inr other ↦ absurd (other.0 refl)
    ]

-- ---- a board on its round

-- who has gone on has as many streams
pub same-count : (feeds : List FeedValue) (old new : Meaning) → IsLawful old → HasMoved feeds old new → length new.streams ≡ length old.streams
same-count feeds old new lawful moved = (moved-goes_on feeds old new lawful moved).count

-- a state that stands is one that stood
stood-there : (old new : Meaning) → length new.streams ≡ length old.streams → (t : ℕ) (after : State) → slice_get new.streams t ≡ Some after → (before : State) × (slice_get old.streams t ≡ Some before)
stood-there old new count t after stands = place_of old.streams t (subst (λ (n : ℕ). t < n) count (slice_get_within new.streams t after stands))

upto-step : (most : ℕ) (feeds : List FeedValue) (first old new : Meaning) (s : ℕ) (step : Step) (reply : Reply) → length new.streams ≡ length old.streams → GoesOnBy step → (step ≡ Advance → MayApply most first old s)
    → IsReply feeds old (s, step) reply new → ApplyUpTo most first old → ApplyUpTo most first new
upto-step most feeds first old new s step reply count by_step room h upto t before after stood stands =
    let there : (between : State) × (slice_get old.streams t ≡ Some between) = stood-there old new count t after stands in
    let le : there.0.applied ≤ before.applied + most = upto t before there.0 stood there.1 in
    elim (step-counts feeds old new s step reply by_step h t there.0 after there.1 stands) [
      | inl same ↦ omega (arith, same, le)
      | inr one ↦
          let less : there.0.applied < before.applied + most = room one.1 before there.0 (ap (slice_get first.streams) (sym one.0) ∙ stood) (ap (slice_get old.streams) (sym one.0) ∙ there.1) in
          let more : after.applied ≡ suc there.0.applied = one.2 in
          omega (arith, more, less)
    ]

-- who is stopped stays so while others go on
stopped-still : (feeds : List FeedValue) (first old new : Meaning) (s : ℕ) (step : Step) (reply : Reply) → GoesOnBy step → IsReply feeds old (s, step) reply new
    → (t : ℕ) (refusal : StepRefusal) → t ≢ s → IsStopped feeds first old t refusal → IsStopped feeds first new t refusal
stopped-still feeds first old new s step reply by_step h t refusal other stop = record {
  between = stop.between;
  came = stop.came;
  step = stop.step;
  onwards = stop.onwards;
  left = stop.left;
  refused = stop.refused;
  went = moves-add_up feeds stop.left old new stop.went (step-moves feeds old new s step reply by_step h);
  stands = others-stand feeds old new s step reply h t other ∙ stop.stands;
}

-- who is refused is stopped
stopped-here : (feeds : List FeedValue) (first old new : Meaning) (s : ℕ) (step : Step) (refusal : StepRefusal) → GoesOnBy step → HasMoved feeds first old → IsReply feeds old (s, step) (Err refusal) new
    → IsStopped feeds first new s refusal
stopped-here feeds first old new s step refusal by_step moved h = record {
  between = old;
  came = moved;
  step = step;
  onwards = by_step;
  left = new;
  refused = h;
  went = (stands-still feeds new).1;
  stands = refl;
}

module _ (fed : Fed) (most : ℕ) (old new : Gone) (s : ℕ) (step : Step) (on : IsOnRound fed most old) (by_step : GoesOnBy step) (runs : Runs old s) (room : step ≡ Advance → MayApply most fed.board old.board s) (first : new.first ≡ old.first) where
  -- where the step has this reply, and the others are stopped as before
  on-reply : (reply : Reply) → IsReply fed.feeds old.board (s, step) reply new.board → length new.stopped ≡ length old.stopped
      → ((t : ℕ) (refusal : StepRefusal) → slice_get new.stopped t ≡ Some (Some refusal) → IsStopped fed.feeds fed.board new.board t refusal) → IsOnRound fed most new
  on-reply reply h count stops =
      let moved : HasMoved fed.feeds fed.board new.board = moves-add_up fed.feeds fed.board old.board new.board on.moved (step-moves fed.feeds old.board new.board s step reply by_step h) in
      let same : length new.board.streams ≡ length old.board.streams
      = same-count fed.feeds fed.board new.board on.begun.lawful moved ∙ sym (same-count fed.feeds fed.board old.board on.begun.lawful on.moved) in
      record {
        begun = on.begun;
        moved = moved;
        upto = upto-step most fed.feeds fed.board old.board new.board s step reply same by_step room h on.upto;
        count = count ∙ on.count;
        stops = stops;
        first = first ∙ on.first;
      }

  not-stopped : (t : ℕ) (refusal : StepRefusal) → slice_get old.stopped t ≡ Some (Some refusal) → t ≢ s
  not-stopped t refusal stop at =
      let clash : Some (Some refusal) ≡ Some None = sym stop ∙ ap (slice_get old.stopped) at ∙ runs in
      cc

  pub on-step : (made : Bool) → IsStepOn fed.feeds s step made old new → IsOnRound fed most new
  on-step true h =
      on-reply (Ok h.0.0) h.0.1 (ap (λ (xs : List (Option StepRefusal)). length xs) h.1)
      (λ t refusal stop.
      let before : slice_get old.stopped t ≡ Some (Some refusal) = ap (λ (xs : List (Option StepRefusal)). slice_get xs t) (sym h.1) ∙ stop in
      stopped-still fed.feeds fed.board old.board new.board s step (Ok h.0.0) by_step h.0.1 t refusal (not-stopped t refusal before) (on.stops t refusal before))
  on-step false h =
      on-reply (Err h.0) h.1 (ap (λ (xs : List (Option StepRefusal)). length xs) h.2 ∙ length-set old.stopped s (Some h.0))
      (λ t refusal stop.
      elim (slice_get-set old.stopped s (Some h.0) (Some refusal) t (ap (λ (xs : List (Option StepRefusal)). slice_get xs t) (sym h.2) ∙ stop)) [
        | inl mine ↦
            let is : h.0 ≡ refusal = same_Some h.0 refusal mine.1 in
            subst (λ (n : ℕ). IsStopped fed.feeds fed.board new.board n refusal) (sym mine.0)
            (subst (λ (r : StepRefusal). IsStopped fed.feeds fed.board new.board s r) is (stopped-here fed.feeds fed.board old.board new.board s step h.0 by_step on.moved h.1))
        | inr other ↦ stopped-still fed.feeds fed.board old.board new.board s step (Err h.0) by_step h.1 t refusal other.0 (on.stops t refusal other.1)
      ])

-- and each other stream stands as it stood
pub step-aside : (feeds : List FeedValue) (s : ℕ) (step : Step) (made : Bool) (old new : Gone) → IsStepOn feeds s step made old new → AreAsideOf s old new
step-aside feeds s step true old new h = record {
  streams = λ t other. others-stand feeds old.board new.board s step (Ok h.0.0) h.0.1 t other;
  stopped = λ t other. ap (λ (xs : List (Option StepRefusal)). slice_get xs t) h.1;
}
step-aside feeds s step false old new h = record {
  streams = λ t other. others-stand feeds old.board new.board s step (Err h.0) h.1 t other;
  stopped = λ t other. ap (λ (xs : List (Option StepRefusal)). slice_get xs t) h.2 ∙ slice_get-set_other old.stopped s (Some h.0) t other;
}

pub aside-trans : (s : ℕ) (a b c : Gone) → AreAsideOf s a b → AreAsideOf s b c → AreAsideOf s a c
aside-trans s a b c one two = record {
  streams = λ t other. two.streams t other ∙ one.streams t other;
  stopped = λ t other. two.stopped t other ∙ one.stopped t other;
}

pub aside-none : (s : ℕ) (a : Gone) → AreAsideOf s a a
aside-none s a = record { streams = λ t other. refl; stopped = λ t other. refl }

-- ---- a step, by what it replies

abbrev pub Stepped : Fed → ℕ → ℕ → Step → Bool → Gone → Gone → Type 0
Stepped fed most s step made now new = IsOnRound fed most new × IsStepOn fed.feeds s step made now new

-- what a step leaves, where what it is told of is the board as it is seen
stepped : (fed : Fed) (most : ℕ) (old now new : Gone) (s : ℕ) (step : Step) (made : Bool) → old ≡ now → IsOnRound fed most old → GoesOnBy step → Runs now s → (step ≡ Advance → MayApply most fed.board now.board s) → new.first ≡ old.first
    → IsStepOn fed.feeds s step made old new → Stepped fed most s step made now new
stepped fed most old now new s step made seen on by_step runs room first h =
    subst (λ (x : Gone). Runs x s → (step ≡ Advance → MayApply most fed.board x.board s) → Stepped fed most s step made x new) seen
    (λ runs_here room_here. (on-step fed most old new s step on by_step runs_here room_here first made h, h)) runs room

-- where it is made
pub stepped-ok : (fed : Fed) (most : ℕ) (old now new : Gone) (s : ℕ) (step : Step) (feeds : List FeedValue) (reply : Reply) (answer : Answer) → feeds ≡ fed.feeds → reply ≡ Ok answer → IsReply feeds old.board (s, step) reply new.board
    → old ≡ now → IsOnRound fed most old → GoesOnBy step → Runs now s → (step ≡ Advance → MayApply most fed.board now.board s) → new.first ≡ old.first → new.stopped ≡ old.stopped → Stepped fed most s step true now new
stepped-ok fed most old now new s step feeds reply answer same is h seen on by_step runs room first stopped =
    stepped fed most old now new s step true seen on by_step runs room first
    ((answer, subst (λ (r : Reply). IsReply fed.feeds old.board (s, step) r new.board) is (subst (λ (fs : List FeedValue). IsReply fs old.board (s, step) reply new.board) same h)), stopped)

-- where it is refused
pub stepped-err : (fed : Fed) (most : ℕ) (old now new : Gone) (s : ℕ) (step : Step) (feeds : List FeedValue) (reply : Reply) (refusal : StepRefusal) → feeds ≡ fed.feeds → reply ≡ Err refusal → IsReply feeds old.board (s, step) reply new.board
    → old ≡ now → IsOnRound fed most old → GoesOnBy step → Runs now s → (step ≡ Advance → MayApply most fed.board now.board s) → new.first ≡ old.first → new.stopped ≡ set old.stopped s (Some refusal) → Stepped fed most s step false now new
stepped-err fed most old now new s step feeds reply refusal same is h seen on by_step runs room first stopped =
    stepped fed most old now new s step false seen on by_step runs room first
    (refusal, subst (λ (r : Reply). IsReply fed.feeds old.board (s, step) r new.board) is (subst (λ (fs : List FeedValue). IsReply fs old.board (s, step) reply new.board) same h), stopped)
