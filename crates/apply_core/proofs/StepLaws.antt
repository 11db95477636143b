-- Steps on streams, put together from the stream's own.
use Rattle.std.proofs.Common.{◌≡◌, ℕ, ◌+◌, ◌<◌, ◌⊎◌, true, cond, List, inl, inr, length, get_or, set, Option, Some, Result, Ok, Err, slice_get, refl, sym, ap, subst, ◌∙◌}
use Rattle.std.proofs.lemmas.Bool.{eq-eqb, le-leb}
use Rattle.std.proofs.lemmas.List.{set-get_or}
use Rattle.std.proofs.lemmas.Option.{slice_get-get_or, get_or_from_slice_get}
use Rattle.std.specs.Prelude.{IfSome, MatchOption}
use Rattle.stream_core.specs.declared.step.Move.{Move}
use Rattle.stream_core.specs.declared.step.Step.{Step}
use Rattle.stream_core.specs.StepTable.{row_of}
use Rattle.board_laws.specs.declared.answer.Answer.{Answer}
use Rattle.board_laws.specs.declared.answer.Answer.TheVariants.{Offered}
use Rattle.board_laws.specs.declared.answer.Offered.{Offered as OfferAnswer}
use Rattle.board_laws.specs.declared.answer.Offered.TheVariants.{Read, Repeat}
use Rattle.board_laws.specs.declared.refusal.Refusal.{Refusal}
use Rattle.board_laws.specs.declared.refusal.Refusal.TheVariants.{NoStream}
use Rattle.source_feed.specs.Touches.{PreparedValue}
use Rattle.board_laws.specs.Meaning.{State}
use Rattle.board_laws.specs.Lawful.{standing_of}
use Rattle.board_laws.specs.Event.{Event, offer}
use Rattle.board_laws.specs.StateAfter.{answer_to, state_after}
use Rattle.board_laws.specs.Allowed.{IsRead, IsNext, IsAllowed}
use Rattle.board_laws.specs.Step.{takes_memory, IsRefusedFor}
use Rattle.apply_core.specs.Private.StreamStep.{MayMake, MakesStep, IsRefusedAlone, IsStreamStep, IsMoveFor, IsOwnStep, RefusesByItself}

module _ (streams : List State) (s : ℕ) (d : State) (inside : s < length streams) where
  abbrev x : State
  x = get_or streams s d

  here : slice_get streams s ≡ Some x
  here = slice_get-get_or streams s d inside

  -- the stream is changed as the step says
  makes : (event : Event) (answer : Answer) (new : State) → IsAllowed x event → answer ≡ answer_to x event → new ≡ state_after x event → MakesStep streams s event answer (set streams s new)
  makes event answer new allowed answered left = record {
    may = record { state = x; stream = here; allowed = allowed };
    answered = answered;
    streams = ap (set streams s) left;
  }

  -- the stream is refused by itself, and stays as it was
  refuses : (event : Event) (refusal : Refusal) (new : State) → RefusesByItself x event refusal → new ≡ x → IsRefusedAlone streams s event refusal × (set streams s new ≡ streams)
  refuses event refusal new by_itself same = (
    λ rows. subst (λ (o : Option State). MatchOption o (refusal ≡ NoStream) (λ state. IsRefusedFor (record { streams = streams; rows = rows }) s state event refusal)) (sym here) (by_itself (record { streams = streams; rows = rows }) s),
    ap (set streams s) same ∙ set-get_or streams s d,
  )

  -- the stream's own step is a step on the streams
  own-step : (event : Event) (result : Result Answer Refusal) (new : State) → IsOwnStep x event result new → IsStreamStep streams s event result (set streams s new)
  own-step event (Ok answer) new h = makes event answer new h.allowed h.answered h.left
  own-step event (Err refusal) new h = refuses event refusal new h.0 h.1

-- the same of a stream at a place that is its number
pub step-at : (streams : List State) (place s : ℕ) (d : State) → place ≡ s → place < length streams → (event : Event) (result : Result Answer Refusal) (new : State)
    → IsOwnStep (get_or streams place d) event result new → IsStreamStep streams s event result (set streams place new)
step-at streams place s d is inside event result new h =
    subst (λ (n : ℕ). IsStreamStep streams n event result (set streams place new)) is (own-step streams place d inside event result new h)

module _ (streams : List State) (s : ℕ) (state : State) (there : slice_get streams s ≡ Some state) where
  is : state ≡ get_or streams s state
  is = sym (get_or_from_slice_get streams s state state there)

  -- a step that is made, and leaves the stream as it was
  makes-still : (event : Event) (answer : Answer) → IsAllowed state event → answer ≡ answer_to state event → state ≡ state_after state event → MakesStep streams s event answer streams
  makes-still event answer allowed answered left = record {
    may = record { state = state; stream = there; allowed = allowed };
    answered = answered;
    streams = sym (ap (set streams s) (sym left ∙ is) ∙ set-get_or streams s state);
  }

  -- the stream is refused by itself
  refuses-still : (event : Event) (refusal : Refusal) → RefusesByItself state event refusal → IsRefusedAlone streams s event refusal
  refuses-still event refusal by_itself =
      λ rows. subst (λ (o : Option State). MatchOption o (refusal ≡ NoStream) (λ state. IsRefusedFor (record { streams = streams; rows = rows }) s state event refusal)) (sym there) (by_itself (record { streams = streams; rows = rows }) s)

  -- the stream's own step that leaves it as it was
  pub own-step-still : (event : Event) (result : Result Answer Refusal) → IsOwnStep state event result state → IsStreamStep streams s event result streams
  own-step-still event (Ok answer) h = makes-still event answer h.allowed h.answered h.left
  own-step-still event (Err refusal) h = (refuses-still event refusal h.0, refl)

-- an offer that is to be read takes memory
pub read-takes : (state : State) (group : PreparedValue) (number : ℕ) → IsAllowed state (offer group) → ◌≡◌ {A = Answer} (Offered (Read number)) (answer_to state (offer group)) → takes_memory state (offer group) ≡ true
read-takes state group number allowed e = by allowed.place
  where
    by : IsRead state.list group ⊎ IsNext state.list group → takes_memory state (offer group) ≡ true
    by (inl read) =
        let clash : ◌≡◌ {A = Answer} (Offered (Read number)) (Offered (Repeat group.number)) = e ∙ ap (λ b. Offered (cond b (Repeat group.number) (Read group.number))) (le-leb group.number (length state.list) read.within) in
        cc
    by (inr next) = eq-eqb group.number (length state.list + 1) next.number

-- what a judged offer answers, said of the same group and of the same answer
pub offer-answered : (state : State) (judged group : PreparedValue) (same : judged ≡ group) (answered answer : OfferAnswer) (is : answered ≡ answer)
    → IsAllowed state (offer judged) × ◌≡◌ {A = Answer} (Offered answered) (answer_to state (offer judged))
    → IsAllowed state (offer group) × ◌≡◌ {A = Answer} (Offered answer) (answer_to state (offer group))
offer-answered state judged group same answered answer is h =
    subst (λ (a : OfferAnswer). IsAllowed state (offer group) × ◌≡◌ {A = Answer} (Offered a) (answer_to state (offer group))) is
    (subst (λ (g : PreparedValue). IsAllowed state (offer g) × ◌≡◌ {A = Answer} (Offered answered) (answer_to state (offer g))) same h)

-- the stream that may make a step is changed as the step says
pub makes-where : (streams : List State) (s : ℕ) (event : Event) (may : MayMake streams s event) (d : State) (answer : Answer) (new : State)
    → answer ≡ answer_to (get_or streams s d) event → new ≡ state_after (get_or streams s d) event → MakesStep streams s event answer (set streams s new)
makes-where streams s event may d answer new answered left =
    let e : get_or streams s d ≡ may.state = get_or_from_slice_get streams s may.state d may.stream in
    record {
      may = may;
      answered = answered ∙ ap (λ (x : State). answer_to x event) e;
      streams = ap (set streams s) (left ∙ ap (λ (x : State). state_after x event) e);
    }

-- what the step table makes of the step on the stream, if there is one, it makes of it on the one that may make the step
pub move-here : (streams : List State) (s : ℕ) (event : Event) (step : Step) (made : Move) (d : State) → MayMake streams s event → IsMoveFor streams s step made
    → made ≡ (row_of (standing_of (get_or streams s d)) step).otherwise
move-here streams s event step made d may h =
    subst (λ (state : State). made ≡ (row_of (standing_of state) step).otherwise) (sym (get_or_from_slice_get streams s may.state d may.stream))
    (subst (λ (o : Option State). IfSome o (λ state. made ≡ (row_of (standing_of state) step).otherwise)) may.stream h)
