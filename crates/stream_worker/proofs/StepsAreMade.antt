-- Steps of a seat's stream that are made, one after another.
use Rattle.std.proofs.Common.{◌≡◌, ◌==◌, ℕ, true, false, List, [], ◌∷◌, ◌++◌, Option, Some, None, Result, Ok, Err, MatchOption, inl, inr, slice_get, refl, sym, ap, subst, ◌∙◌}
use Rattle.std.proofs.lemmas.Bool.{or_left}
use Rattle.std.proofs.lemmas.Option.{same_Some}
use Rattle.std.specs.Prelude.{IsSome}
use Rattle.std.specs.List.{cons_option, filter_map}
use borrow.Author.Tests.{eq-eqb}
use Rattle.stream_core.specs.declared.step.Step.{Step}
use Rattle.source_feed.specs.Planned.{FeedValue}
use Rattle.board_laws.specs.declared.answer.Answer.{Answer}
use Rattle.board_laws.specs.declared.refusal.Refusal.{Refusal}
use Rattle.board_laws.specs.declared.step_refusal.StepRefusal.{StepRefusal}
use Rattle.board_laws.specs.declared.step_refusal.StepRefusal.TheVariants.{Unprepared, Refused}
use Rattle.board_laws.specs.Meaning.{State, Meaning}
use Rattle.board_laws.specs.Event.{Event}
use Rattle.board_laws.specs.StateAfter.{state_after}
use Rattle.board_laws.specs.Runs.{event_of_step, state_behind}
use Rattle.board_laws.specs.Schedule.{Reply}
use Rattle.stream_worker.specs.declared.seat.Seat.{Seat}
use Rattle.stream_worker.specs.Knowing.{Laid, Knows, names}
use Rattle.stream_worker.specs.Rule.{BoardGoesOn, IsSaid, SaysOfBoard, IsBoardTaken, IsBoardPut}
use Rattle.stream_worker.specs.SeatOf.{known}
use Rattle.stream_worker.specs.Seats.{IsBoardStep}
use Rattle.stream_worker.specs.Steps.{IsSeenAgain, IsMadeStep, AreMadeSteps, OfBoards, SeesAgain, AllStay, HasStepped, MadeStepsGoOn, MadeStepsLeaveTheirs}
use Rattle.stream_worker.specs.Private.SeatSteps.{IsSeatEvent, IsSeatReply}
use Rattle.stream_worker.proofs.PassesTakeSeats.{seat_saw}
use Rattle.stream_worker.proofs.StepsOfOneStream.{step_changes, step_leaves}
use Rattle.stream_worker.proofs.StreamsGoOn.{all_go_on-refl, all_go_on-same, all_go_on-trans}

-- ---- a board that goes on

pub board-on-refl : (board : List State) → BoardGoesOn board board
board-on-refl board = record { every = all_go_on-refl board; long = refl }

pub board-on-trans : (a b c : List State) → BoardGoesOn a b → BoardGoesOn b c → BoardGoesOn a c
board-on-trans a b c one two = record { every = all_go_on-trans a b c one.every two.every; long = two.long ∙ one.long }

module _ (s : ℕ) where
  pub again-refl : (laid : Laid) → IsSeenAgain s laid laid
  again-refl laid = record { own = refl; on = board-on-refl laid.board }

  pub again-trans : (a b c : Laid) → IsSeenAgain s a b → IsSeenAgain s b c → IsSeenAgain s a c
  again-trans a b c one two = record { own = two.own ∙ one.own; on = board-on-trans a.board b.board c.board one.on two.on }

  -- a board with the same streams
  pub again-same : (a b : Laid) → b.board ≡ a.board → IsSeenAgain s a b
  again-same a b same = record { own = ap (λ (board : List State). slice_get board s) same; on = subst (λ (board : List State). BoardGoesOn a.board board) (sym same) (board-on-refl a.board) }

-- ---- steps, and more of them

module _ (feed : FeedValue) (s : ℕ) where
  -- seen again before them
  pub steps-behind : (steps : List Step) (a b c : Laid) → IsSeenAgain s a b → AreMadeSteps feed s steps b c → AreMadeSteps feed s steps a c
  steps-behind [] a b c again made = again-trans s a b c again made
  steps-behind (step ∷ later) a b c again made =
      let one : IsMadeStep feed s step b made.0 = made.1 in
      (made.0, record { event = one.event; of_step = one.of_step; answer = one.answer; taken = one.taken; again = again-trans s a b one.taken again one.again; made = one.made }, made.2)

  pub steps-join : (steps others : List Step) (a b c : Laid) → AreMadeSteps feed s steps a b → AreMadeSteps feed s others b c → AreMadeSteps feed s (steps ++ others) a c
  steps-join [] others a b c again more = steps-behind others a b c again more
  steps-join (step ∷ later) others a b c made more = (made.0, made.1, steps-join later others made.0 b c made.2 more)

  -- one step
  pub one-step : (step : Step) (event : Event) (answer : Answer) (seen taken left : Laid) → event_of_step feed step ≡ Some event → IsSeenAgain s seen taken → IsBoardStep taken s event (Ok answer) left → AreMadeSteps feed s (step ∷ []) seen left
  one-step step event answer seen taken left of again made = (left, record { event = event; of_step = of; answer = answer; taken = taken; again = again; made = made }, again-refl s left)

-- ---- what a pass says of its stream

named-itself : (s : ℕ) → names (s ∷ []) s ≡ true
named-itself s = or_left (s == s) false (eq-eqb s s refl)

module _ (v : Knows) (s : ℕ) (own : v.streams ≡ s ∷ []) (seen now : Laid) (saw : v.seen ≡ Some seen) where
  pub said-again : SaysOfBoard v now → IsSeenAgain s seen now
  said-again says =
      let said : IsSaid v.streams seen now = subst (λ (o : Option Laid). MatchOption o (v.streams ≡ []) (λ (seen : Laid). IsSaid v.streams seen now)) saw says in
      record { own = said.own s (ap (λ (l : List ℕ). names l s) own ∙ named-itself s); on = record { every = said.every; long = said.long } }

-- a board that was put back as it was is seen again
pub still-again : (before holding after : Knows) (s : ℕ) (taken : Laid) → before.streams ≡ s ∷ [] → IsBoardTaken before taken holding → IsBoardPut holding taken after
    → (seen last : Laid) → before.seen ≡ Some seen → after.seen ≡ Some last → IsSeenAgain s seen last
still-again before holding after s taken own h put seen last saw sees =
    subst (λ (l : Laid). IsSeenAgain s seen l) (same_Some taken last (sym put.seen ∙ sees)) (said-again before s own seen taken saw h.says)

-- ---- a step of a seat

same-laid : (o : Option Laid) (a b : Laid) → o ≡ Some a → o ≡ Some b → a ≡ b
same-laid o a b one two = same_Some a b (sym one ∙ two)

-- the step that a reply made
abbrev pub steps_of : Step → Reply → List Step
steps_of step (Ok answer) = step ∷ []
steps_of step (Err refusal) = []

module _ (feed : FeedValue) (v w : Knows) (s : ℕ) (own : v.streams ≡ s ∷ []) (seen last : Laid) (saw : v.seen ≡ Some seen) (sees : w.seen ≡ Some last) (step : Step) where
  made-event : (answer : Answer) → IsSeatEvent feed v s step (Ok answer) w → AreMadeSteps feed s (step ∷ []) seen last
  made-event answer h =
      subst (λ (l : Laid). AreMadeSteps feed s (step ∷ []) seen l) (same-laid w.seen h.stepped.left last h.stepped.seen sees)
      (one-step feed s step h.event answer seen h.stepped.taken h.stepped.left h.of_step (said-again v s own seen h.stepped.taken saw h.stepped.says) h.stepped.step)

  refused-event : (refusal : Refusal) → IsSeatEvent feed v s step (Err refusal) w → IsSeenAgain s seen last
  refused-event refusal h =
      subst (λ (l : Laid). IsSeenAgain s seen l) (same-laid w.seen h.stepped.left last h.stepped.seen sees)
      (again-trans s seen h.stepped.taken h.stepped.left (said-again v s own seen h.stepped.taken saw h.stepped.says)
      (again-same s h.stepped.taken h.stepped.left (ap (λ (m : Meaning). m.streams) h.stepped.step.step.1)))

  same-event : w ≡ v → IsSeenAgain s seen last
  same-event is = subst (λ (l : Laid). IsSeenAgain s seen l) (same-laid v.seen seen last saw (sym (ap (λ (k : Knows). k.seen) is) ∙ sees)) (again-refl s seen)

  pub made-reply : (reply : Reply) → IsSeatReply feed v s step reply w → AreMadeSteps feed s (steps_of step reply) seen last
  made-reply (Ok answer) h = made-event answer h
  made-reply (Err (Unprepared fault)) h = same-event h.1
  made-reply (Err (Refused refusal)) (inl h) = same-event h.1
  made-reply (Err (Refused refusal)) (inr h) = refused-event refusal h

-- ---- seats

-- nothing was done
pub stepped-none : (feed : FeedValue) (seat : Seat) → HasStepped feed seat seat
stepped-none feed seat = record { steps = []; made = λ seen last saw sees. subst (λ (l : Laid). IsSeenAgain seat.stream seen l) (same-laid (known seat).seen seen last saw sees) (again-refl seat.stream seen) }

-- nor where the seat knows what it knew
pub stepped-same : (feed : FeedValue) (before after : Seat) → known after ≡ known before → HasStepped feed before after
stepped-same feed before after knows = record {
  steps = [];
  made = λ seen last saw sees. subst (λ (l : Laid). IsSeenAgain before.stream seen l) (same-laid (known before).seen seen last saw (sym (ap (λ (k : Knows). k.seen) knows) ∙ sees)) (again-refl before.stream seen);
}

-- the board was looked at
pub stepped-again : (feed : FeedValue) (before after : Seat) → SeesAgain before after → HasStepped feed before after
stepped-again feed before after again = record { steps = []; made = again }

-- the board that a seat saw
saw-board : (seat : Seat) → (laid : Laid) × ((known seat).seen ≡ Some laid)
saw-board seat = by (known seat).seen refl (seat_saw seat)
  where
    by : (o : Option Laid) → (known seat).seen ≡ o → IsSome o → (laid : Laid) × ((known seat).seen ≡ Some laid)
    by None e h = absurd cc
    by (Some laid) e h = (laid, e)

pub stepped-trans : (feed : FeedValue) (a b c : Seat) → b.stream ≡ a.stream → HasStepped feed a b → HasStepped feed b c → HasStepped feed a c
stepped-trans feed a b c same one two =
    let mid : (laid : Laid) × ((known b).seen ≡ Some laid) = saw-board b in
    record {
      steps = one.steps ++ two.steps;
      made = λ seen last saw sees.
          steps-join feed a.stream one.steps two.steps seen mid.0 last (one.made seen mid.0 saw mid.1)
          (subst (λ (s : ℕ). AreMadeSteps feed s two.steps mid.0 last) same (two.made mid.0 last mid.1 sees));
    }

-- a step of a seat
pub stepped-reply : (feed : FeedValue) (before after : Seat) (step : Step) (reply : Reply) → IsSeatReply feed (known before) before.stream step reply (known after) → HasStepped feed before after
stepped-reply feed before after step reply h =
    record { steps = steps_of step reply; made = λ seen last saw sees. made-reply feed (known before) (known after) before.stream before.own seen last saw sees step reply h }

-- ---- laws

pub made_go_on : MadeStepsGoOn
made_go_on feed s [] seen last again = again.on
made_go_on feed s (step ∷ later) seen last made =
    let one : IsMadeStep feed s step seen made.0 = made.1 in
    board-on-trans seen.board made.0.board last.board
    (board-on-trans seen.board one.taken.board made.0.board one.again.on (record { every = (step_changes one.taken made.0 s one.event (Ok one.answer) one.made).every; long = (step_changes one.taken made.0 s one.event (Ok one.answer) one.made).long }))
    (made_go_on feed s later made.0 last made.2)

pub made_leave : MadeStepsLeaveTheirs
made_leave feed s [] seen last state again here = again.own ∙ here
made_leave feed s (step ∷ later) seen last state made here =
    let one : IsMadeStep feed s step seen made.0 = made.1 in
    made_leave feed s later made.0 last (state_after state one.event) made.2 (step_leaves one.taken made.0 s one.event (Ok one.answer) state one.made (one.again.own ∙ here))
    ∙ sym (ap (λ (o : Option Event). Some (state_behind (cons_option o (filter_map (event_of_step feed) later)) state)) one.of_step)

-- all that was applied stays
pub stay-behind : (feed : FeedValue) (before after : Seat) → HasStepped feed before after → AllStay before after
stay-behind feed before after h seen last saw sees = made_go_on feed before.stream h.steps seen last (h.made seen last saw sees)
