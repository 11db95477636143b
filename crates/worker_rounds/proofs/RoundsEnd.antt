-- How a round begins, and how it ends.
use Rattle.std.proofs.Common.{◌≡◌, ◌≢◌, ◌==◌, inl, inr, ℕ, zero, suc, ◌+◌, ◌<◌, ◌≤◌, Bool, true, false, List, [], ◌∷◌, ◌++◌, length, length-append, get_or, Option, Some, None, Result, Ok, Err, slice_get, refl, sym, ap, subst, ◌∙◌, arith}
use Rattle.std.proofs.lemmas.Bool.{eqb-false}
use Rattle.std.proofs.lemmas.Option.{same_Some, none-some, slice_get_read, slice_get_within}
use Rattle.std.specs.Prelude.{IfSome}
use Rattle.std.specs.List.{AllByRecursion}
use borrow.Author.Tests.{eq-eqb, eqb-true}
use Rattle.list_laws.proofs.Places.{no_place, place_of, slice_get-push}
use Rattle.stream_core.specs.declared.phase.Phase.TheVariants.{Running}
use Rattle.stream_core.specs.Standing.{phase_of}
use Rattle.source_feed.specs.Planned.{FeedValue}
use Rattle.board_laws.specs.declared.step_refusal.StepRefusal.{StepRefusal}
use Rattle.board_laws.specs.FedBoards.{Fed, IsFedBoard}
use Rattle.board_laws.specs.Lawful.{IsLawful, standing_of}
use Rattle.board_laws.specs.Meaning.{State, Meaning}
use Rattle.apply_core.specs.Ended.{StreamHasEnded}
use Rattle.apply_core.proofs.PhasesTellNumbers.{running-done}
use Rattle.change_laws.specs.Since.{HasGoneOn, HaveGoneOn, HasMoved}
use Rattle.change_laws.proofs.GoingOn.{stands-still, moved-goes_on}
use Rattle.worker_rounds.specs.Rounds.{OfStream, HasAppliedAll, HasAppliedMost, IsAnswer, AreAnswers, ApplyUpTo, AreRunning, HasEndedAs, HaveEndedAs}
use Rattle.worker_rounds.proofs.StreamsOnRounds.{fed-now}
use Rattle.worker_rounds.specs.Private.OnRound.{Gone, IsOnRound, AreAsideOf, IsFar, IsThrough, AreThrough, Gains, AppliesOne, AnswersBy, AreAnswersBy, applied_on}

-- ---- at first

none-stopped : (stopped : List (Option StepRefusal)) → AllByRecursion (λ stop. stop ≡ None) stopped → (s : ℕ) (refusal : StepRefusal) → slice_get stopped s ≡ Some (Some refusal) → ⊥
none-stopped [] all s refusal e = no_place s (Some refusal) e
none-stopped (stop ∷ later) all zero refusal e = none-some refusal (sym all.0 ∙ same_Some stop (Some refusal) e)
none-stopped (stop ∷ later) all (suc s) refusal e = none-stopped later all.1 s refusal e

pub at-first : (fed : Fed) (most : ℕ) (gone : Gone) → gone.board ≡ fed.board → IsFedBoard fed.feeds fed.board → AllByRecursion (λ stop. stop ≡ None) gone.stopped → length gone.stopped ≡ length fed.feeds
    → gone.first ≡ applied_on gone.board → IsOnRound fed most gone
at-first fed most gone same begun none count first = record {
  begun = begun;
  moved = subst (λ (b : Meaning). HasMoved fed.feeds fed.board b) (sym same) (stands-still fed.feeds fed.board).1;
  upto = λ s before after stood stands.
      let is : after ≡ before = same_Some after before (sym stands ∙ ap (λ (b : Meaning). slice_get b.streams s) same ∙ stood) in
      subst (λ (x : State). x.applied ≤ before.applied + most) (sym is) (omega arith);
  count = count;
  stops = λ s refusal stop. absurd (none-stopped gone.stopped none s refusal stop);
  first = first ∙ ap applied_on same;
}

-- ---- as far as they can

-- a stream that is through stays so while another one goes on
pub through-aside : (fed : Fed) (most : ℕ) (old new : Gone) (s t : ℕ) → t ≢ s → AreAsideOf s old new → IsThrough fed most old t → IsThrough fed most new t
through-aside fed most old new s t other aside (inl stop) = inl (stop.0, aside.stopped t other ∙ stop.1)
through-aside fed most old new s t other aside (inr far) = inr (λ feed before after at stood stands. far feed before after at stood (sym (aside.streams t other) ∙ stands))

pub through-more : (fed : Fed) (most : ℕ) (old new : Gone) (s count : ℕ) → count ≡ suc s → AreAsideOf s old new → IsThrough fed most new s → AreThrough fed most old s → AreThrough fed most new count
through-more fed most old new s count is aside here before t less = by (t == s) refl
  where
    by : (b : Bool) → (t == s) ≡ b → IsThrough fed most new t
    by true e = subst (IsThrough fed most new) (sym (eqb-true t s e)) here
    by false e = let ne : t ≢ s = eqb-false t s e in through-aside fed most old new s t ne aside (before t (omega (arith, less, is, ne)))

-- so many turns are the most
pub gained-far : (fed : Fed) (most : ℕ) (gone : Gone) (s : ℕ) → IsOnRound fed most gone → Gains s most fed.board gone.board → IsThrough fed most gone s
gained-far fed most gone s on gains =
    inr (λ feed before after at stood stands.
    let least : before.applied + most ≤ after.applied = gains before after stood stands in
    let greatest : after.applied ≤ before.applied + most = on.upto s before after stood stands in
    inl (omega (arith, least, greatest)))

pub gains-none : (fed : Fed) (most : ℕ) (gone : Gone) (s : ℕ) → IsOnRound fed most gone → Gains s 0 fed.board gone.board
gains-none fed most gone s on before after stood stands =
    let one : HasGoneOn before after = (moved-goes_on fed.feeds fed.board gone.board on.begun.lawful on.moved).each s before after stood stands in
    let le : before.applied ≤ after.applied = one.applied in
    omega (arith, le)

pub gains-one : (fed : Fed) (most : ℕ) (old new : Gone) (s count more : ℕ) → more ≡ suc count → IsOnRound fed most old → IsOnRound fed most new → AppliesOne s old.board new.board → Gains s count fed.board old.board
    → Gains s more fed.board new.board
gains-one fed most old new s count more is on still one gains before after stood stands =
    let a : HaveGoneOn fed.board old.board = moved-goes_on fed.feeds fed.board old.board on.begun.lawful on.moved in
    let there : (between : State) × (slice_get old.board.streams s ≡ Some between) = place_of old.board.streams s (subst (λ (n : ℕ). s < n) (sym a.count) (slice_get_within fed.board.streams s before stood)) in
    let le : before.applied + count ≤ there.0.applied = gains before there.0 stood there.1 in
    let eq : after.applied ≡ suc there.0.applied = one there.0 after there.1 stands in
    omega (arith, le, eq, is)

-- ---- answers

module _ (fed : Fed) (most : ℕ) (gone : Gone) (answers : List (Result Bool StepRefusal)) (on : IsOnRound fed most gone) (through : AreThrough fed most gone (length fed.feeds)) (are : AreAnswersBy fed.feeds gone.board gone.stopped answers) where
  gone-on : HaveGoneOn fed.board gone.board
  gone-on = moved-goes_on fed.feeds fed.board gone.board on.begun.lawful on.moved

  streams : length gone.board.streams ≡ length fed.feeds
  streams = gone-on.count ∙ on.begun.count

  feed-within : (s : ℕ) (feed : FeedValue) → slice_get fed.feeds s ≡ Some feed → s < length fed.feeds
  feed-within s feed at = slice_get_within fed.feeds s feed at

  module _ (s : ℕ) (answer : Result Bool StepRefusal) (at : slice_get answers s ≡ Some answer) where
    within : s < length fed.feeds
    within = let less : s < length answers = slice_get_within answers s answer at in omega (arith, less, are.count, on.count)

    feed : (x : FeedValue) × (slice_get fed.feeds s ≡ Some x)
    feed = place_of fed.feeds s within

    state : (x : State) × (slice_get gone.board.streams s ≡ Some x)
    state = place_of gone.board.streams s (omega (arith, within, streams))

    stop : (x : Option StepRefusal) × (slice_get gone.stopped s ≡ Some x)
    stop = place_of gone.stopped s (omega (arith, within, on.count))

    by_stop : AnswersBy feed.0 state.0 stop.0 answer
    by_stop = are.each s feed.0 state.0 stop.0 answer feed.1 state.1 stop.1 at

    -- whatever feed and state there are, they are these
    of-these : (P : FeedValue → State → State → Type 0) → ((before : State) → slice_get fed.board.streams s ≡ Some before → P feed.0 before state.0) → OfStream P fed.feeds fed.board gone.board s
    of-these P f other before after there stood stands =
        subst (λ (x : FeedValue). P x before after) (same_Some feed.0 other (sym feed.1 ∙ there))
        (subst (λ (x : State). P feed.0 before x) (same_Some state.0 after (sym state.1 ∙ stands)) (f before stood))

    is-far : (x : Option StepRefusal) → stop.0 ≡ x → x ≡ None → (before : State) → slice_get fed.board.streams s ≡ Some before → IsFar most feed.0 before state.0
    is-far x is none before stood = by (through s within)
      where
        by : IsThrough fed most gone s → IsFar most feed.0 before state.0
        by (inl stopped) = absurd (none-some stopped.0 (sym none ∙ sym is ∙ same_Some stop.0 (Some stopped.0) (sym stop.1 ∙ stopped.1)))
        by (inr far) = far feed.0 before state.0 feed.1 stood state.1

    answer-of : (x : Option StepRefusal) → stop.0 ≡ x → (r : Result Bool StepRefusal) → AnswersBy feed.0 state.0 x r → IsAnswer most fed.feeds fed.board gone.board s (Some r)
    answer-of (Some refusal) is r h =
        subst (λ (a : Result Bool StepRefusal). IsAnswer most fed.feeds fed.board gone.board s (Some a)) (sym h) (on.stops s refusal (stop.1 ∙ ap (λ (o : Option StepRefusal). Some o) is))
    answer-of None is (Ok true) h = of-these (λ f before after. HasAppliedAll f after) (λ before stood. h)
    answer-of None is (Ok false) h =
        of-these (HasAppliedMost most)
        (λ before stood.
        elim (is-far None is refl before stood) [
          | inl far ↦ record { applied = far; more = h }
          | inr all ↦ absurd (h all)
        ])
    answer-of None is (Err refusal) h = absurd h

    answer-there : IsAnswer most fed.feeds fed.board gone.board s (Some answer)
    answer-there = answer-of stop.0 refl answer by_stop

  pub answers-are : AreAnswers most fed.feeds fed.board answers gone.board
  answers-are = record {
    count = are.count ∙ on.count;
    each = λ s. by s (slice_get answers s) refl;
  }
    where
      by : (s : ℕ) (o : Option (Result Bool StepRefusal)) → slice_get answers s ≡ o → IsAnswer most fed.feeds fed.board gone.board s (slice_get answers s)
      by s None e = subst (IsAnswer most fed.feeds fed.board gone.board s) (sym e) tt
      by s (Some answer) e = subst (IsAnswer most fed.feeds fed.board gone.board s) (sym e) (answer-there s answer e)

-- ---- the answers so far

pub answers-none : (feeds : List FeedValue) (board : Meaning) (stopped : List (Option StepRefusal)) (answers : List (Result Bool StepRefusal)) → stopped ≡ [] → answers ≡ [] → AreAnswersBy feeds board stopped answers
answers-none feeds board stopped answers unstopped none = record {
  count = ap (λ (xs : List (Result Bool StepRefusal)). length xs) none ∙ sym (ap (λ (xs : List (Option StepRefusal)). length xs) unstopped);
  each = λ s feed state stop answer at there stopped_by answered_by. absurd (none-some answer (sym (ap (λ (xs : List (Result Bool StepRefusal)). slice_get xs s) none) ∙ answered_by));
}

pub answers-more : (feeds : List FeedValue) (board : Meaning) (stopped longer : List (Option StepRefusal)) (answers more : List (Result Bool StepRefusal)) (s : ℕ) (feed : FeedValue) (state : State) (stop : Option StepRefusal)
    (answer : Result Bool StepRefusal) → length stopped ≡ s → longer ≡ stopped ++ stop ∷ [] → more ≡ answers ++ answer ∷ [] → slice_get feeds s ≡ Some feed → slice_get board.streams s ≡ Some state → AnswersBy feed state stop answer
    → AreAnswersBy feeds board stopped answers → AreAnswersBy feeds board longer more
answers-more feeds board stopped longer answers more s feed state stop answer long is_longer is_more at there here are = record {
  count =
      let one = ap (λ (xs : List (Result Bool StepRefusal)). length xs) is_more ∙ length-append answers (answer ∷ []) in
      let other = ap (λ (xs : List (Option StepRefusal)). length xs) is_longer ∙ length-append stopped (stop ∷ []) in
      omega (arith, one, other, are.count);
  each = λ t f x o a at_t there_t stop_t answer_t.
      elim (slice_get-push stopped stop o t (ap (λ (xs : List (Option StepRefusal)). slice_get xs t) (sym is_longer) ∙ stop_t)) [
        | inl old ↦
            elim (slice_get-push answers answer a t (ap (λ (xs : List (Result Bool StepRefusal)). slice_get xs t) (sym is_more) ∙ answer_t)) [
              | inl before ↦ are.each t f x o a at_t there_t old.1 before.1
              | inr last ↦ absurd (let less : t < length stopped = old.0 in omega (arith, less, last.0, are.count))
            ]
        | inr last ↦
            elim (slice_get-push answers answer a t (ap (λ (xs : List (Result Bool StepRefusal)). slice_get xs t) (sym is_more) ∙ answer_t)) [
              | inl before ↦ absurd (let less : t < length answers = before.0 in omega (arith, less, last.0, are.count))
              | inr last_one ↦
                  let t_is : t ≡ s = omega (arith, last.0, long) in
                  let f_is : feed ≡ f = same_Some feed f (sym at ∙ ap (slice_get feeds) (sym t_is) ∙ at_t) in
                  let x_is : state ≡ x = same_Some state x (sym there ∙ ap (slice_get board.streams) (sym t_is) ∙ there_t) in
                  subst (λ (z : FeedValue). AnswersBy z x o a) f_is
                  (subst (λ (z : State). AnswersBy feed z o a) x_is
                  (subst (λ (z : Option StepRefusal). AnswersBy feed state z a) last.1 (subst (λ (z : Result Bool StepRefusal). AnswersBy feed state stop z) last_one.1 here)))
            ]
      ];
}

-- the stream of the next answer
pub next-within : {A : Type 0} (yielded rest more whole : List A) (x : A) (s n : ℕ) → yielded ++ rest ≡ whole → rest ≡ x ∷ more → s ≡ length yielded → length whole ≡ n → s < n
next-within {A} yielded rest more whole x s n all next long count =
    let a = ap (λ (xs : List A). length xs) all in
    let b = length-append yielded rest in
    let c = ap (λ (xs : List A). length xs) next in
    omega (arith, a, b, c, long, count)

pub answers-further : (feeds : List FeedValue) (board : Meaning) (yielded : List (Option StepRefusal)) (answers more : List (Result Bool StepRefusal)) (s : ℕ) (feed : FeedValue) (stop : Option StepRefusal) (answer : Result Bool StepRefusal)
    → s ≡ length yielded → s < length feeds → length board.streams ≡ length feeds → feed ≡ get_or feeds s feed → IfSome (slice_get board.streams s) (λ state. AnswersBy feed state stop answer) → more ≡ answers ++ answer ∷ []
    → AreAnswersBy feeds board yielded answers → AreAnswersBy feeds board (yielded ++ stop ∷ []) more
answers-further feeds board yielded answers more s feed stop answer long less count is here is_more are =
    let state : (x : State) × (slice_get board.streams s ≡ Some x) = place_of board.streams s (omega (arith, less, count)) in
    answers-more feeds board yielded (yielded ++ stop ∷ []) answers more s feed state.0 stop answer (sym long) refl is_more (slice_get_read feeds (length feeds) s feed refl less is) state.1
    (subst (λ (o : Option State). IfSome o (λ x. AnswersBy feed x stop answer)) state.1 here) are

-- ---- streams that have copied all

done-running : (state : State) → state.marks.done ≡ state.marks.tables → phase_of (standing_of state) ≡ Running
done-running state e = unstick (state.marks.done == state.marks.tables) refl (eq-eqb state.marks.done state.marks.tables e)
  where
    unstick : (b : Bool) → (state.marks.done == state.marks.tables) ≡ b → b ≡ true → phase_of (standing_of state) ≡ Running
    unstick b is true_one = rw (is ∙ true_one) refl

-- a stream that had copied all and has applied all has ended
ended-one : (feeds : List FeedValue) (old new : Meaning) (s : ℕ) → IsLawful old → HasMoved feeds old new → AreRunning old → OfStream (λ feed before after. HasAppliedAll feed after) feeds old new s → StreamHasEnded feeds s new
ended-one feeds old new s lawful moved running all feed state at there =
    let gone : HaveGoneOn old new = moved-goes_on feeds old new lawful moved in
    let before : (x : State) × (slice_get old.streams s ≡ Some x) = place_of old.streams s (subst (λ (n : ℕ). s < n) gone.count (slice_get_within new.streams s state there)) in
    let one : HasGoneOn before.0 state = gone.each s before.0 state before.1 there in
    let applied : HasAppliedAll feed state = all feed before.0 state at before.1 there in
    let done : before.0.marks.done ≡ before.0.marks.tables = running-done (standing_of before.0) (running s before.0 before.1) in
    record {
      running = done-running state (ap (λ m. m.done) one.marks ∙ done ∙ ap (λ m. m.tables) (sym one.marks));
      read = applied.read;
      applied = applied.applied;
    }

ended-as : (most : ℕ) (feeds : List FeedValue) (old new : Meaning) (s : ℕ) → IsLawful old → HasMoved feeds old new → AreRunning old → (o : Option (Result Bool StepRefusal)) → IsAnswer most feeds old new s o → HasEndedAs feeds new s o
ended-as most feeds old new s lawful moved running (Some (Ok true)) h = ended-one feeds old new s lawful moved running h
ended-as most feeds old new s lawful moved running (Some (Ok false)) h = tt
ended-as most feeds old new s lawful moved running (Some (Err refusal)) h = tt
ended-as most feeds old new s lawful moved running None h = tt

pub have-ended : (most : ℕ) (feeds : List FeedValue) (old new : Meaning) (answers : List (Result Bool StepRefusal)) → IsLawful old → HasMoved feeds old new → AreRunning old → AreAnswers most feeds old answers new → HaveEndedAs answers feeds new
have-ended most feeds old new answers lawful moved running are = record {
  count = are.count;
  each = λ s. ended-as most feeds old new s lawful moved running (slice_get answers s) (are.each s);
}

-- ---- a whole round

-- what a round leaves and answers
abbrev pub Told : ℕ → List FeedValue → Meaning → List (Result Bool StepRefusal) → Meaning → Type 0
Told most feeds old answers new = HasMoved feeds old new × AreAnswers most feeds old answers new × ApplyUpTo most old new × IsFedBoard feeds new

-- of a board on its round whose streams are through
pub round-told : (fed : Fed) (most count : ℕ) (feeds : List FeedValue) (old new : Meaning) (gone : Gone) (answers : List (Result Bool StepRefusal)) → feeds ≡ fed.feeds → old ≡ fed.board → count ≡ most → new ≡ gone.board → IsOnRound fed most gone
    → AreThrough fed most gone (length fed.feeds) → AreAnswersBy fed.feeds gone.board gone.stopped answers → Told count feeds old answers new
round-told fed most count feeds old new gone answers same_feeds same_old same_most same_new on through are =
    subst (λ (fs : List FeedValue). Told count fs old answers new) (sym same_feeds)
    (subst (λ (b : Meaning). Told count fed.feeds b answers new) (sym same_old)
    (subst (λ (n : ℕ). Told n fed.feeds fed.board answers new) (sym same_most)
    (subst (λ (b : Meaning). Told most fed.feeds fed.board answers b) (sym same_new) (on.moved, answers-are fed most gone answers on through are, on.upto, fed-now fed most gone on))))

-- and of the board and its feeds that it began with
pub round-back : (most : ℕ) (feeds lent : List FeedValue) (old given new back : Meaning) (answers : List (Result Bool StepRefusal)) → lent ≡ feeds → given ≡ old → back ≡ new → Told most lent given answers new → Told most feeds old answers back
round-back most feeds lent old given new back answers same_feeds same_old same_new told =
    subst (λ (fs : List FeedValue). Told most fs old answers back) same_feeds
    (subst (λ (b : Meaning). Told most lent b answers back) same_old (subst (λ (b : Meaning). Told most lent given answers b) (sym same_new) told))

-- a board that stays as it was
pub still-moved : (feeds : List FeedValue) (board : Meaning) → HasMoved feeds board board
still-moved feeds board = (stands-still feeds board).1

pub still-upto : (most : ℕ) (board : Meaning) → ApplyUpTo most board board
still-upto most board s before after stood stands =
    let is : after ≡ before = same_Some after before (sym stands ∙ stood) in
    subst (λ (x : State). x.applied ≤ before.applied + most) (sym is) (omega arith)
