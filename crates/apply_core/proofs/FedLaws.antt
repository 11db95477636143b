-- A board with the feeds that its streams read: its steps, and the join of two.
use Rattle.std.proofs.Common.{◌≡◌, ℕ, ◌<◌, inl, inr, List, ◌++◌, length, take, drop, Option, Some, None, Result, Ok, Err, slice_get, set, refl, sym, ap, subst, ◌∙◌, arith}
use Rattle.std.proofs.lemmas.List.{take-append-le, take_all}
use Rattle.std.proofs.lemmas.Option.{same_Some, none-some, slice_get_within}
use Rattle.std.specs.Prelude.{IfOk, IfSome, OnOk, MatchOption}
use Rattle.std.specs.Option.{option_map_or, option_and_then}
use Rattle.list_laws.proofs.Places.{place_of}
use Rattle.stream_core.specs.declared.step.Step.{Step}
use Rattle.stream_core.specs.declared.step.Step.TheVariants.{Offer, Advance, OpenAt, CopyRows, Close, Restart}
use Rattle.source_feed.specs.Planned.{FeedValue}
use Rattle.source_feed.specs.Touches.{PreparedValue, prepared_at}
use Rattle.board_laws.specs.declared.refusal.Refusal.{Refusal}
use Rattle.board_laws.specs.declared.refusal.Refusal.TheVariants.{NoStream, WrongPlan, Diverged, Core, OwnedByOther, FeedCount, Memory}
use Rattle.board_laws.specs.declared.step_refusal.StepRefusal.TheVariants.{Unprepared, Refused}
use Rattle.board_laws.specs.Allowed.{IsOwnPlan}
use Rattle.board_laws.specs.Event.{Event, offer, advance, open_at, copy_rows, close, restart}
use Rattle.board_laws.specs.FedBoards.{HasGrown}
use Rattle.board_laws.specs.Meaning.{State, Meaning}
use Rattle.board_laws.specs.Reading.{HasFeed}
use Rattle.board_laws.specs.RunLaws.{FedBoardsMayGrow}
use Rattle.board_laws.specs.Runs.{event_of_step}
use Rattle.board_laws.specs.Schedule.{Reply, unfed, IsReplyBy, IsReply}
use Rattle.board_laws.specs.Step.{IsRefusedOn, IsRefusedFor}
use Rattle.board_laws.proofs.Following.{refused_by, feed_of-there}
use Rattle.board_laws.specs.Compatible.{AreCompatible}
use Rattle.board_laws.specs.Joined.{joined}
use Rattle.board_laws.specs.JoinLaws.{JoinsAreLawful}
use Rattle.board_laws.proofs.JoinedPairs.{one_of_two}
use Rattle.apply_core.specs.Ended.{IsFedBoard}
use Rattle.apply_core.specs.Feeds.{IsOfOwnFeed}
use Rattle.apply_core.proofs.CourseStepsAreAllowed.{of_offer, prepared-plan}
use Rattle.apply_core.proofs.JoinLaws.{chosen_long}

-- ---- a step

-- where the board has no such stream the step is refused 115
pub reply-no_stream : (feeds : List FeedValue) (old : Meaning) (s : ℕ) (step : Step) → slice_get old.streams s ≡ None → IsReply feeds old (s, step) (Err (Refused NoStream)) old
reply-no_stream feeds old s step none =
    subst (λ (o : Option State). MatchOption (option_and_then (λ (x : State). slice_get feeds s) o)
    ((refused_by (Refused NoStream) ≡ refused_by (Refused (option_map_or (λ (x : State). FeedCount) o NoStream))) × (old ≡ old))
    (λ feed. IsReplyBy feed old s step (Err (Refused NoStream)) old)) (sym none) (refl, refl)

-- what a step replies by the stream's feed
pub reply-of_feed : (feeds : List FeedValue) (old new : Meaning) (s : ℕ) (step : Step) (reply : Reply) (state : State) (feed : FeedValue) → slice_get old.streams s ≡ Some state → slice_get feeds s ≡ Some feed
    → IsReplyBy feed old s step reply new → IsReply feeds old (s, step) reply new
reply-of_feed feeds old new s step reply state feed here at h =
    subst (λ (o : Option FeedValue). MatchOption o ((reply ≡ refused_by (Refused (unfed old s))) × (new ≡ old)) (λ feed. IsReplyBy feed old s step reply new)) (sym (feed_of-there feeds old s state feed here at)) h

module _ (feeds : List FeedValue) (board : Meaning) (fed : IsFedBoard feeds board) (s : ℕ) where
  -- a feed has a stream
  stream-of : (feed : FeedValue) → slice_get feeds s ≡ Some feed → (state : State) × (slice_get board.streams s ≡ Some state)
  stream-of feed at =
      let within : s < length feeds = slice_get_within feeds s feed at in
      place_of board.streams s (omega (arith, within, fed.count))

  -- of its plan
  pub plan-of : (feed : FeedValue) → slice_get feeds s ≡ Some feed → IfSome (slice_get board.streams s) (λ state. state.plan ≡ feed.plan)
  plan-of feed at = by (slice_get board.streams s) refl
    where
      by : (o : Option State) → slice_get board.streams s ≡ o → IfSome o (λ state. state.plan ≡ feed.plan)
      by None e = tt
      by (Some state) e =
          let has : HasFeed feeds s state = fed.reads s state e in
          has.reads.plan ∙ ap (λ (f : FeedValue). f.plan) (same_Some has.feed feed (sym has.fed ∙ at))

  -- and no stream is without one
  pub none-there : slice_get feeds s ≡ None → slice_get board.streams s ≡ None
  none-there none = by (slice_get board.streams s) refl
    where
      by : (o : Option State) → slice_get board.streams s ≡ o → o ≡ None
      by None e = refl
      by (Some state) e = let has : HasFeed feeds s state = fed.reads s state e in absurd (none-some has.feed (sym none ∙ has.fed))

  pub reply-fed : (new : Meaning) (step : Step) (reply : Reply) (feed : FeedValue) → slice_get feeds s ≡ Some feed → IsReplyBy feed board s step reply new → IsReply feeds board (s, step) reply new
  reply-fed new step reply feed at h = let there = stream-of feed at in reply-of_feed feeds board new s step reply there.0 feed there.1 at h

-- ---- a stream that has its feed

refused-for : (old : Meaning) (s : ℕ) (state : State) → slice_get old.streams s ≡ Some state → (event : Event) (refusal : Refusal) → IsRefusedOn old s event refusal → IsRefusedFor old s state event refusal
refused-for old s state here event refusal h = subst (λ (o : Option State). MatchOption o (refusal ≡ NoStream) (λ state. IsRefusedFor old s state event refusal)) here h

own-plan : (feed : FeedValue) (state : State) → state.plan ≡ feed.plan → (step : Step) (event : Event) → event_of_step feed step ≡ Some event → IsOwnPlan state event
own-plan feed state same (Offer n) event h =
    let one : (group : PreparedValue) × (prepared_at feed n ≡ Ok group) × (offer group ≡ event) = of_offer feed n event h in
    subst (IsOwnPlan state) one.2 (prepared-plan feed n one.0 one.1 ∙ sym same)
own-plan feed state same Advance event h = subst (IsOwnPlan state) (same_Some advance event h) tt
own-plan feed state same (OpenAt m) event h = subst (IsOwnPlan state) (same_Some (open_at m) event h) tt
own-plan feed state same (CopyRows c) event h = subst (IsOwnPlan state) (same_Some (copy_rows c) event h) tt
own-plan feed state same Close event h = subst (IsOwnPlan state) (same_Some close event h) tt
own-plan feed state same Restart event h = subst (IsOwnPlan state) (same_Some restart event h) tt

own-reply : (feed : FeedValue) (old new : Meaning) (s : ℕ) (state : State) → slice_get old.streams s ≡ Some state → state.plan ≡ feed.plan → (step : Step) (reply : Reply) → IsReplyBy feed old s step reply new → IsOfOwnFeed reply
own-reply feed old new s state here same step (Ok answer) h = tt
own-reply feed old new s state here same step (Err (Unprepared fault)) h = tt
own-reply feed old new s state here same step (Err (Refused NoStream)) h = refused-for old s state here h.event NoStream h.stepped.0
own-reply feed old new s state here same step (Err (Refused WrongPlan)) h = refused-for old s state here h.event WrongPlan h.stepped.0 (own-plan feed state same step h.event h.of_step)
own-reply feed old new s state here same step (Err (Refused Diverged)) h = tt
own-reply feed old new s state here same step (Err (Refused (Core refusal))) h = tt
own-reply feed old new s state here same step (Err (Refused (OwnedByOther key owner))) h = tt
own-reply feed old new s state here same step (Err (Refused FeedCount)) h = refused-for old s state here h.event FeedCount h.stepped.0
own-reply feed old new s state here same step (Err (Refused Memory)) h = tt

-- it isn't refused for the want of a stream or of a feed, nor by another plan
pub exact-of : (feeds : List FeedValue) (board : Meaning) → IsFedBoard feeds board → (s : ℕ) (new : Meaning) (step : Step) (reply : Reply) → IsReply feeds board (s, step) reply new
    → IfSome (slice_get feeds s) (λ _. IsOfOwnFeed reply)
exact-of feeds board fed s new step reply h = by (slice_get feeds s) refl
  where
    by : (o : Option FeedValue) → slice_get feeds s ≡ o → IfSome o (λ _. IsOfOwnFeed reply)
    by None at = tt
    by (Some feed) at =
        let there : (state : State) × (slice_get board.streams s ≡ Some state) = stream-of feeds board fed s feed at in
        let has : HasFeed feeds s there.0 = fed.reads s there.0 there.1 in
        own-reply feed board new s there.0 there.1 (has.reads.plan ∙ ap (λ (f : FeedValue). f.plan) (same_Some has.feed feed (sym has.fed ∙ at))) step reply
        (subst (λ (o : Option FeedValue). MatchOption o ((reply ≡ refused_by (Refused (unfed board s))) × (new ≡ board)) (λ feed. IsReplyBy feed board s step reply new)) (feed_of-there feeds board s there.0 feed there.1 at) h)

-- the board where the feed of a stream has grown
pub grown-there : FedBoardsMayGrow → (feeds : List FeedValue) (board : Meaning) (s : ℕ) (feed : FeedValue) → IsFedBoard feeds board → s < length feeds → IfSome (slice_get feeds s) (λ old. HasGrown old feed)
    → IsFedBoard (set feeds s feed) board
grown-there grow feeds board s feed fed within grown =
    let there : (old : FeedValue) × (slice_get feeds s ≡ Some old) = place_of feeds s within in
    grow feeds board s there.0 feed fed there.1 (subst (λ (o : Option FeedValue). IfSome o (λ old. HasGrown old feed)) there.1 grown)

-- ---- two boards

-- the join of two boards over the same feeds is one
pub joined-fed : JoinsAreLawful → (feeds : List FeedValue) (a b : Meaning) → IsFedBoard feeds a → IsFedBoard feeds b → AreCompatible a b → IsFedBoard feeds (joined a b)
joined-fed lawful feeds a b one other compatible = record {
  lawful = lawful a b one.lawful other.lawful compatible;
  count = chosen_long a.streams b.streams compatible.plans ∙ one.count;
  reads = λ s z at. elim (one_of_two a.streams b.streams s z at) [
    | inl first ↦ one.reads s z first
    | inr second ↦ other.reads s z second
  ];
}

pub joins-fed : {E : Type 0} → JoinsAreLawful → (a b : Meaning) (r : Result Meaning E) → IfOk r (λ board. AreCompatible a b × (board ≡ joined a b))
    → (feeds : List FeedValue) → IsFedBoard feeds a → IsFedBoard feeds b → IfOk r (IsFedBoard feeds)
joins-fed lawful a b (Ok board) h feeds one other = subst (IsFedBoard feeds) (sym h.1) (joined-fed lawful feeds a b one other h.0)
joins-fed lawful a b (Err e) h feeds one other = tt

-- a fact of an answer, from another one
pub on-ok : {X E : Type 0} {P Q : Type 0} (r : Result X E) → (P → Q) → OnOk r P → OnOk r Q
on-ok (Ok x) f h = f h
on-ok (Err e) f h = h

-- what a loan of the feeds writes back
pub refilled_feeds : (n : ℕ) (items new : List FeedValue) → length new ≡ n → take n (new ++ drop (length new) items) ≡ new
refilled_feeds n items new same = take-append-le n new (drop (length new) items) (omega (arith, same)) ∙ take_all n new (omega (arith, same))
