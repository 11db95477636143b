-- Steps of a schedule, and lists of them, from the steps of the board.
use Rattle.std.proofs.Common.{◌≡◌, ℕ, suc, ◌+◌, ◌<◌, ◌⊎◌, inl, inr, List, [], ◌∷◌, ◌++◌, length, map, take, get_or, Option, Some, None, Result, Ok, Err, slice_get, refl, sym, ap, subst, ◌∙◌, arith}
use Rattle.std.proofs.Math.Nat.{eq-or-lt_of_le}
use Rattle.std.proofs.lemmas.List.{take_more}
use Rattle.std.proofs.lemmas.Option.{slice_get-map, same_Some, none-some}
use Rattle.std.specs.Prelude.{IfOk, OnOk, IsOk, IsSomeAnd}
use Rattle.std.specs.Option.{option_map}
use Rattle.std.specs.Result.{result_ok}
use Rattle.filter_rule.specs.PlanValue.{PlanValue}
use Rattle.stream_core.specs.declared.step.Step.{Step}
use Rattle.stream_core.specs.declared.step.Step.TheVariants.{Offer, Advance, OpenAt, CopyRows, Close, Restart}
use Rattle.source_feed.specs.declared.fault.FeedFault.{FeedFault}
use Rattle.source_feed.specs.Planned.{FeedValue}
use Rattle.source_feed.specs.Touches.{PreparedValue, prepared_at}
use Rattle.board_laws.specs.declared.refusal.Refusal.{Refusal}
use Rattle.board_laws.specs.declared.refusal.Refusal.TheVariants.{NoStream, WrongPlan, Diverged, Core, OwnedByOther, FeedCount, Memory}
use Rattle.board_laws.specs.Meaning.{State, Meaning}
use Rattle.board_laws.specs.Lawful.{start_of}
use Rattle.board_laws.specs.Event.{Event, offer}
use Rattle.board_laws.specs.Reading.{AllReadTheirFeeds, HasFeed}
use Rattle.board_laws.specs.RunLaws.{StreamsFollowTheirOwnSteps}
use Rattle.board_laws.specs.Runs.{event_of_step}
use Rattle.board_laws.specs.Schedule.{Reply, WantsMemory, IsRefusedStep, IsReply, IsRun}
use Rattle.board_laws.specs.Step.{IsRefusedOn}
use Rattle.apply_core.specs.Fresh.{fresh_board}
use Rattle.apply_core.specs.Feeds.{AreWholeFeeds}
use Rattle.apply_core.specs.Schedules.{AllAreTaken}

-- ---- one step

module _ (feed : FeedValue) (old new : Meaning) (s : ℕ) (step : Step) (event : Event) (of_step : event_of_step feed step ≡ Some event) where
  -- a step that the board refuses is a refused step of the schedule
  pub refused-step : (refusal : Refusal) → IsRefusedOn old s event refusal → new ≡ old → IsRefusedStep feed old s step refusal new
  refused-step NoStream h same = record { event = event; of_step = of_step; stepped = (h, same) }
  refused-step WrongPlan h same = record { event = event; of_step = of_step; stepped = (h, same) }
  refused-step Diverged h same = record { event = event; of_step = of_step; stepped = (h, same) }
  refused-step (Core refusal) h same = record { event = event; of_step = of_step; stepped = (h, same) }
  refused-step (OwnedByOther key owner) h same = record { event = event; of_step = of_step; stepped = (h, same) }
  refused-step FeedCount h same = record { event = event; of_step = of_step; stepped = (h, same) }
  refused-step Memory h same = (wanted step of_step, same)
    where
      so : (o : Option Event) → o ≡ Some event → IsSomeAnd o (λ event. IsRefusedOn old s event Memory)
      so o is = subst (λ (o : Option Event). IsSomeAnd o (λ event. IsRefusedOn old s event Memory)) (sym is) h

      sound : (r : Result PreparedValue FeedFault) → option_map offer (result_ok r) ≡ Some event → IsOk r
      sound (Ok group) is = refl
      sound (Err fault) is = absurd (none-some event is)

      wanted : (step : Step) → event_of_step feed step ≡ Some event → WantsMemory feed old s step
      wanted (Offer n) is = sound (prepared_at feed n) is
      wanted Advance is = so (event_of_step feed Advance) is
      wanted (OpenAt m) is = so (event_of_step feed (OpenAt m)) is
      wanted (CopyRows c) is = so (event_of_step feed (CopyRows c)) is
      wanted Close is = so (event_of_step feed Close) is
      wanted Restart is = so (event_of_step feed Restart) is

-- ---- a list of steps

-- a list with one step more
pub run-more : (feeds : List FeedValue) (old between new : Meaning) (steps : List (ℕ × Step)) (replies : List Reply) (step : ℕ × Step) (reply : Reply)
    → IsRun feeds old steps replies between → IsReply feeds between step reply new → IsRun feeds old (steps ++ step ∷ []) (replies ++ reply ∷ []) new
run-more feeds old between new [] [] step reply run one = (new, subst (λ (b : Meaning). IsReply feeds b step reply new) run one, refl)
run-more feeds old between new [] (x ∷ replies) step reply run one = elim run [ ]
run-more feeds old between new (x ∷ steps) [] step reply run one = elim run [ ]
run-more feeds old between new (x ∷ steps) (y ∷ replies) step reply run one = (run.0, run.1, run-more feeds run.0 between new steps replies step reply run.2 one)

-- the steps so far with the next one
pub run-taken : (feeds : List FeedValue) (old between new : Meaning) (steps : List (ℕ × Step)) (i : ℕ) (d : ℕ × Step) (replies more : List Reply) (reply : Reply) → i < length steps
    → IsRun feeds old (take i steps) replies between → IsReply feeds between (get_or steps i d) reply new → more ≡ replies ++ reply ∷ []
    → IsRun feeds old (take (i + 1) steps) more new
run-taken feeds old between new steps i d replies more reply inside run one is =
    subst (λ (rs : List Reply). IsRun feeds old (take (i + 1) steps) rs new) (sym is)
    (subst (λ (xs : List (ℕ × Step)). IsRun feeds old xs (replies ++ reply ∷ []) new) (sym (take_more steps i d inside))
    (run-more feeds old between new (take i steps) replies (get_or steps i d) reply run one))

-- ---- from a fresh board

abbrev plans_of : List FeedValue → List PlanValue
plans_of feeds = map (λ (feed : FeedValue). feed.plan) feeds

module _ (feeds : List FeedValue) (plans : List PlanValue) (opened : plans_of feeds ≡ plans) where
  fresh-state : (s : ℕ) → slice_get (fresh_board plans).streams s ≡ option_map start_of (option_map (λ (feed : FeedValue). feed.plan) (slice_get feeds s))
  fresh-state s =
      slice_get-map start_of plans s
      ∙ ap (λ (ps : List PlanValue). option_map start_of (slice_get ps s)) (sym opened)
      ∙ ap (option_map start_of) (slice_get-map (λ (feed : FeedValue). feed.plan) feeds s)

  pub start-at : (s : ℕ) (feed : FeedValue) → slice_get feeds s ≡ Some feed → slice_get (fresh_board plans).streams s ≡ Some (start_of feed.plan)
  start-at s feed fed = fresh-state s ∙ ap (λ o. option_map start_of (option_map (λ (feed : FeedValue). feed.plan) o)) fed

  -- nothing is a beginning of every feed
  pub fresh-reads : AreWholeFeeds feeds → AllReadTheirFeeds feeds (fresh_board plans)
  fresh-reads whole s state here = by (slice_get feeds s) refl
    where
      by : (o : Option FeedValue) → slice_get feeds s ≡ o → HasFeed feeds s state
      by None e = absurd (none-some state (sym (fresh-state s ∙ ap (λ o. option_map start_of (option_map (λ (feed : FeedValue). feed.plan) o)) e) ∙ here))
      by (Some feed) e =
          let is : start_of feed.plan ≡ state = same_Some (start_of feed.plan) state (sym (start-at s feed e) ∙ here) in
          record {
            feed = feed;
            fed = e;
            whole = whole s feed e;
            reads = record { plan = sym (ap (λ (x : State). x.plan) is); length_read = 0; list = sym (ap (λ (x : State). x.list) is) };
          }

  -- each stream's state behind a run from the start
  pub all-taken : StreamsFollowTheirOwnSteps → (steps : List (ℕ × Step)) (replies : List Reply) (new : Meaning) → IsRun feeds (fresh_board plans) steps replies new → AllAreTaken feeds steps replies new
  all-taken follow steps replies new run s feed fed = follow feeds (fresh_board plans) new steps replies run s feed (start_of feed.plan) fed (start-at s feed fed)

-- ---- feeds and plans

-- lists of one length with the same elements before their ends are the same
pub same-list : {A : Type 0} (xs ys : List A) (n : ℕ) → length xs ≡ n → length ys ≡ n → ((i : ℕ) → i < n → slice_get xs i ≡ slice_get ys i) → xs ≡ ys
same-list [] [] n e f h = refl
same-list [] (y ∷ ys) n e f h = absurd (omega (arith, e, f))
same-list (x ∷ xs) [] n e f h = absurd (omega (arith, e, f))
same-list {A} (x ∷ xs) (y ∷ ys) n e f h =
    let rest : xs ≡ ys = same-list xs ys (length xs) refl (omega (arith, e, f)) (λ i less. h (suc i) (omega (arith, less, e))) in
    ap (λ (z : A). z ∷ xs) (same_Some x y (h 0 (omega (arith, e)))) ∙ ap (λ (zs : List A). y ∷ zs) rest

-- one place more at which two lists agree
pub agree-more : {A : Type 0} (xs ys : List A) (n : ℕ) (x y : A) → slice_get xs n ≡ Some x → slice_get ys n ≡ Some y → x ≡ y
    → ((k : ℕ) → k < n → slice_get xs k ≡ slice_get ys k) → (k : ℕ) → k < n + 1 → slice_get xs k ≡ slice_get ys k
agree-more {A} xs ys n x y at there same so_far k less = by (eq-or-lt_of_le (omega (arith, less)))
  where
    by : (k ≡ n) ⊎ (k < n) → slice_get xs k ≡ slice_get ys k
    by (inl is) = ap (slice_get xs) is ∙ at ∙ ap (λ (z : A). Some z) same ∙ sym there ∙ ap (slice_get ys) (sym is)
    by (inr before) = so_far k before

-- one element more of which a fact is true
pub each-more : {A : Type 0} (P : A → Type 0) (xs : List A) (n : ℕ) (x : A) → slice_get xs n ≡ Some x → P x
    → ((k : ℕ) (y : A) → k < n → slice_get xs k ≡ Some y → P y) → (k : ℕ) (y : A) → k < n + 1 → slice_get xs k ≡ Some y → P y
each-more P xs n x at fact so_far k y less here = by (eq-or-lt_of_le (omega (arith, less)))
  where
    by : (k ≡ n) ⊎ (k < n) → P y
    by (inl is) = subst P (same_Some x y (sym at ∙ ap (slice_get xs) (sym is) ∙ here)) fact
    by (inr before) = so_far k y before here

-- a fact that doesn't speak of the answer
pub if-answered : {X E : Type 0} {P : Type 0} (r : Result X E) → P → IfOk r (λ _. P)
if-answered (Ok x) fact = fact
if-answered (Err e) fact = tt

pub if-ok-also : {X E : Type 0} {P Q : X → Type 0} (r : Result X E) → ((x : X) → P x → Q x) → IfOk r P → IfOk r Q
if-ok-also (Ok x) f h = f x h
if-ok-also (Err e) f h = h

pub on-ok-by : {X E : Type 0} {P : X → Type 0} {Q : Type 0} (r : Result X E) → ((x : X) → P x → Q) → IfOk r P → OnOk r Q
on-ok-by (Ok x) f h = f x h
on-ok-by (Err e) f h = h

-- a board of which nothing is read, if there is one, reads its feeds
pub fresh-reading : {E : Type 0} (feeds : List FeedValue) (plans : List PlanValue) (r : Result Meaning E) → plans_of feeds ≡ plans → AreWholeFeeds feeds → IfOk r (λ board. board ≡ fresh_board plans) → IfOk r (AllReadTheirFeeds feeds)
fresh-reading feeds plans (Ok board) opened whole is = subst (λ (b : Meaning). AllReadTheirFeeds feeds b) (sym is) (fresh-reads feeds plans opened whole)
fresh-reading feeds plans (Err e) opened whole is = is
