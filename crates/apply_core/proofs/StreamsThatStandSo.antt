-- A step of a stream that stands so, by its numbers, on its course.
use Rattle.std.proofs.Common.{true, false, ◌≡◌, ◌≢◌, ℕ, ◌+◌, ◌^◌, ◌<◌, ◌≤◌, ◌⊎◌, inl, inr, List, length, Option, Some, None, Ok, Err, slice_get, refl, sym, ap, subst, ◌∙◌, arith}
use Rattle.std.proofs.Math.Dec.{eqb}
use Rattle.std.proofs.Math.Nat.{eq-or-lt_of_le}
use Rattle.std.proofs.lemmas.Bool.Decides.{eqb_tells}
use Rattle.std.proofs.lemmas.Option.{same_Some, none-some, slice_get_within}
use Rattle.std.specs.Prelude.{IsSomeAnd}
use Rattle.list_laws.proofs.Places.{place_of}
use Rattle.stream_core.specs.declared.step.Step.{Step}
use Rattle.stream_core.specs.Standing.{Standing}
use Rattle.source_feed.specs.Planned.{FeedValue}
use Rattle.board_laws.specs.declared.answer.Answer.{Answer}
use Rattle.board_laws.specs.declared.refusal.Refusal.TheVariants.{NoStream, WrongPlan, Diverged, Core, OwnedByOther, FeedCount, Memory}
use Rattle.board_laws.specs.declared.step_refusal.StepRefusal.{StepRefusal}
use Rattle.board_laws.specs.declared.step_refusal.StepRefusal.TheVariants.{Unprepared, Refused}
use Rattle.board_laws.specs.Meaning.{State, Meaning}
use Rattle.board_laws.specs.Lawful.{standing_of}
use Rattle.board_laws.specs.Reading.{HasFeed}
use Rattle.board_laws.specs.Schedule.{IsReply}
use Rattle.board_laws.proofs.Lookups.{Ties}
use Rattle.apply_core.specs.declared.run_refusal.RunRefusal.{RunRefusal}
use Rattle.apply_core.specs.declared.run_refusal.RunRefusal.TheVariants as runs
use Rattle.apply_core.specs.RunRefused.{StopsWanting}
use Rattle.apply_core.specs.Ended.{HasEnded, IsFedBoard, AreAsBefore}
use Rattle.apply_core.specs.Courses.{LeadsOn, IsAtEnd, left_on}
use Rattle.apply_core.specs.Private.AllowedSteps.{EndsStream, ended_as}
use Rattle.apply_core.proofs.StepsComeNearer.{read-most}
use Rattle.apply_core.proofs.CourseStepsAreAllowed.{ended-at}
use Rattle.apply_core.proofs.CourseStepsOfBoards.{ends-step, wants-step, step-fed, step-others, step-nearer}

-- a feed has a stream
pub stream-there : (feeds : List FeedValue) (old : Meaning) (fed : IsFedBoard feeds old) (s : ℕ) → s < length feeds → slice_get old.streams s ≡ None → ⊥
stream-there feeds old fed s less none =
    let there : (x : State) × (slice_get old.streams s ≡ Some x) = place_of old.streams s (omega (arith, less, fed.count)) in
    none-some there.0 (sym none ∙ there.1)

-- which is whole
pub feed-few : (feeds : List FeedValue) (old : Meaning) (fed : IsFedBoard feeds old) (s : ℕ) (feed : FeedValue) → slice_get feeds s ≡ Some feed → length feed.groups < 2 ^ 31
feed-few feeds old fed s feed at =
    let within : s < length feeds = slice_get_within feeds s feed at in
    let there : (x : State) × (slice_get old.streams s ≡ Some x) = place_of old.streams s (omega (arith, within, fed.count)) in
    let has : HasFeed feeds s there.0 = fed.reads s there.0 there.1 in
    subst (λ (f : FeedValue). length f.groups < 2 ^ 31) (same_Some has.feed feed (sym has.fed ∙ at)) has.whole.few

pub the-one : {A : Type 0} (o : Option A) (P : A → Type 0) → IsSomeAnd o P → (x : A) × (o ≡ Some x) × P x
the-one None P h = absurd h
the-one (Some x) P h = (x, refl, h)

module _ (feeds : List FeedValue) (old : Meaning) (fed : IsFedBoard feeds old) (s : ℕ) (at : Standing) (stands : IsSomeAnd (slice_get old.streams s) (λ state. at ≡ standing_of state))
    (feed : FeedValue) (is_feed : slice_get feeds s ≡ Some feed) where
  abbrev one : (state : State) × (slice_get old.streams s ≡ Some state) × (at ≡ standing_of state)
  one = the-one (slice_get old.streams s) (λ state. at ≡ standing_of state) stands

  abbrev has : HasFeed feeds s one.0
  has = fed.reads s one.0 one.1

  its-feed : has.feed ≡ feed
  its-feed = same_Some has.feed feed (sym has.fed ∙ is_feed)

  pub stand-within : at.read ≤ length feed.groups
  stand-within = subst (λ (a : Standing). a.read ≤ length feed.groups) (sym one.2) (subst (λ (f : FeedValue). length one.0.list ≤ length f.groups) its-feed (read-most has.feed one.0 has.reads))

  pub stand-ended : IsAtEnd at (length feed.groups) → (f : FeedValue) (x : State) → slice_get feeds s ≡ Some f → slice_get old.streams s ≡ Some x → HasEnded f x
  stand-ended end f x at_f at_x =
      let same : feed ≡ f = same_Some feed f (sym is_feed ∙ at_f) in
      let state : one.0 ≡ x = same_Some one.0 x (sym one.1 ∙ at_x) in
      subst (λ (g : FeedValue). HasEnded g x) same (subst (λ (y : State). HasEnded feed y) state (ended-at feed one.0 (subst (λ (a : Standing). IsAtEnd a (length feed.groups)) one.2 end)))

  module _ (was is : ℕ) (step : Step) (leads : LeadsOn at (length feed.groups) was is step) where
    leading : LeadsOn (standing_of one.0) (length has.feed.groups) was is step
    leading = subst (λ (f : FeedValue). LeadsOn (standing_of one.0) (length f.groups) was is step) (sym its-feed) (subst (λ (a : Standing). LeadsOn a (length feed.groups) was is step) one.2 leads)

    pub stand-refused : (new : Meaning) (refusal : StepRefusal) → IsReply feeds old (s, step) (Err refusal) new → EndsStream feeds s refusal
    stand-refused new refusal h = ends-step feeds old fed s one.0 one.1 was is step leading new refusal h

    -- and where memory ends the run the step wants it
    pub stand-wants : (new : Meaning) (refusal : StepRefusal) (ended : RunRefusal) → ended_as s refusal ≡ Some ended → IsReply feeds old (s, step) (Err refusal) new → StopsWanting feeds new ended
    stand-wants new (Unprepared fault) ended e h = subst (StopsWanting feeds new) (same_Some (runs.Unsound s fault) ended e) tt
    stand-wants new (Refused NoStream) ended e h = absurd (none-some ended e)
    stand-wants new (Refused WrongPlan) ended e h = absurd (none-some ended e)
    stand-wants new (Refused Diverged) ended e h = absurd (none-some ended e)
    stand-wants new (Refused (Core refusal)) ended e h = absurd (none-some ended e)
    stand-wants new (Refused (OwnedByOther key owner)) ended e h = subst (StopsWanting feeds new) (same_Some (runs.OwnedByOther s key owner) ended e) tt
    stand-wants new (Refused FeedCount) ended e h = absurd (none-some ended e)
    stand-wants new (Refused Memory) ended e h = subst (StopsWanting feeds new) (same_Some runs.Memory ended e) (s, wants-step feeds old fed s one.0 one.1 was is step leading new h)

    module _ (ties : Ties) (new : Meaning) (answer : Answer) (h : IsReply feeds old (s, step) (Ok answer) new) where
      pub stand-fed : IsFedBoard feeds new
      stand-fed = step-fed feeds old fed s one.0 one.1 was is step leading ties new answer h

      pub stand-others : (t : ℕ) → t ≢ s → slice_get new.streams t ≡ slice_get old.streams t
      stand-others = step-others feeds old fed s one.0 one.1 was is step leading ties new answer h

      pub stand-nearer : left_on feeds new s is < left_on feeds old s was
      stand-nearer = step-nearer feeds old fed s one.0 one.1 was is step leading ties new answer h

-- ---- all streams

-- one stream more has ended
pub ended-more : (feeds : List FeedValue) (before after : Meaning) (s : ℕ)
    → ((t : ℕ) (feed : FeedValue) (state : State) → t < s → slice_get feeds t ≡ Some feed → slice_get before.streams t ≡ Some state → HasEnded feed state)
    → ((t : ℕ) → t ≢ s → slice_get after.streams t ≡ slice_get before.streams t)
    → ((feed : FeedValue) (state : State) → slice_get feeds s ≡ Some feed → slice_get after.streams s ≡ Some state → HasEnded feed state)
    → (t : ℕ) (feed : FeedValue) (state : State) → t < s + 1 → slice_get feeds t ≡ Some feed → slice_get after.streams t ≡ Some state → HasEnded feed state
ended-more feeds before after s so_far others here t feed state less at_f at_s = by (eq-or-lt_of_le (omega (arith, less)))
  where
    by : (t ≡ s) ⊎ (t < s) → HasEnded feed state
    by (inl same) = here feed state (ap (slice_get feeds) (sym same) ∙ at_f) (ap (slice_get after.streams) (sym same) ∙ at_s)
    by (inr smaller) = so_far t feed state smaller at_f (sym (others t (λ e. omega (arith, e, smaller))) ∙ at_s)

-- the same where streams are named: one more of them has ended
pub named-more : (feeds : List FeedValue) (streams : List ℕ) (before after : Meaning) (i s : ℕ) → slice_get streams i ≡ Some s
    → ((k t : ℕ) (feed : FeedValue) (state : State) → k < i → slice_get streams k ≡ Some t → slice_get feeds t ≡ Some feed → slice_get before.streams t ≡ Some state → HasEnded feed state)
    → ((t : ℕ) → t ≢ s → slice_get after.streams t ≡ slice_get before.streams t)
    → ((feed : FeedValue) (state : State) → slice_get feeds s ≡ Some feed → slice_get after.streams s ≡ Some state → HasEnded feed state)
    → (k t : ℕ) (feed : FeedValue) (state : State) → k < i + 1 → slice_get streams k ≡ Some t → slice_get feeds t ≡ Some feed → slice_get after.streams t ≡ Some state
    → HasEnded feed state
named-more feeds streams before after i s named so_far others here k t feed state less at_n at_f at_s = by (eqb_tells t s)
  where
    first : (t ≢ s) → (k ≡ i) ⊎ (k < i) → k < i
    first other (inl same) = absurd (other (same_Some t s (sym at_n ∙ ap (slice_get streams) same ∙ named)))
    first other (inr smaller) = smaller

    by : ((eqb t s ≡ true) × (t ≡ s)) ⊎ ((eqb t s ≡ false) × (t ≢ s)) → HasEnded feed state
    by (inl (_, same)) = here feed state (ap (slice_get feeds) (sym same) ∙ at_f) (ap (slice_get after.streams) (sym same) ∙ at_s)
    by (inr (_, other)) = so_far k t feed state (first other (eq-or-lt_of_le (omega (arith, less)))) at_n at_f (sym (others t other) ∙ at_s)

-- and those that aren't named are as they were
pub unnamed-more : (streams : List ℕ) (old before after : Meaning) (i s : ℕ) → slice_get streams i ≡ Some s → AreAsBefore streams old before
    → ((t : ℕ) → t ≢ s → slice_get after.streams t ≡ slice_get before.streams t) → AreAsBefore streams old after
unnamed-more streams old before after i s named so_far others t unnamed = others t (λ same. unnamed (i, named ∙ ap Some (sym same))) ∙ so_far t unnamed
