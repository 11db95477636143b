-- A stream's own steps on a board where no other stream has a row.
use Rattle.std.proofs.Common.{◌≡◌, ◌≢◌, ◌==◌, ◌&&◌, ℕ, ◌≤◌, inl, inr, Bool, true, false, not, cond, List, [], ◌∷◌, Option, Some, None, Ok, Err, slice_get, set, refl, sym, ap, subst, ◌∙◌}
use Rattle.std.proofs.lemmas.Bool.{eqb-false, true≢false}
use Rattle.std.proofs.lemmas.List.{length-set}
use borrow.Author.Tests.{eqb-true}
use Rattle.std.specs.Prelude.{MatchOption}
use Rattle.std.specs.Option.{option_map_or, option_and_then}
use Rattle.board_laws.proofs.Chunks.{and-left}
use Rattle.list_laws.proofs.Places.{slice_get-set_same, slice_get-set_other}
use Rattle.filter_rule.specs.PlanValue.{PlanValue}
use Rattle.pk_copy.specs.KeyOrder.{key_cmp}
use Rattle.pk_copy.specs.KeyValue.{KeyValue}
use Rattle.stream_core.specs.declared.step.Step.{Step}
use Rattle.target_tables.specs.Contents.{value_at}
use Rattle.source_feed.specs.Planned.{FeedValue}
use Rattle.board_laws.specs.declared.answer.Answer.{Answer}
use Rattle.board_laws.specs.declared.refusal.Refusal.{Refusal}
use Rattle.board_laws.specs.declared.refusal.Refusal.TheVariants.{NoStream, WrongPlan, Diverged, Core, OwnedByOther, FeedCount, Memory}
use Rattle.board_laws.specs.declared.step_refusal.StepRefusal.{StepRefusal}
use Rattle.board_laws.specs.declared.step_refusal.StepRefusal.TheVariants.{Unprepared, Refused}
use Rattle.board_laws.specs.Meaning.{State, Meaning}
use Rattle.board_laws.specs.Cut.{cut_of, cut_in, own_row}
use Rattle.board_laws.specs.Lawful.{IsSoundState, IsLawful}
use Rattle.board_laws.specs.Event.{Event}
use Rattle.board_laws.specs.StateAfter.{state_after}
use Rattle.board_laws.specs.Step.{due_at, IsMade, IsRefusedFor}
use Rattle.board_laws.specs.Schedule.{Reply, IsEventStep, IsRefusedStep, IsReplyBy, feed_of, unfed, IsReply, IsRun}
use Rattle.board_laws.specs.Lone.{is_hindered, is_lone, lone_steps, lone_replies, IsAloneAs}
use Rattle.board_laws.proofs.Lists.{slice_get-set}
use Rattle.board_laws.proofs.Making.{plan-after, same-or-other}
use Rattle.board_laws.proofs.OwnPart.{own_part, only, rising_part, value_in_part, own-only, other-only, none-in_the_way}
use Rattle.board_laws.proofs.Following.{refused_by, answered, feed_of-there, unchanged, answered_by}

-- ---- a made step

module _ (old between alone : Meaning) (s : ℕ) (event : Event) (answer : Answer) (made : IsMade old s event answer between) (is : IsAloneAs s old alone) where
  abbrev after : State
  after = state_after made.state event

  -- the stream's rows behind the step, and the other streams as they are alone
  abbrev pub left : Meaning
  left = record { streams = set alone.streams s after; rows = own_part s between.rows }

  here : slice_get alone.streams s ≡ Some made.state
  here = is.state ∙ made.stream

  there : slice_get between.streams s ≡ Some after
  there = ap (λ (streams : List State). slice_get streams s) made.streams ∙ slice_get-set_same old.streams s after made.state made.stream

  at_left : slice_get left.streams s ≡ Some after
  at_left = slice_get-set_same alone.streams s after made.state here

  value_left : (key : KeyValue) → value_at key_cmp left.rows key ≡ only s (value_at key_cmp between.rows key)
  value_left key = value_in_part s between.rows key made.lawful.rising

  none_left : (t : ℕ) (key : KeyValue) → t ≢ s → own_row t (value_at key_cmp left.rows key) ≡ None
  none_left t key other = ap (own_row t) (value_left key) ∙ other-only s t (value_at key_cmp between.rows key) other

  cut-same : (key : KeyValue) → own_row s (value_at key_cmp left.rows key) ≡ cut_in left s key
  cut-same key =
      ap (own_row s) (value_left key)
      ∙ own-only s (value_at key_cmp between.rows key)
      ∙ made.lawful.cuts s key
      ∙ ap (λ (o : Option State). option_and_then (λ x. cut_of x key) o) (there ∙ sym at_left)

  cut-other : (t : ℕ) (key : KeyValue) → t ≢ s → own_row t (value_at key_cmp left.rows key) ≡ cut_in left t key
  cut-other t key other =
      none_left t key other
      ∙ sym (is.none t key other)
      ∙ is.lawful.cuts t key
      ∙ ap (λ (o : Option State). option_and_then (λ x. cut_of x key) o) (sym (slice_get-set_other alone.streams s after t other))

  before : (t : ℕ) (x : State) → slice_get left.streams t ≡ Some x → (y : State) × (slice_get alone.streams t ≡ Some y) × (x.plan ≡ y.plan)
  before t x e =
      elim (slice_get-set alone.streams s after x t e) [
        | inl same ↦ (made.state, ap (slice_get alone.streams) same.0 ∙ here, ap (λ (z : State). z.plan) (sym same.1) ∙ plan-after made.state event)
        | inr other ↦ (x, other.1, refl)
      ]

  left-lawful : IsLawful left
  left-lawful = record {
    some = subst (λ n. 1 ≤ n) (sym (length-set alone.streams s after)) is.lawful.some;
    few = subst (λ n. n ≤ 64) (sym (length-set alone.streams s after)) is.lawful.few;
    sound = λ t x e. elim (slice_get-set alone.streams s after x t e) [
      | inl same ↦ subst (λ (z : State). IsSoundState z) same.1 (made.lawful.sound s after there)
      | inr other ↦ is.lawful.sound t x other.1
    ];
    tables = λ t u x y e f.
        let one : (z : State) × (slice_get alone.streams t ≡ Some z) × (x.plan ≡ z.plan) = before t x e in
        let two : (z : State) × (slice_get alone.streams u ≡ Some z) × (y.plan ≡ z.plan) = before u y f in
        ap (λ (p : PlanValue). p.tables) one.2 ∙ is.lawful.tables t u one.0 two.0 one.1 two.1 ∙ ap (λ (p : PlanValue). p.tables) (sym two.2);
    rising = rising_part s between.rows made.lawful.rising;
    cuts = λ t key. elim (same-or-other t s) [
      | inl same ↦ subst (λ u. own_row u (value_at key_cmp left.rows key) ≡ cut_in left u key) (sym same) (cut-same key)
      | inr other ↦ cut-other t key other
    ];
  }

  pub left-alone : IsAloneAs s between left
  left-alone = record { lawful = left-lawful; state = at_left ∙ sym there; none = none_left }

  pub left-made : IsMade alone s event answer left
  left-made = record {
    state = made.state;
    stream = here;
    allowed = made.allowed;
    clear = λ key. none-in_the_way s (due_at after key) (value_at key_cmp alone.rows key) (λ t other. is.none t key other);
    answered = made.answered;
    streams = refl;
    lawful = left-lawful;
  }

-- ---- one step of the stream's own that wasn't hindered

-- a refusal is the same alone
same_refusal : (feeds : List FeedValue) (old between alone : Meaning) (step : ℕ × Step) (refusal : StepRefusal) → IsReply feeds old step (Err refusal) between → is_hindered (Err refusal) ≡ false
    → slice_get alone.streams step.0 ≡ slice_get old.streams step.0 → IsReply feeds alone step (Err refusal) alone
same_refusal feeds old between alone step refusal h free state =
    subst (λ (o : Option FeedValue). MatchOption o ((refused_by refusal ≡ refused_by (Refused (unfed alone step.0))) × (alone ≡ alone)) (λ feed. IsReplyBy feed alone step.0 step.1 (Err refusal) alone))
    (ap (λ (o : Option State). option_and_then (λ (x : State). slice_get feeds step.0) o) (sym state))
    (by (feed_of feeds old step.0) refusal h free)
  where
    same_unfed : unfed old step.0 ≡ unfed alone step.0
    same_unfed = ap (λ (o : Option State). option_map_or (λ (x : State). FeedCount) o NoStream) (sym state)

    again : (feed : FeedValue) (refusal : Refusal) (h : IsEventStep feed old step.0 step.1 (Err refusal) between)
        → MatchOption (slice_get old.streams step.0) (refusal ≡ NoStream) (λ state. IsRefusedFor alone step.0 state h.event refusal) → IsEventStep feed alone step.0 step.1 (Err refusal) alone
    again feed refusal h stands = record {
      event = h.event;
      of_step = h.of_step;
      stepped = (subst (λ (o : Option State). MatchOption o (refusal ≡ NoStream) (λ state. IsRefusedFor alone step.0 state h.event refusal)) (sym state) stands, refl);
    }

    refused : (feed : FeedValue) (refusal : Refusal) → IsRefusedStep feed old step.0 step.1 refusal between → is_hindered (Err (Refused refusal)) ≡ false → IsRefusedStep feed alone step.0 step.1 refusal alone
    refused feed NoStream h free = again feed NoStream h h.stepped.0
    refused feed WrongPlan h free = again feed WrongPlan h h.stepped.0
    refused feed Diverged h free = again feed Diverged h h.stepped.0
    refused feed (Core refusal) h free = again feed (Core refusal) h h.stepped.0
    refused feed (OwnedByOther key owner) h free = absurd (true≢false free)
    refused feed FeedCount h free = again feed FeedCount h h.stepped.0
    refused feed Memory h free = absurd (true≢false free)

    by : (o : Option FeedValue) (refusal : StepRefusal) → MatchOption o ((refused_by refusal ≡ refused_by (Refused (unfed old step.0))) × (between ≡ old)) (λ feed. IsReplyBy feed old step.0 step.1 (Err refusal) between) → is_hindered (Err refusal) ≡ false
        → MatchOption o ((refused_by refusal ≡ refused_by (Refused (unfed alone step.0))) × (alone ≡ alone)) (λ feed. IsReplyBy feed alone step.0 step.1 (Err refusal) alone)
    by None refusal h free = (h.0 ∙ ap (λ (r : Refusal). refused_by (Refused r)) same_unfed, refl)
    by (Some feed) (Unprepared fault) h free = (h.0, refl)
    by (Some feed) (Refused refusal) h free = refused feed refusal h free

lone_step : (feeds : List FeedValue) (old between alone : Meaning) (step : ℕ × Step) (reply : Reply) → IsReply feeds old step reply between → is_hindered reply ≡ false → IsAloneAs step.0 old alone
    → (then : Meaning) × IsReply feeds alone step reply then × IsAloneAs step.0 between then
lone_step feeds old between alone step (Ok answer) h free is =
    let one : (feed : FeedValue) × (slice_get feeds step.0 ≡ Some feed) × IsEventStep feed old step.0 step.1 (Ok answer) between = answered_by feeds old step answer between h in
    let then : Meaning = left old between alone step.0 one.2.event answer one.2.stepped is in
    let stepped : IsEventStep one.0 alone step.0 step.1 (Ok answer) then
    = record { event = one.2.event; of_step = one.2.of_step; stepped = left-made old between alone step.0 one.2.event answer one.2.stepped is } in (
      then,
      subst (λ (o : Option FeedValue). MatchOption o ((answered answer ≡ refused_by (Refused (unfed alone step.0))) × (then ≡ alone)) (λ feed. IsReplyBy feed alone step.0 step.1 (Ok answer) then))
          (sym (feed_of-there feeds alone step.0 stepped.stepped.state one.0 stepped.stepped.stream one.1)) stepped,
      left-alone old between alone step.0 one.2.event answer one.2.stepped is,
    )
lone_step feeds old between alone step (Err refusal) h free is = (
  alone,
  same_refusal feeds old between alone step refusal h free is.state,
  subst (λ (b : Meaning). IsAloneAs step.0 b alone) (sym (unchanged feeds old step refusal between h)) is,
)

-- ---- all steps

and-free : (a b : Bool) → (a && not b) ≡ true → b ≡ false
and-free true true h = absurd (true≢false (sym h))
and-free true false h = refl
and-free false b h = absurd (true≢false (sym h))

and-true : (a : Bool) → (a && true) ≡ false → a ≡ false
and-true true h = absurd (true≢false h)
and-true false h = refl

-- every other step leaves the stream its state
stays : (feeds : List FeedValue) (old between : Meaning) (step : ℕ × Step) (reply : Reply) (s : ℕ) → IsReply feeds old step reply between → is_lone s step reply ≡ false
    → slice_get between.streams s ≡ slice_get old.streams s
stays feeds old between step (Ok answer) s h e =
    let one : (feed : FeedValue) × (slice_get feeds step.0 ≡ Some feed) × IsEventStep feed old step.0 step.1 (Ok answer) between = answered_by feeds old step answer between h in
    let made : IsMade old step.0 one.2.event answer between = one.2.stepped in
    let other : s ≢ step.0 = λ same. eqb-false step.0 s (and-true (step.0 == s) e) (sym same) in
    ap (λ (streams : List State). slice_get streams s) made.streams ∙ slice_get-set_other old.streams step.0 (state_after made.state one.2.event) s other
stays feeds old between step (Err refusal) s h e = ap (λ (b : Meaning). slice_get b.streams s) (unchanged feeds old step refusal between h)

pub isolated : (feeds : List FeedValue) (old new : Meaning) (steps : List (ℕ × Step)) (replies : List Reply) → IsRun feeds old steps replies new
    → (s : ℕ) (alone : Meaning) → IsAloneAs s old alone
    → (then : Meaning) × IsRun feeds alone (lone_steps s steps replies) (lone_replies s steps replies) then × IsAloneAs s new then
isolated feeds old new [] [] run s alone is = (alone, refl, subst (λ (b : Meaning). IsAloneAs s b alone) (sym run) is)
isolated feeds old new [] (reply ∷ replies) run s alone is = elim run [ ]
isolated feeds old new (step ∷ steps) [] run s alone is = elim run [ ]
isolated feeds old new (step ∷ steps) (reply ∷ replies) run s alone is =
    by (λ b are. isolated feeds run.0 new steps replies run.2 s b are) (is_lone s step reply) refl
  where
    by : ((b : Meaning) → IsAloneAs s run.0 b → (then : Meaning) × IsRun feeds b (lone_steps s steps replies) (lone_replies s steps replies) then × IsAloneAs s new then)
        → (b : Bool) → is_lone s step reply ≡ b
        → (then : Meaning) × IsRun feeds alone (cond b (step ∷ lone_steps s steps replies) (lone_steps s steps replies)) (cond b (reply ∷ lone_replies s steps replies) (lone_replies s steps replies)) then × IsAloneAs s new then
    by rest true e =
        let at : step.0 ≡ s = eqb-true step.0 s (and-left (step.0 == s) (not (is_hindered reply)) e) in
        let one : (then : Meaning) × IsReply feeds alone step reply then × IsAloneAs step.0 run.0 then
        = lone_step feeds old run.0 alone step reply run.1 (and-free (step.0 == s) (is_hindered reply) e) (subst (λ t. IsAloneAs t old alone) (sym at) is) in
        let later : (then : Meaning) × IsRun feeds one.0 (lone_steps s steps replies) (lone_replies s steps replies) then × IsAloneAs s new then
        = rest one.0 (subst (λ t. IsAloneAs t run.0 one.0) at one.2) in
        (later.0, (one.0, one.1, later.1), later.2)
    by rest false e = rest alone (record { lawful = is.lawful; state = is.state ∙ sym (stays feeds old run.0 step reply s run.1 e); none = is.none })

pub same-rows_alone : (s : ℕ) (board alone : Meaning) → IsLawful board → IsAloneAs s board alone
    → (key : KeyValue) → own_row s (value_at key_cmp alone.rows key) ≡ own_row s (value_at key_cmp board.rows key)
same-rows_alone s board alone lawful is key =
    is.lawful.cuts s key ∙ ap (λ (o : Option State). option_and_then (λ x. cut_of x key) o) is.state ∙ sym (lawful.cuts s key)
