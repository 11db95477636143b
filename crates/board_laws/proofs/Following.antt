-- What steps of a schedule leave: each stream's state behind its own steps, a lawful board, and its rows.
use Rattle.std.proofs.Common.{◌≡◌, ◌==◌, ◌&&◌, ℕ, Bool, true, false, cond, List, [], ◌∷◌, Option, Some, None, Ok, Err, slice_get, set, is_ok, refl, sym, ap, subst, ◌∙◌}
use Rattle.std.proofs.lemmas.Bool.{eqb-false, true≢false}
use Rattle.std.proofs.lemmas.Option.{same_Some, none-some}
use borrow.Author.Tests.{eqb-true, eq-eqb}
use Rattle.std.specs.Prelude.{MatchOption}
use Rattle.std.specs.List.{cons_option, filter_map}
use Rattle.std.specs.Option.{option_and_then}
use Rattle.list_laws.proofs.Truths.{and-false}
use Rattle.list_laws.proofs.Places.{slice_get-set_same, slice_get-set_other}
use Rattle.pk_copy.specs.KeyOrder.{key_cmp}
use Rattle.stream_core.specs.declared.step.Step.{Step}
use Rattle.target_tables.specs.Contents.{value_at}
use Rattle.source_feed.specs.History.{RowValue}
use Rattle.source_feed.specs.Planned.{FeedValue}
use Rattle.board_laws.specs.declared.answer.Answer.{Answer}
use Rattle.board_laws.specs.declared.refusal.Refusal.{Refusal}
use Rattle.board_laws.specs.declared.refusal.Refusal.TheVariants.{NoStream, WrongPlan, Diverged, Core, OwnedByOther, FeedCount, Memory}
use Rattle.board_laws.specs.declared.step_refusal.StepRefusal.{StepRefusal}
use Rattle.board_laws.specs.declared.step_refusal.StepRefusal.TheVariants.{Unprepared, Refused}
use Rattle.board_laws.specs.Meaning.{State, Meaning}
use Rattle.board_laws.specs.Cut.{cut_of, own_row}
use Rattle.board_laws.specs.Lawful.{IsLawful}
use Rattle.board_laws.specs.Event.{Event}
use Rattle.board_laws.specs.StateAfter.{state_after}
use Rattle.board_laws.specs.Step.{IsMade}
use Rattle.board_laws.specs.Runs.{event_of_step, state_behind, taken, own}
use Rattle.board_laws.specs.Schedule.{Reply, IsEventStep, IsRefusedStep, IsReplyBy, feed_of, unfed, IsReply, IsRun}
use Rattle.board_laws.proofs.Lookups.{Ties, same_rows}

-- ---- one step

abbrev pub refused_by : StepRefusal → Reply
refused_by refusal = Err refusal

abbrev pub answered : Answer → Reply
answered answer = Ok answer

-- the feed of a stream of the board is the one of its number
pub feed_of-some : (feeds : List FeedValue) (old : Meaning) (s : ℕ) (feed : FeedValue) → feed_of feeds old s ≡ Some feed → slice_get feeds s ≡ Some feed
feed_of-some feeds old s feed e = by (slice_get old.streams s) e
  where
    by : (o : Option State) → option_and_then (λ (state : State). slice_get feeds s) o ≡ Some feed → slice_get feeds s ≡ Some feed
    by None e = absurd (none-some feed e)
    by (Some state) e = e

-- and it has one where both are there
pub feed_of-there : (feeds : List FeedValue) (old : Meaning) (s : ℕ) (state : State) (feed : FeedValue) → slice_get old.streams s ≡ Some state → slice_get feeds s ≡ Some feed
    → feed_of feeds old s ≡ Some feed
feed_of-there feeds old s state feed here fed = ap (λ (o : Option State). option_and_then (λ (x : State). slice_get feeds s) o) here ∙ fed

-- a refused step leaves the board
pub unchanged : (feeds : List FeedValue) (old : Meaning) (step : ℕ × Step) (refusal : StepRefusal) (new : Meaning) → IsReply feeds old step (Err refusal) new → new ≡ old
unchanged feeds old step refusal new h = by (feed_of feeds old step.0) refusal h
  where
    refused : (feed : FeedValue) (refusal : Refusal) → IsRefusedStep feed old step.0 step.1 refusal new → new ≡ old
    refused feed NoStream h = h.stepped.1
    refused feed WrongPlan h = h.stepped.1
    refused feed Diverged h = h.stepped.1
    refused feed (Core refusal) h = h.stepped.1
    refused feed (OwnedByOther key owner) h = h.stepped.1
    refused feed FeedCount h = h.stepped.1
    refused feed Memory h = h.1

    by : (o : Option FeedValue) (refusal : StepRefusal) → MatchOption o ((refused_by refusal ≡ refused_by (Refused (unfed old step.0))) × (new ≡ old)) (λ feed. IsReplyBy feed old step.0 step.1 (Err refusal) new) → new ≡ old
    by None refusal h = h.1
    by (Some feed) (Unprepared fault) h = h.1
    by (Some feed) (Refused refusal) h = refused feed refusal h

-- a step that isn't refused is one of a feed
pub answered_by : (feeds : List FeedValue) (old : Meaning) (step : ℕ × Step) (answer : Answer) (new : Meaning) → IsReply feeds old step (Ok answer) new
    → (feed : FeedValue) × (slice_get feeds step.0 ≡ Some feed) × IsEventStep feed old step.0 step.1 (Ok answer) new
answered_by feeds old step answer new h = by (feed_of feeds old step.0) refl h
  where
    by : (o : Option FeedValue) → feed_of feeds old step.0 ≡ o → MatchOption o ((answered answer ≡ refused_by (Refused (unfed old step.0))) × (new ≡ old)) (λ feed. IsReplyBy feed old step.0 step.1 (Ok answer) new)
        → (feed : FeedValue) × (slice_get feeds step.0 ≡ Some feed) × IsEventStep feed old step.0 step.1 (Ok answer) new
    by None e h = absurd (true≢false (ap is_ok h.0))
    by (Some feed) e h = (feed, feed_of-some feeds old step.0 feed e, h)

-- a made step of another stream leaves a stream its state
pub other-stays : (old new : Meaning) (t s : ℕ) (event : Event) (answer : Answer) (state : State) → IsMade old t event answer new → (t == s) ≡ false
    → slice_get old.streams s ≡ Some state → slice_get new.streams s ≡ Some state
other-stays old new t s event answer state made other here =
    ap (λ (streams : List State). slice_get streams s) made.streams
    ∙ slice_get-set_other old.streams t (state_after made.state event) s (λ same. eqb-false t s other (sym same))
    ∙ here

-- a made step of one's own leaves the state behind its event
pub own-goes_on : (old new : Meaning) (t s : ℕ) (event : Event) (answer : Answer) (state : State) → IsMade old t event answer new → (t == s) ≡ true
    → slice_get old.streams s ≡ Some state → slice_get new.streams s ≡ Some (state_after state event)
own-goes_on old new t s event answer state made same here =
    let at : t ≡ s = eqb-true t s same in
    let is : made.state ≡ state = same_Some made.state state (sym made.stream ∙ ap (slice_get old.streams) at ∙ here) in
    ap (λ (streams : List State). slice_get streams s) made.streams
    ∙ ap (slice_get (set old.streams t (state_after made.state event))) (sym at)
    ∙ slice_get-set_same old.streams t (state_after made.state event) made.state made.stream
    ∙ ap (λ (x : State). Some (state_after x event)) is

-- ---- all steps

-- a refused step isn't among one's own
own-refused : (s : ℕ) (step : ℕ × Step) (steps : List (ℕ × Step)) (refusal : StepRefusal) (replies : List Reply) → own s (step ∷ steps) (Err refusal ∷ replies) ≡ own s steps replies
own-refused s step steps refusal replies = ap (λ b. cond b (step.1 ∷ own s steps replies) (own s steps replies)) (and-false (step.0 == s))

own-other : (s : ℕ) (step : ℕ × Step) (steps : List (ℕ × Step)) (answer : Answer) (replies : List Reply) → (step.0 == s) ≡ false → own s (step ∷ steps) (Ok answer ∷ replies) ≡ own s steps replies
own-other s step steps answer replies e = ap (λ b. cond (b && true) (step.1 ∷ own s steps replies) (own s steps replies)) e

own-first : (s : ℕ) (step : ℕ × Step) (steps : List (ℕ × Step)) (answer : Answer) (replies : List Reply) → (step.0 == s) ≡ true → own s (step ∷ steps) (Ok answer ∷ replies) ≡ step.1 ∷ own s steps replies
own-first s step steps answer replies e = ap (λ b. cond (b && true) (step.1 ∷ own s steps replies) (own s steps replies)) e

taken-first : (feed : FeedValue) (step : Step) (steps : List Step) (event : Event) (state : State) → event_of_step feed step ≡ Some event → taken feed (step ∷ steps) state ≡ taken feed steps (state_after state event)
taken-first feed step steps event state e = ap (λ (o : Option Event). state_behind (cons_option o (filter_map (event_of_step feed) steps)) state) e

pub follows : (feeds : List FeedValue) (old new : Meaning) (steps : List (ℕ × Step)) (replies : List Reply) → IsRun feeds old steps replies new
    → (s : ℕ) (feed : FeedValue) (state : State) → slice_get feeds s ≡ Some feed → slice_get old.streams s ≡ Some state
    → slice_get new.streams s ≡ Some (taken feed (own s steps replies) state)
follows feeds old new [] [] run s feed state fed here = ap (λ (b : Meaning). slice_get b.streams s) run ∙ here
follows feeds old new [] (reply ∷ replies) run s feed state fed here = elim run [ ]
follows feeds old new (step ∷ steps) [] run s feed state fed here = elim run [ ]
follows feeds old new (step ∷ steps) (Err refusal ∷ replies) run s feed state fed here =
    let still : slice_get run.0.streams s ≡ Some state = ap (λ (b : Meaning). slice_get b.streams s) (unchanged feeds old step refusal run.0 run.1) ∙ here in
    follows feeds run.0 new steps replies run.2 s feed state fed still
    ∙ ap (λ (mine : List Step). Some (taken feed mine state)) (sym (own-refused s step steps refusal replies))
follows feeds old new (step ∷ steps) (Ok answer ∷ replies) run s feed state fed here =
    by (λ behind still. follows feeds run.0 new steps replies run.2 s feed behind fed still) (step.0 == s) refl
  where
    one : (feed : FeedValue) × (slice_get feeds step.0 ≡ Some feed) × IsEventStep feed old step.0 step.1 (Ok answer) run.0
    one = answered_by feeds old step answer run.0 run.1

    by : ((behind : State) → slice_get run.0.streams s ≡ Some behind → slice_get new.streams s ≡ Some (taken feed (own s steps replies) behind))
        → (b : Bool) → (step.0 == s) ≡ b → slice_get new.streams s ≡ Some (taken feed (own s (step ∷ steps) (Ok answer ∷ replies)) state)
    by rest true e =
        let at : step.0 ≡ s = eqb-true step.0 s e in
        let is : one.0 ≡ feed = same_Some one.0 feed (sym one.1 ∙ ap (slice_get feeds) at ∙ fed) in
        let event : event_of_step feed step.1 ≡ Some one.2.event = ap (λ f. event_of_step f step.1) (sym is) ∙ one.2.of_step in
        rest (state_after state one.2.event) (own-goes_on old run.0 step.0 s one.2.event answer state one.2.stepped e here)
        ∙ ap (λ (x : State). Some x) (sym (taken-first feed step.1 (own s steps replies) one.2.event state event))
        ∙ ap (λ (mine : List Step). Some (taken feed mine state)) (sym (own-first s step steps answer replies e))
    by rest false e =
        rest state (other-stays old run.0 step.0 s one.2.event answer state one.2.stepped e here)
        ∙ ap (λ (mine : List Step). Some (taken feed mine state)) (sym (own-other s step steps answer replies e))

-- ---- lawful boards

pub one-lawful : (feeds : List FeedValue) (old : Meaning) (step : ℕ × Step) (reply : Reply) (new : Meaning) → IsReply feeds old step reply new → IsLawful old → IsLawful new
one-lawful feeds old step (Ok answer) new h lawful = (answered_by feeds old step answer new h).2.stepped.lawful
one-lawful feeds old step (Err refusal) new h lawful = subst IsLawful (sym (unchanged feeds old step refusal new h)) lawful

pub run-lawful : (feeds : List FeedValue) (old new : Meaning) (steps : List (ℕ × Step)) (replies : List Reply) → IsRun feeds old steps replies new → IsLawful old → IsLawful new
run-lawful feeds old new [] [] run lawful = subst IsLawful (sym run) lawful
run-lawful feeds old new [] (reply ∷ replies) run lawful = elim run [ ]
run-lawful feeds old new (step ∷ steps) [] run lawful = elim run [ ]
run-lawful feeds old new (step ∷ steps) (reply ∷ replies) run lawful =
    run-lawful feeds run.0 new steps replies run.2 (one-lawful feeds old step reply run.0 run.1 lawful)

-- what stands at a key is the row of one stream or nothing
same-there : (one other : Option (ℕ × RowValue)) → ((s : ℕ) → own_row s one ≡ own_row s other) → one ≡ other
same-there None None h = refl
same-there None (Some x) h = let clash : None ≡ Some x.1 = h x.0 ∙ ap (λ b. cond b (Some x.1) None) (eq-eqb x.0 x.0 refl) in cc
same-there (Some x) None h = let clash : Some x.1 ≡ None = sym (ap (λ b. cond b (Some x.1) None) (eq-eqb x.0 x.0 refl)) ∙ h x.0 in cc
same-there (Some x) (Some y) h = by (y.0 == x.0) refl
  where
    mine : Some x.1 ≡ cond (y.0 == x.0) (Some y.1) None
    mine = sym (ap (λ b. cond b (Some x.1) None) (eq-eqb x.0 x.0 refl)) ∙ h x.0

    by : (b : Bool) → (y.0 == x.0) ≡ b → Some x ≡ Some y
    by true e =
        let owner : x.0 ≡ y.0 = sym (eqb-true y.0 x.0 e) in
        let row : x.1 ≡ y.1 = same_Some x.1 y.1 (mine ∙ ap (λ b. cond b (Some y.1) None) e) in
        ap (λ (n : ℕ). Some (n, x.1)) owner ∙ ap (λ (r : RowValue). Some (y.0, r)) row
    by false e = let clash : Some x.1 ≡ None = mine ∙ ap (λ b. cond b (Some y.1) None) e in cc

pub same-board : (ties : Ties) (one other : Meaning) → IsLawful one → IsLawful other → one.streams ≡ other.streams → one ≡ other
same-board ties one other lawful also same =
    let rows : one.rows ≡ other.rows
    = same_rows ties one.rows other.rows lawful.rising also.rising
    (λ q. same-there (value_at key_cmp one.rows q) (value_at key_cmp other.rows q)
    (λ s. lawful.cuts s q ∙ ap (λ (streams : List State). option_and_then (λ state. cut_of state q) (slice_get streams s)) same ∙ sym (also.cuts s q))) in
    λ i. record { streams = same i; rows = rows i }
