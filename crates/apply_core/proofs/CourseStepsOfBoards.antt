-- A step of a stream's course on a board whose streams read their feeds: what it leaves, and why it is refused.
use Rattle.std.proofs.Common.{◌≡◌, ◌≢◌, ℕ, ◌<◌, List, [], ◌∷◌, length, cond, Option, Some, None, Ok, Err, slice_get, set, refl, sym, ap, subst, ◌∙◌}
use Rattle.std.proofs.lemmas.List.{length-set}
use Rattle.std.proofs.lemmas.Option.{same_Some, none-some, MatchOption-at_some}
use borrow.Author.Tests.{eq-eqb}
use Rattle.std.specs.Option.{option_and_then}
use Rattle.list_laws.proofs.Places.{slice_get-set_same, slice_get-set_other}
use Rattle.pk_copy.specs.KeyOrder.{key_cmp}
use Rattle.pk_copy.specs.KeyValue.{KeyValue}
use Rattle.stream_core.specs.declared.step.Step.{Step}
use Rattle.stream_core.specs.declared.step.Step.TheVariants.{Offer, Advance, OpenAt, CopyRows, Close, Restart}
use Rattle.target_tables.specs.Contents.{value_at}
use Rattle.source_feed.specs.declared.fault.FeedFault.{FeedFault}
use Rattle.source_feed.specs.Planned.{FeedValue}
use Rattle.source_feed.specs.SoundGroups.{sound_groups}
use Rattle.source_feed.specs.Touches.{prepared_at}
use Rattle.board_laws.specs.declared.refusal.Refusal.{Refusal}
use Rattle.board_laws.specs.declared.refusal.Refusal.TheVariants.{NoStream, WrongPlan, Diverged, Core, OwnedByOther, FeedCount, Memory}
use Rattle.board_laws.specs.declared.step_refusal.StepRefusal.{StepRefusal}
use Rattle.board_laws.specs.declared.step_refusal.StepRefusal.TheVariants.{Unprepared, Refused}
use Rattle.board_laws.specs.declared.answer.Answer.{Answer}
use Rattle.board_laws.specs.Meaning.{State, Meaning}
use Rattle.board_laws.specs.Cut.{cut_of, cut_in, own_row}
use Rattle.board_laws.specs.Lawful.{standing_of}
use Rattle.board_laws.specs.StateAfter.{state_after}
use Rattle.board_laws.specs.Step.{IsRefusedFor, IsClash}
use Rattle.board_laws.specs.Reading.{HasFeed}
use Rattle.board_laws.specs.Runs.{IsTouchedIn}
use Rattle.board_laws.specs.Schedule.{Reply, IsEventStep, IsUnprepared, WantsMemory, IsReplyBy, IsReply}
use Rattle.board_laws.proofs.Lookups.{Ties}
use Rattle.board_laws.proofs.FeedLaws.{run-reads}
use Rattle.board_laws.proofs.Following.{feed_of-there}
use Rattle.apply_core.specs.Ended.{IsFedBoard}
use Rattle.apply_core.specs.RunRefused.{HasUnsound, TouchesKey, BothTouch, WantsToGoOn}
use Rattle.apply_core.specs.Courses.{LeadsOn, left_by, left_on}
use Rattle.apply_core.specs.Private.AllowedSteps.{EndsStream}
use Rattle.apply_core.proofs.StreamsStillRead.{cut_front, read_touched, IsInTheWay, in_the_way, reads-on}
use Rattle.apply_core.proofs.CourseStepsAreAllowed.{Hinders, none-alone, allowed-on, left-on, first-unsound, plus_one}

-- ---- a step on a board

module _ (feeds : List FeedValue) (old : Meaning) (fed : IsFedBoard feeds old) (s : ℕ) (state : State) (here : slice_get old.streams s ≡ Some state) (was is : ℕ) (step : Step) where
  abbrev has : HasFeed feeds s state
  has = fed.reads s state here

  module _ (leads : LeadsOn (standing_of state) (length has.feed.groups) was is step) where
    reply-of : (reply : Reply) (new : Meaning) → IsReply feeds old (s, step) reply new → IsReplyBy has.feed old s step reply new
    reply-of reply new h = MatchOption-at_some _ (λ feed. IsReplyBy feed old s step reply new) has.feed (feed_of-there feeds old s state has.feed here has.fed) h

    hinders : (refusal : Refusal) (new : Meaning) → IsEventStep has.feed old s step (Err refusal) new → Hinders refusal
    hinders refusal new h =
        none-alone old s state h.event refusal (allowed-on has.feed state has.whole has.reads (fed.lawful.sound s state here) was is step h.event leads h.of_step)
        (MatchOption-at_some _ (λ x. IsRefusedFor old s x h.event refusal) state here h.stepped.0)

    unsound : (fault : FeedFault) → IsUnprepared has.feed step fault → HasUnsound feeds s fault
    unsound fault u = by step leads u
      where
        by : (st : Step) → LeadsOn (standing_of state) (length has.feed.groups) was is st → IsUnprepared has.feed st fault → HasUnsound feeds s fault
        by (Offer n) l u = record {
          feed = has.feed;
          fed = has.fed;
          first = first-unsound has.feed state has.whole has.reads fault l.1 (ap (prepared_at has.feed) (sym (l.0 ∙ plus_one (length state.list))) ∙ u);
        }
        by Advance l u = absurd u
        by (OpenAt m) l u = absurd u
        by (CopyRows c) l u = absurd u
        by Close l u = absurd u
        by Restart l u = absurd u

    -- a row in the way stands at a key that this stream's feed and its owner's touch
    meets : (key : KeyValue) (owner : ℕ) (new : Meaning) → IsEventStep has.feed old s step (Err (OwnedByOther key owner)) new → BothTouch feeds s owner key
    meets key owner new h = (way.other, record { feed = has.feed; fed = has.fed; touched = mine }, by (slice_get old.streams owner) refl cut)
      where
        clash : IsClash old.rows s state h.event key owner
        clash = MatchOption-at_some _ (λ x. IsRefusedFor old s x h.event (OwnedByOther key owner)) state here h.stepped.0

        way : IsInTheWay s (cut_of (state_after state h.event) key) (value_at key_cmp old.rows key) owner
        way = in_the_way s (cut_of (state_after state h.event) key) (value_at key_cmp old.rows key) owner clash.least.here

        mine : IsTouchedIn (sound_groups has.feed) key
        mine =
            read_touched has.feed (state_after state h.event) (state_after state h.event).applied key (reads-on has.feed state has.reads was is step h.event leads h.of_step)
            (cut_front (state_after state h.event) key way.row way.is_due)

        cut : cut_in old owner key ≡ Some way.old
        cut = sym (fed.lawful.cuts owner key) ∙ ap (own_row owner) way.stands ∙ ap (λ b. cond b (Some way.old) None) (eq-eqb owner owner refl)

        by : (o : Option State) → slice_get old.streams owner ≡ o → option_and_then (λ x. cut_of x key) o ≡ Some way.old → TouchesKey feeds owner key
        by None at e = absurd (none-some way.old e)
        by (Some x) at e =
            let theirs : HasFeed feeds owner x = fed.reads owner x at in
            record { feed = theirs.feed; fed = theirs.fed; touched = read_touched theirs.feed x x.applied key theirs.reads (cut_front x key way.old e) }

    -- a refused step ends the stream's run for the reason that is named
    pub ends-step : (new : Meaning) (refusal : StepRefusal) → IsReply feeds old (s, step) (Err refusal) new → EndsStream feeds s refusal
    ends-step new (Unprepared fault) h = unsound fault (reply-of (Err (Unprepared fault)) new h).0
    ends-step new (Refused NoStream) h = hinders NoStream new (reply-of (Err (Refused NoStream)) new h)
    ends-step new (Refused WrongPlan) h = hinders WrongPlan new (reply-of (Err (Refused WrongPlan)) new h)
    ends-step new (Refused Diverged) h = hinders Diverged new (reply-of (Err (Refused Diverged)) new h)
    ends-step new (Refused (Core refusal)) h = hinders (Core refusal) new (reply-of (Err (Refused (Core refusal))) new h)
    ends-step new (Refused (OwnedByOther key owner)) h = meets key owner new (reply-of (Err (Refused (OwnedByOther key owner))) new h)
    ends-step new (Refused FeedCount) h = hinders FeedCount new (reply-of (Err (Refused FeedCount)) new h)
    ends-step new (Refused Memory) h = tt

    -- memory is wanted for the step itself, on the board as it was
    pub wants-step : (new : Meaning) → IsReply feeds old (s, step) (Err (Refused Memory)) new → WantsToGoOn feeds new s
    wants-step new h =
        let wants : WantsMemory has.feed old s step × (new ≡ old) = reply-of (Err (Refused Memory)) new h in
        subst (λ (board : Meaning). WantsToGoOn feeds board s) (sym wants.1)
        (record { feed = has.feed; fed = has.fed; state = state; stream = here; chunks_before = was; chunks_then = is; step = step; leads = leads; wants = wants.0 })

    -- a step that is made leaves a board that reads its feeds, the other streams as they were, and less of the course
    module _ (ties : Ties) (new : Meaning) (answer : Answer) (h : IsReply feeds old (s, step) (Ok answer) new) where
      abbrev made : IsEventStep has.feed old s step (Ok answer) new
      made = reply-of (Ok answer) new h

      same-state : made.stepped.state ≡ state
      same-state = same_Some made.stepped.state state (sym made.stepped.stream ∙ here)

      streams : new.streams ≡ set old.streams s (state_after state made.event)
      streams = made.stepped.streams ∙ ap (λ (x : State). set old.streams s (state_after x made.event)) same-state

      pub step-fed : IsFedBoard feeds new
      step-fed = record {
        lawful = made.stepped.lawful;
        count = ap (λ (xs : List State). length xs) streams ∙ length-set old.streams s (state_after state made.event) ∙ fed.count;
        reads = run-reads feeds old new ((s, step) ∷ []) (Ok answer ∷ []) (new, h, refl) fed.reads;
      }

      pub step-others : (t : ℕ) → t ≢ s → slice_get new.streams t ≡ slice_get old.streams t
      step-others t ne = ap (λ (xs : List State). slice_get xs t) streams ∙ slice_get-set_other old.streams s (state_after state made.event) t ne

      pub step-nearer : left_on feeds new s is < left_on feeds old s was
      step-nearer =
          subst (λ (o : Option State). left_by (slice_get feeds s) o is < left_on feeds old s was) (sym at_new)
          (subst (λ (o : Option State). left_by (slice_get feeds s) (Some (state_after state made.event)) is < left_by (slice_get feeds s) o was) (sym here)
          (subst (λ (o : Option FeedValue). left_by o (Some (state_after state made.event)) is < left_by o (Some state) was) (sym has.fed)
          (left-on has.feed state has.whole has.reads (fed.lawful.sound s state here) was is ties step made.event leads made.of_step)))
        where
          at_new : slice_get new.streams s ≡ Some (state_after state made.event)
          at_new = ap (λ (xs : List State). slice_get xs s) streams ∙ slice_get-set_same old.streams s (state_after state made.event) state here
