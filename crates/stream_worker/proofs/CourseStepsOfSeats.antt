-- A step of a seat's stream: what it leaves, and on its course, how a refused one ends it.
use Rattle.std.proofs.Common.{◌≡◌, ℕ, true≢false, inl, inr, cond, List, [], ◌∷◌, length, Option, Some, None, Result, Ok, Err, slice_get, set, refl, sym, ap, subst, ◌∙◌}
use Rattle.std.proofs.lemmas.Option.{same_Some, none-some, MatchOption-at_some}
use borrow.Author.Tests.{eq-eqb}
use Rattle.std.specs.Prelude.{IsOk, IsSomeAnd, MatchOption}
use Rattle.std.specs.Result.{result_ok}
use Rattle.std.specs.Option.{option_map, option_and_then}
use Rattle.list_laws.proofs.Places.{slice_get-set_same}
use Rattle.pk_copy.specs.KeyOrder.{key_cmp}
use Rattle.pk_copy.specs.KeyValue.{KeyValue}
use Rattle.stream_core.specs.declared.step.Step.{Step}
use Rattle.stream_core.specs.declared.step.Step.TheVariants.{Offer, Advance, OpenAt, CopyRows, Close, Restart}
use Rattle.target_tables.specs.Contents.{value_at}
use Rattle.source_feed.specs.declared.fault.FeedFault.{FeedFault}
use Rattle.source_feed.specs.Planned.{FeedValue, IsFeed}
use Rattle.source_feed.specs.SoundGroups.{sound_groups}
use Rattle.source_feed.specs.Touches.{PreparedValue, prepared_at}
use Rattle.board_laws.specs.declared.answer.Answer.{Answer}
use Rattle.board_laws.specs.declared.refusal.Refusal.{Refusal}
use Rattle.board_laws.specs.declared.refusal.Refusal.TheVariants.{NoStream, WrongPlan, Diverged, Core, OwnedByOther, FeedCount, Memory}
use Rattle.board_laws.specs.declared.step_refusal.StepRefusal.{StepRefusal}
use Rattle.board_laws.specs.declared.step_refusal.StepRefusal.TheVariants.{Unprepared, Refused}
use Rattle.board_laws.specs.Meaning.{State, Meaning}
use Rattle.board_laws.specs.Cut.{cut_of, cut_in, own_row}
use Rattle.board_laws.specs.Event.{Event, offer}
use Rattle.board_laws.specs.Lawful.{standing_of, IsLawful, IsSoundState}
use Rattle.board_laws.specs.StateAfter.{state_after}
use Rattle.board_laws.specs.Step.{IsMade, IsRefusedFor, IsRefusedOn, IsClash}
use Rattle.board_laws.specs.Reading.{ReadsFeed}
use Rattle.board_laws.specs.Runs.{IsTouchedIn, event_of_step}
use Rattle.board_laws.specs.Schedule.{Reply, IsUnprepared}
use Rattle.stream_worker.specs.Knowing.{Laid, Knows, SawStreams, state_seen}
use Rattle.stream_worker.specs.Rule.{IsSaid}
use Rattle.apply_core.specs.RunRefused.{IsFirstUnsoundGroup}
use Rattle.stream_worker.specs.Seats.{IsBoardStep, IsSeatStep}
use Rattle.apply_core.specs.Courses.{LeadsOn}
use Rattle.stream_worker.specs.Worked.{MeetsRow, WantsNextStep}
use Rattle.stream_worker.specs.Private.SeatSteps.{IsSeatEvent, IsSeatReply, WantsGroup, EndsByItsBoard, EndsSeatStep}
use Rattle.stream_worker.proofs.StepsOfOneStream.{step_changes}
use Rattle.stream_worker.proofs.SeatsTakeAndPut.{own_as_seen}
use Rattle.apply_core.proofs.CourseStepsAreAllowed.{plus_one, first-unsound, Hinders, none-alone, allowed-on}
use Rattle.apply_core.proofs.StreamsStillRead.{cut_front, read_touched, IsInTheWay, in_the_way, reads-on}

-- ---- refusals

-- a refused step is refused on the board that it left
refused-again : (taken left : Laid) (s : ℕ) (event : Event) (refusal : Refusal) → IsBoardStep taken s event (Err refusal) left → IsBoardStep left s event (Err refusal) left
refused-again taken left s event refusal h =
    let same : left.board ≡ taken.board = ap (λ (board : Meaning). board.streams) h.step.1 in
    record {
      rows = h.rows;
      rows_left = h.rows;
      lawful = subst (λ (board : List State). IsLawful (record { streams = board; rows = h.rows })) (sym same) h.lawful;
      step = (subst (λ (board : List State). IsRefusedOn (record { streams = board; rows = h.rows }) s event refusal) (sym same) h.step.0, refl);
      given = refl;
    }

-- the offer of a group for which memory is wanted
group-event : (feed : FeedValue) (step : Step) → WantsGroup feed step → (event : Event) × (event_of_step feed step ≡ Some event)
group-event feed (Offer n) wants = by (prepared_at feed n) refl wants
  where
    by : (r : Result PreparedValue FeedFault) → prepared_at feed n ≡ r → IsOk r → (event : Event) × (option_map offer (result_ok (prepared_at feed n)) ≡ Some event)
    by (Ok group) e h = (offer group, ap (λ (r : Result PreparedValue FeedFault). option_map offer (result_ok r)) e)
    by (Err fault) e h = absurd (true≢false (sym h))
group-event feed Advance wants = absurd wants
group-event feed (OpenAt m) wants = absurd wants
group-event feed (CopyRows c) wants = absurd wants
group-event feed Close wants = absurd wants
group-event feed Restart wants = absurd wants

-- ---- a step of a seat

module _ (feed : FeedValue) (before after : Knows) (s : ℕ) (own : before.streams ≡ s ∷ []) (state : State) (here : state_seen before s ≡ Some state) (step : Step) where
  module _ (result : Result Answer Refusal) (h : IsSeatEvent feed before s step result after) where
    abbrev stepped : IsSeatStep before s h.event result after
    stepped = h.stepped

    taken_here : slice_get stepped.taken.board s ≡ Some state
    taken_here = own_as_seen before s stepped.taken (standing_of state) own stepped.says (ap (option_map standing_of) here) ∙ here

    sound-here : IsSoundState state
    sound-here = stepped.step.lawful.sound s state taken_here

    -- the board has as many streams as before
    event-many : (n : ℕ) → SawStreams before n → SawStreams after n
    event-many n many laid e =
        ap (λ (l : Laid). length l.board) (sym (same_Some stepped.left laid (sym stepped.seen ∙ e)))
        ∙ (step_changes stepped.taken stepped.left s h.event result stepped.step).long
        ∙ by before.seen refl stepped.says here
      where
        by : (o : Option Laid) → before.seen ≡ o → MatchOption o (before.streams ≡ []) (λ seen. IsSaid before.streams seen stepped.taken)
            → option_and_then (λ (laid : Laid). slice_get laid.board s) o ≡ Some state → length stepped.taken.board ≡ n
        by None e said f = absurd (none-some state f)
        by (Some seen) e said f = said.long ∙ many seen e

  abbrev seen_state : Option Laid → Option State
  seen_state o = option_and_then (λ (laid : Laid). slice_get laid.board s) o

  -- the state that a step leaves that is made
  module _ (answer : Answer) (h : IsSeatEvent feed before s step (Ok answer) after) where
    abbrev made : IsMade (record { streams = h.stepped.taken.board; rows = h.stepped.step.rows }) s h.event answer (record { streams = h.stepped.left.board; rows = h.stepped.step.rows_left })
    made = h.stepped.step.step

    pub next-state : state_seen after s ≡ Some (state_after state h.event)
    next-state =
        ap seen_state h.stepped.seen
        ∙ ap (λ (board : List State). slice_get board s) made.streams
        ∙ ap (λ (x : State). slice_get (set h.stepped.taken.board s (state_after x h.event)) s) (same_Some made.state state (sym made.stream ∙ taken_here (Ok answer) h))
        ∙ slice_get-set_same h.stepped.taken.board s (state_after state h.event) state (taken_here (Ok answer) h)

  -- a refused step leaves the stream as it was
  refused-stays : (refusal : Refusal) → IsSeatEvent feed before s step (Err refusal) after → state_seen after s ≡ Some state
  refused-stays refusal h =
      ap seen_state h.stepped.seen ∙ ap (λ (board : Meaning). slice_get board.streams s) h.stepped.step.step.1 ∙ taken_here (Err refusal) h

  -- ---- a reply

  pub reply-many : (reply : Reply) → IsSeatReply feed before s step reply after → (n : ℕ) → SawStreams before n → SawStreams after n
  reply-many (Ok answer) h n many = event-many (Ok answer) h n many
  reply-many (Err (Unprepared fault)) h n many = subst (λ v. SawStreams v n) (sym h.1) many
  reply-many (Err (Refused refusal)) (inl h) n many = subst (λ v. SawStreams v n) (sym h.1) many
  reply-many (Err (Refused refusal)) (inr h) n many = event-many (Err refusal) h n many

  pub reply-stays : (refusal : StepRefusal) → IsSeatReply feed before s step (Err refusal) after → state_seen after s ≡ Some state
  reply-stays (Unprepared fault) h = ap (λ v. state_seen v s) h.1 ∙ here
  reply-stays (Refused refusal) (inl h) = ap (λ v. state_seen v s) h.1 ∙ here
  reply-stays (Refused refusal) (inr h) = refused-stays refusal h

  -- ---- a step on the course along a feed that the stream reads

  module _ (whole : IsFeed feed) (reads : ReadsFeed feed state) (was is : ℕ) (leads : LeadsOn (standing_of state) (length feed.groups) was is step) where
    pub reply-follows : (reply : Reply) → IsSeatReply feed before s step reply after → IsSomeAnd (state_seen after s) (ReadsFeed feed)
    reply-follows (Ok answer) h =
        subst (λ (o : Option State). IsSomeAnd o (ReadsFeed feed)) (sym (next-state answer h)) (reads-on feed state reads was is step h.event leads h.of_step)
    reply-follows (Err refusal) h = subst (λ (o : Option State). IsSomeAnd o (ReadsFeed feed)) (sym (reply-stays refusal h)) reads

    -- ---- how a refused step ends the course

    module _ (refusal : Refusal) (h : IsSeatEvent feed before s step (Err refusal) after) where
      abbrev old : Meaning
      old = record { streams = h.stepped.taken.board; rows = h.stepped.step.rows }

      refused-for : IsRefusedFor old s state h.event refusal
      refused-for = MatchOption-at_some _ (λ (x : State). IsRefusedFor old s x h.event refusal) state (taken_here (Err refusal) h) h.stepped.step.step.0

      hinders : Hinders refusal
      hinders = none-alone old s state h.event refusal (allowed-on feed state whole reads (sound-here (Err refusal) h) was is step h.event leads h.of_step) refused-for

    meets-row : (key : KeyValue) (owner : ℕ) → IsSeatEvent feed before s step (Err (OwnedByOther key owner)) after → MeetsRow feed after s key owner
    meets-row key owner h = by (slice_get h.stepped.taken.board owner) refl cut
      where
        board : Meaning
        board = old (OwnedByOther key owner) h

        clash : IsClash h.stepped.step.rows s state h.event key owner
        clash = refused-for (OwnedByOther key owner) h

        way : IsInTheWay s (cut_of (state_after state h.event) key) (value_at key_cmp h.stepped.step.rows key) owner
        way = in_the_way s (cut_of (state_after state h.event) key) (value_at key_cmp h.stepped.step.rows key) owner clash.least.here

        touched : IsTouchedIn (sound_groups feed) key
        touched =
            read_touched feed (state_after state h.event) (state_after state h.event).applied key (reads-on feed state reads was is step h.event leads h.of_step)
            (cut_front (state_after state h.event) key way.row way.is_due)

        cut : cut_in board owner key ≡ Some way.old
        cut = sym (h.stepped.step.lawful.cuts owner key) ∙ ap (own_row owner) way.stands ∙ ap (λ b. cond b (Some way.old) None) (eq-eqb owner owner refl)

        by : (o : Option State) → slice_get h.stepped.taken.board owner ≡ o → option_and_then (λ x. cut_of x key) o ≡ Some way.old → MeetsRow feed after s key owner
        by None at e = absurd (none-some way.old e)
        by (Some x) at e = record {
          laid = h.stepped.left;
          seen = h.stepped.seen;
          step = step;
          event = h.event;
          of_step = h.of_step;
          refused = refused-again h.stepped.taken h.stepped.left s h.event (OwnedByOther key owner) h.stepped.step;
          touched = touched;
          other = way.other;
          state = x;
          there = ap (λ (m : Meaning). slice_get m.streams owner) h.stepped.step.step.1 ∙ at;
          row = way.old;
          cut = e;
        }

    -- a step on the course that is there wants memory
    wanting : (event : Event) → event_of_step feed step ≡ Some event → state_seen after s ≡ Some state → IsSomeAnd (state_seen after s) (WantsNextStep feed)
    wanting event of stays = subst (λ (o : Option State). IsSomeAnd o (WantsNextStep feed)) (sym stays) (record { step = step; was = was; is = is; leads = leads; event = event; of_step = of })

    wants-group : WantsGroup feed step → state_seen after s ≡ Some state → IsSomeAnd (state_seen after s) (WantsNextStep feed)
    wants-group wants stays = let one : (event : Event) × (event_of_step feed step ≡ Some event) = group-event feed step wants in wanting one.0 one.1 stays

    ends-by-board : (refusal : Refusal) → IsSeatEvent feed before s step (Err refusal) after → EndsByItsBoard feed after s refusal
    ends-by-board NoStream h = hinders NoStream h
    ends-by-board WrongPlan h = hinders WrongPlan h
    ends-by-board Diverged h = hinders Diverged h
    ends-by-board (Core refusal) h = hinders (Core refusal) h
    ends-by-board (OwnedByOther key owner) h = meets-row key owner h
    ends-by-board FeedCount h = hinders FeedCount h
    ends-by-board Memory h = wanting h.event h.of_step (refused-stays Memory h)

    unsound : (fault : FeedFault) → IsUnprepared feed step fault → IsFirstUnsoundGroup feed fault
    unsound fault u = by step leads u
      where
        by : (st : Step) → LeadsOn (standing_of state) (length feed.groups) was is st → IsUnprepared feed st fault → IsFirstUnsoundGroup feed fault
        by (Offer n) l u = first-unsound feed state whole reads fault l.1 (ap (prepared_at feed) (sym (l.0 ∙ plus_one (length state.list))) ∙ u)
        by Advance l u = absurd u
        by (OpenAt m) l u = absurd u
        by (CopyRows c) l u = absurd u
        by Close l u = absurd u
        by Restart l u = absurd u

    pub reply-ends : (refusal : StepRefusal) → IsSeatReply feed before s step (Err refusal) after → EndsSeatStep feed after s refusal
    reply-ends (Unprepared fault) h = unsound fault h.0
    reply-ends (Refused refusal) (inl h) = subst (EndsByItsBoard feed after s) (sym h.0) (wants-group h.2 (ap (λ v. state_seen v s) h.1 ∙ here))
    reply-ends (Refused refusal) (inr h) = ends-by-board refusal h
