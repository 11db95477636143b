-- A turn of a stream: groups that stand ready are offered and applied, one after another.
use Rattle.std.proofs.Common.{◌≡◌, ◌==◌, ◌||◌, ◌⊎◌, inl, inr, ℕ, zero, suc, ◌+◌, ◌<◌, ◌≤◌, Bool, true, false, true≢false, List, [], ◌∷◌, ◌++◌, append_assoc, length, length-append, take, Option, Some, None, Result, Ok, Err, slice_get, nat_le, refl, sym, ap, subst, ◌∙◌, arith}
use Rattle.std.proofs.lemmas.Option.{same_Some}
use Rattle.std.specs.Arc.{arc_value}
use Rattle.std.specs.Prelude.{IsOk, IsSome, IsSomeAnd, IfSome, IfOk, IfErr, MatchOption}
use Rattle.std.specs.Option.{option_map, option_and_then}
use Rattle.std.specs.Result.{result_ok}
use borrow.Author.Tests.{eqb-true, leb-true}
use Rattle.pk_copy.specs.Marks.{Marks}
use Rattle.stream_core.specs.declared.step.Step.TheVariants.{Offer, Advance}
use Rattle.stream_core.specs.Standing.{Standing, is_open_at}
use Rattle.source_feed.specs.Planned.{FeedValue, IsFeed}
use Rattle.source_feed.specs.declared.fault.FeedFault.{FeedFault}
use Rattle.source_feed.specs.Touches.{PreparedValue, prepared_at}
use Rattle.board_laws.specs.declared.answer.Answer.{Answer}
use Rattle.board_laws.specs.declared.answer.Answer.TheVariants.{Applied}
use Rattle.board_laws.specs.declared.refusal.Refusal.{Refusal}
use Rattle.board_laws.specs.declared.refusal.Refusal.TheVariants.{NoStream, WrongPlan, Diverged, Core, OwnedByOther, FeedCount, Memory}
use Rattle.board_laws.specs.declared.step_refusal.StepRefusal.TheVariants.{Refused}
use Rattle.board_laws.specs.Meaning.{State, Meaning}
use Rattle.board_laws.specs.Event.{Event, offer, advance}
use Rattle.board_laws.specs.Lawful.{standing_of}
use Rattle.board_laws.specs.StateAfter.{state_after}
use Rattle.board_laws.specs.Reading.{ReadsFeed}
use Rattle.board_laws.specs.Runs.{event_of_step}
use Rattle.board_laws.specs.Step.{answered}
use Rattle.board_laws.specs.Touching.{left_by}
use Rattle.stream_worker.specs.declared.ready.Ready.{Ready}
use Rattle.stream_worker.specs.declared.receipt.Receipt.{Receipt}
use Rattle.stream_worker.specs.Knowing.{Laid, Knows, SawStreams, names, state_seen}
use Rattle.stream_worker.specs.Outlines.{Outlined, outline_of, IsNextOf}
use Rattle.stream_worker.specs.Rule.{StateGoesOn, IsSaid, IsOwnChange, IsBoardTaken, IsBoardPut}
use Rattle.stream_worker.specs.Seats.{IsBoardStep, IsSeatStep, IsReceiptOf}
use Rattle.stream_worker.specs.Steps.{AreMadeSteps}
use Rattle.stream_worker.specs.Worked.{WantsNextStep, AreReceiptsSince}
use Rattle.apply_core.specs.Courses.{LeadsOn}
use Rattle.stream_worker.specs.Private.SeatSteps.{IsSeatEvent, EndsByItsBoard}
use Rattle.stream_worker.specs.Private.Turns.{IsReady, AreReady, IsWholeTurn, IsNextReady, groups_of, IsCaughtUp, IsTakenIn, IsOfferedAlone, IsNotTakenIn, knows_left, IsTurn, AreReceiptsOn, IsAhead, BeginsWith}
use Rattle.stream_worker.proofs.StepsOfOneStream.{step_changes, step_leaves}
use Rattle.apply_core.proofs.StreamsThatStandSo.{the-one}
use Rattle.stream_worker.proofs.OutlinesStayTrue.{outlined}
use Rattle.stream_worker.proofs.ReceiptsFollowSteps.{receipts-stay, receipts-more}
use Rattle.stream_worker.proofs.CourseStepsOfSeats.{reply-ends}
use Rattle.stream_worker.proofs.SeatsTakeAndPut.{own_as_seen}
use Rattle.stream_worker.proofs.StepsAreMade.{again-refl, again-same, one-step, steps-join, steps-behind, said-again}
use Rattle.stream_worker.proofs.StreamsGoOn.{all_go_on-refl, all_go_on-trans}
use Rattle.apply_core.proofs.CourseStepsAreAllowed.{plus_one, prepared-plan}
use Rattle.apply_core.proofs.StreamsStillRead.{reads-on}

-- ---- a group that is taken in

abbrev read_more : State → PreparedValue → State
read_more state group = record state { list = state.list ++ group ∷ [] }

-- the state behind a group that was offered and applied
abbrev pub taken_in : State → PreparedValue → State
taken_in state group = record (read_more state group) { applied = state.applied + 1 }

-- a group of the next number is read
offered-next : (state : State) (group : PreparedValue) → group.number ≡ suc (length state.list) → state_after state (offer group) ≡ read_more state group
offered-next state group number = by (nat_le group.number (length state.list)) refl
  where
    by : (b : Bool) → nat_le group.number (length state.list) ≡ b → state_after state (offer group) ≡ read_more state group
    by true e = absurd (let h = leb-true group.number (length state.list) e in omega (arith, h, number))
    by false e = rw e refl

behind-all : {A : Type 0} (xs : List A) (x : A) (n : ℕ) → n ≡ length xs → slice_get (xs ++ x ∷ []) n ≡ Some x
behind-all [] x zero e = refl
behind-all [] x (suc n) e = absurd (omega (arith, e))
behind-all (y ∷ xs) x zero e = absurd (omega (arith, e))
behind-all (y ∷ xs) x (suc n) e = behind-all xs x n (omega (arith, e))

-- the next group is of the stream's plan
pub ready-plan : (taken : Laid) (s : ℕ) (ready : Ready) → IsSomeAnd (slice_get taken.board s) (IsNextReady ready) → IfSome (slice_get taken.board s) (λ state. (arc_value ready.group).plan ≡ state.plan)
ready-plan taken s ready next = by (slice_get taken.board s) next
  where
    by : (o : Option State) → IsSomeAnd o (IsNextReady ready) → IfSome o (λ state. (arc_value ready.group).plan ≡ state.plan)
    by None h = tt
    by (Some state) h = h.plan

-- what was built is what the stream then applies
pub ready-next : (between : Laid) (taken : Laid) (s : ℕ) (ready : Ready) (answer : Answer) → IsBoardStep taken s (offer (arc_value ready.group)) (Ok answer) between
    → IsSomeAnd (slice_get taken.board s) (IsNextReady ready) → IsSomeAnd (slice_get between.board s) (λ state. IsNextOf state ready.next)
ready-next between taken s ready answer step next =
    let one : (state : State) × (slice_get taken.board s ≡ Some state) × IsNextReady ready state = the-one (slice_get taken.board s) (IsNextReady ready) next in
    let state : State = one.0 in
    let group : PreparedValue = arc_value ready.group in
    let there : slice_get between.board s ≡ Some (read_more state group)
    = step_leaves taken between s (offer group) (Ok answer) state step one.1 ∙ ap (λ (x : State). Some x) (offered-next state group one.2.number) in
    let last : slice_get (state.list ++ group ∷ []) state.applied ≡ Some group = behind-all state.list group state.applied one.2.applied in
    subst (λ (o : Option State). IsSomeAnd o (λ x. IsNextOf x ready.next)) (sym there)
    (record {
      group = one.2.built.next ∙ sym last;
      puts = λ key. one.2.built.puts key ∙ sym (ap (option_and_then (λ (value : PreparedValue). left_by state.marks value key)) last);
    })

-- where the advance is made too, or not
pub made-in : {F : Type 0} (taken between left : Laid) (s : ℕ) (group : PreparedValue) (answer : Answer) → IsBoardStep taken s (offer group) (Ok answer) between → (r : Result (Receipt × F) Refusal)
    → IsBoardStep between s advance (answered (λ made. Applied made.0.number) r) left
    → IfOk r (λ made. IsSomeAnd (slice_get left.board s) (λ state. IsReceiptOf s state made.0.stream made.0.number (arc_value made.0.group)))
    → IfOk r (λ made. IsTakenIn taken s group left × IsSomeAnd (slice_get left.board s) (λ state. IsReceiptOf s state made.0.stream made.0.number (arc_value made.0.group)))
made-in taken between left s group answer offered (Ok made) step receipt = (record { between = between; answer = answer; number = made.0.number; offered = offered; applied = step }, receipt)
made-in taken between left s group answer offered (Err refusal) step receipt = tt

pub refused-in : {F : Type 0} (taken between left : Laid) (s : ℕ) (group : PreparedValue) (answer : Answer) → IsBoardStep taken s (offer group) (Ok answer) between → (r : Result (Receipt × F) Refusal)
    → IsBoardStep between s advance (answered (λ made. Applied made.0.number) r) left → IfErr r (λ refusal. IsNotTakenIn taken s group refusal left)
refused-in taken between left s group answer offered (Ok made) step = tt
refused-in taken between left s group answer offered (Err refusal) step = inr (record { between = between; answer = answer; offered = offered; refused = step })

-- ---- a seat's knowledge while it holds the board

named_one : (s t : ℕ) → names (s ∷ []) t ≡ true → s ≡ t
named_one s t e = by (s == t) refl e
  where
    by : (b : Bool) → (s == t) ≡ b → (b || false) ≡ true → s ≡ t
    by true is e = eqb-true s t is
    by false is e = absurd (true≢false (sym e))

held-says : (s : ℕ) (laid : Laid) → s < laid.given → IsSaid (s ∷ []) laid laid
held-says s laid less = record {
  own = λ t named. refl;
  given = λ t named. subst (λ (n : ℕ). n < laid.given) (named_one s t named) less;
  every = all_go_on-refl laid.board;
  long = refl;
  without_seat = λ e. cc;
}

held-step : (s : ℕ) (old new : Laid) (event : Event) (result : Result Answer Refusal) → s < old.given → IsBoardStep old s event result new → IsSeatStep (knows_left s old) s event result (knows_left s new)
held-step s old new event result less step = record { taken = old; left = new; says = held-says s old less; step = step; seen = refl }

own-trans : (l : List ℕ) (a b c : Laid) → IsOwnChange l a b → IsOwnChange l b c → IsOwnChange l a c
own-trans l a b c one two = record {
  others = λ t ne. two.others t ne ∙ one.others t ne;
  every = all_go_on-trans a.board b.board c.board one.every two.every;
  long = two.long ∙ one.long;
}

pub turn-trans : (feed : FeedValue) (s : ℕ) (a b c : Laid) → IsTurn feed s a b → IsTurn feed s b c → IsTurn feed s a c
turn-trans feed s a b c one two = record {
  steps = one.steps ++ two.steps;
  made = steps-join feed s one.steps two.steps a b c one.made two.made;
  own = own-trans (s ∷ []) a b c one.own two.own;
  given = two.given ∙ one.given;
  follows = λ reads. two.follows (one.follows reads);
}

-- a turn of which nothing is made yet
pub turn-none : (feed : FeedValue) (s : ℕ) (laid : Laid) → IsTurn feed s laid laid
turn-none feed s laid = record {
  steps = [];
  made = again-refl s laid;
  own = record { others = λ t ne. refl; every = all_go_on-refl laid.board; long = refl };
  given = refl;
  follows = λ reads. reads;
}

-- a stream of a plan still is behind a turn
pub turn-plan : (feed : FeedValue) (s : ℕ) (a b : Laid) → IsTurn feed s a b → IsSomeAnd (slice_get a.board s) (λ state. state.plan ≡ feed.plan) → IsSomeAnd (slice_get b.board s) (λ state. state.plan ≡ feed.plan)
turn-plan feed s a b turn h =
    let one : (state : State) × (slice_get a.board s ≡ Some state) × (state.plan ≡ feed.plan) = the-one (slice_get a.board s) (λ state. state.plan ≡ feed.plan) h in
    let later : (state : State) × (slice_get b.board s ≡ Some state) × StateGoesOn one.0 state = the-one (slice_get b.board s) (StateGoesOn one.0) (turn.own.every s one.0 one.1) in
    subst (λ (o : Option State). IsSomeAnd o (λ state. state.plan ≡ feed.plan)) (sym later.1) (later.2.plan ∙ one.2)

-- ---- what an outline begins with

front-only : {A : Type 0} (xs ys : List A) → take (length xs) (xs ++ ys) ≡ xs
front-only [] ys = refl
front-only {A} (x ∷ xs) ys = ap (λ (zs : List A). x ∷ zs) (front-only xs ys)

begins : (outline : Outlined) (rest : List Ready) (x : State) → IsAhead outline rest x → BeginsWith outline x
begins outline rest x ahead = record { list = ap (take (length x.list)) ahead.list ∙ front-only x.list (groups_of rest); marks = ahead.marks }

-- ---- one group of a turn

module _ (feed : FeedValue) (whole : IsFeed feed) (s : ℕ) (old : Laid) (less : s < old.given) (state : State) (here : slice_get old.board s ≡ Some state) (ready : Ready) (later : List Ready)
    (caught : IsCaughtUp feed (ready ∷ later) state) where
  abbrev group : PreparedValue
  group = arc_value ready.group

  abbrev read : State
  read = read_more state group

  leads-offer : LeadsOn (standing_of state) (length feed.groups) 0 0 (Offer (suc (length state.list)))
  leads-offer = (sym (plus_one (length state.list)), let w = caught.ready.0.within in omega (arith, w), caught.closed, refl)

  leads-advance : LeadsOn (standing_of read) (length feed.groups) 0 0 Advance
  leads-advance = (
    let more = length-append state.list (group ∷ []) in let all = caught.applied in omega (arith, more, all),
    ap (is_open_at state.applied) caught.closed,
  )

  event-offer : event_of_step feed (Offer (suc (length state.list))) ≡ Some (offer group)
  event-offer = ap (λ r. option_map offer (result_ok r)) caught.ready.0.prepared

  reads-read : ReadsFeed feed state → ReadsFeed feed read
  reads-read reads =
      subst (ReadsFeed feed) (offered-next state group caught.ready.0.number) (reads-on feed state reads 0 0 (Offer (suc (length state.list))) (offer group) leads-offer event-offer)

  of-state : (P : State → Type 0) → IsSomeAnd (slice_get old.board s) P → P state
  of-state P h = subst (λ (o : Option State). IsSomeAnd o P) here h

  to-state : (P : State → Type 0) (laid : Laid) (x : State) → slice_get laid.board s ≡ Some x → P x → IsSomeAnd (slice_get laid.board s) P
  to-state P laid x there p = subst (λ (o : Option State). IsSomeAnd o P) (sym there) p

  module _ (between : Laid) (answer : Answer) (offered : IsBoardStep old s (offer group) (Ok answer) between) where
    read-there : slice_get between.board s ≡ Some read
    read-there = step_leaves old between s (offer group) (Ok answer) state offered here ∙ ap (λ (x : State). Some x) (offered-next state group caught.ready.0.number)

    offered-turn : IsTurn feed s old between
    offered-turn = record {
      steps = Offer (suc (length state.list)) ∷ [];
      made = one-step feed s (Offer (suc (length state.list))) (offer group) answer old old between event-offer (again-refl s old) offered;
      own = step_changes old between s (offer group) (Ok answer) offered;
      given = offered.given;
      follows = λ reads. to-state (ReadsFeed feed) between read read-there (reads-read (of-state (ReadsFeed feed) reads));
    }

    offered-receipts : (first : ℕ) (receipts : List Receipt) → AreReceiptsOn first s old receipts → AreReceiptsOn first s between receipts
    offered-receipts first receipts all =
        to-state (λ x. AreReceiptsSince first s x receipts) between read read-there
        (receipts-stay first s state read receipts (of-state (λ x. AreReceiptsSince first s x receipts) all) (record { applied = refl; rest = group ∷ []; list = refl }))

    given-between : s < between.given
    given-between = subst (λ (n : ℕ). s < n) (sym offered.given) less

  -- ---- it is taken in

  module _ (new : Laid) (taken : IsTakenIn old s group new) where
    abbrev between : Laid
    between = taken.between

    taken-there : slice_get new.board s ≡ Some (taken_in state group)
    taken-there = step_leaves between new s advance (Ok (Applied taken.number)) read taken.applied (read-there between taken.answer taken.offered)

    pub taken-turn : IsTurn feed s old new
    taken-turn =
        turn-trans feed s old between new (offered-turn between taken.answer taken.offered)
        (record {
          steps = Advance ∷ [];
          made = one-step feed s Advance advance (Applied taken.number) between between new refl (again-refl s between) taken.applied;
          own = step_changes between new s advance (Ok (Applied taken.number)) taken.applied;
          given = taken.applied.given;
          follows = λ reads.
              to-state (ReadsFeed feed) new (taken_in state group) taken-there
              (reads-on feed read (subst (λ (o : Option State). IsSomeAnd o (ReadsFeed feed)) (read-there between taken.answer taken.offered) reads) 0 0 Advance advance leads-advance refl);
        })

    -- the next of those that stand ready is the next one
    pub taken-caught : IsSomeAnd (slice_get new.board s) (IsCaughtUp feed later)
    taken-caught =
        to-state (IsCaughtUp feed later) new (taken_in state group) taken-there
        (record {
          plan = caught.plan;
          applied = let more = length-append state.list (group ∷ []) in let all = caught.applied in omega (arith, more, all);
          closed = caught.closed;
          ready = subst (λ (n : ℕ). AreReady feed state.marks (suc n) later) (let more = length-append state.list (group ∷ []) in omega (arith, more)) caught.ready.1;
        })

    pub taken-ahead : (outline : Outlined) → IsSomeAnd (slice_get old.board s) (IsAhead outline (ready ∷ later)) → IsSomeAnd (slice_get new.board s) (IsAhead outline later)
    taken-ahead outline ahead =
        let was : IsAhead outline (ready ∷ later) state = of-state (IsAhead outline (ready ∷ later)) ahead in
        to-state (IsAhead outline later) new (taken_in state group) taken-there
        (record { list = was.list ∙ sym (append_assoc state.list (group ∷ []) (groups_of later)); marks = was.marks })

    pub taken-receipts : (first : ℕ) (old_items new_items : List Receipt) (receipt : Receipt) → new_items ≡ old_items ++ receipt ∷ []
        → IsSomeAnd (slice_get new.board s) (λ x. IsReceiptOf s x receipt.stream receipt.number (arc_value receipt.group)) → AreReceiptsOn first s old old_items → AreReceiptsOn first s new new_items
    taken-receipts first old_items new_items receipt is last all =
        to-state (λ x. AreReceiptsSince first s x new_items) new (taken_in state group) taken-there
        (receipts-more first s read (taken_in state group) old_items
        (subst (λ (o : Option State). IsSomeAnd o (λ x. AreReceiptsSince first s x old_items)) (read-there between taken.answer taken.offered) (offered-receipts between taken.answer taken.offered first old_items all))
        (record { applied = refl; list = refl }) new_items receipt is
        (subst (λ (o : Option State). IsSomeAnd o (λ x. IsReceiptOf s x receipt.stream receipt.number (arc_value receipt.group))) taken-there last))

  -- ---- it is refused

  module _ (new : Laid) (refusal : Refusal) where
    -- the offer alone
    module _ (step : IsBoardStep old s (offer group) (Err refusal) new) where
      same-there : slice_get new.board s ≡ Some state
      same-there = step_leaves old new s (offer group) (Err refusal) state step here

      unread-turn : IsTurn feed s old new
      unread-turn = record {
        steps = [];
        made = again-same s old new (ap (λ (m : Meaning). m.streams) step.step.1);
        own = step_changes old new s (offer group) (Err refusal) step;
        given = step.given;
        follows = λ reads. to-state (ReadsFeed feed) new state same-there (of-state (ReadsFeed feed) reads);
      }

      unread-receipts : (first : ℕ) (receipts : List Receipt) → AreReceiptsOn first s old receipts → AreReceiptsOn first s new receipts
      unread-receipts first receipts all = to-state (λ x. AreReceiptsSince first s x receipts) new state same-there (of-state (λ x. AreReceiptsSince first s x receipts) all)

      unread-begins : (outline : Outlined) → IsSomeAnd (slice_get old.board s) (IsAhead outline (ready ∷ later)) → IsSomeAnd (slice_get new.board s) (BeginsWith outline)
      unread-begins outline ahead = to-state (BeginsWith outline) new state same-there (begins outline (ready ∷ later) state (of-state (IsAhead outline (ready ∷ later)) ahead))

      unread-ends : IsSomeAnd (slice_get old.board s) (ReadsFeed feed) → EndsByItsBoard feed (knows_left s new) s refusal
      unread-ends reads =
          let event : IsSeatEvent feed (knows_left s old) s (Offer (suc (length state.list))) (Err refusal) (knows_left s new)
          = record { event = offer group; of_step = event-offer; stepped = held-step s old new (offer group) (Err refusal) less step } in
          reply-ends feed (knows_left s old) (knows_left s new) s refl state here (Offer (suc (length state.list))) whole (of-state (ReadsFeed feed) reads) 0 0 leads-offer (Refused refusal) (inr event)

    -- the advance
    module _ (h : IsOfferedAlone old s group refusal new) where
      abbrev unapplied : Laid
      unapplied = h.between

      kept-there : slice_get new.board s ≡ Some read
      kept-there = step_leaves unapplied new s advance (Err refusal) read h.refused (read-there unapplied h.answer h.offered)

      unapplied-turn : IsTurn feed s old new
      unapplied-turn =
          turn-trans feed s old unapplied new (offered-turn unapplied h.answer h.offered)
          (record {
            steps = [];
            made = again-same s unapplied new (ap (λ (m : Meaning). m.streams) h.refused.step.1);
            own = step_changes unapplied new s advance (Err refusal) h.refused;
            given = h.refused.given;
            follows = λ reads. to-state (ReadsFeed feed) new read kept-there (subst (λ (o : Option State). IsSomeAnd o (ReadsFeed feed)) (read-there unapplied h.answer h.offered) reads);
          })

      unapplied-receipts : (first : ℕ) (receipts : List Receipt) → AreReceiptsOn first s old receipts → AreReceiptsOn first s new receipts
      unapplied-receipts first receipts all =
          to-state (λ x. AreReceiptsSince first s x receipts) new read kept-there
          (subst (λ (o : Option State). IsSomeAnd o (λ x. AreReceiptsSince first s x receipts)) (read-there unapplied h.answer h.offered) (offered-receipts unapplied h.answer h.offered first receipts all))

      unapplied-begins : (outline : Outlined) → IsSomeAnd (slice_get old.board s) (IsAhead outline (ready ∷ later)) → IsSomeAnd (slice_get new.board s) (BeginsWith outline)
      unapplied-begins outline ahead =
          let was : IsAhead outline (ready ∷ later) state = of-state (IsAhead outline (ready ∷ later)) ahead in
          to-state (BeginsWith outline) new read kept-there
          (begins outline later read (record { list = was.list ∙ sym (append_assoc state.list (group ∷ []) (groups_of later)); marks = was.marks }))

      unapplied-ends : IsSomeAnd (slice_get old.board s) (ReadsFeed feed) → EndsByItsBoard feed (knows_left s new) s refusal
      unapplied-ends reads =
          let event : IsSeatEvent feed (knows_left s unapplied) s Advance (Err refusal) (knows_left s new)
          = record { event = advance; of_step = refl; stepped = held-step s unapplied new advance (Err refusal) (given-between unapplied h.answer h.offered) h.refused } in
          reply-ends feed (knows_left s unapplied) (knows_left s new) s refl read (read-there unapplied h.answer h.offered) Advance whole (reads-read (of-state (ReadsFeed feed) reads)) 0 0 leads-advance (Refused refusal) (inr event)

    -- whichever it is
    pub refused-turn : IsNotTakenIn old s group refusal new → IsTurn feed s old new
    refused-turn (inl step) = unread-turn step
    refused-turn (inr h) = unapplied-turn h

    pub refused-receipts : IsNotTakenIn old s group refusal new → (first : ℕ) (receipts : List Receipt) → AreReceiptsOn first s old receipts → AreReceiptsOn first s new receipts
    refused-receipts (inl step) = unread-receipts step
    refused-receipts (inr h) = unapplied-receipts h

    pub refused-begins : IsNotTakenIn old s group refusal new → (outline : Outlined) → IsSomeAnd (slice_get old.board s) (IsAhead outline (ready ∷ later)) → IsSomeAnd (slice_get new.board s) (BeginsWith outline)
    refused-begins (inl step) = unread-begins step
    refused-begins (inr h) = unapplied-begins h

    pub refused-ends : IsNotTakenIn old s group refusal new → IsSomeAnd (slice_get old.board s) (ReadsFeed feed) → EndsByItsBoard feed (knows_left s new) s refusal
    refused-ends (inl step) = unread-ends step
    refused-ends (inr h) = unapplied-ends h

-- the first of those that stand ready is the next one
pub caught-next : (feed : FeedValue) (s : ℕ) (cur : Laid) (ready : Ready) (later rest : List Ready) → rest ≡ ready ∷ later → IsSomeAnd (slice_get cur.board s) (IsCaughtUp feed rest)
    → IsSomeAnd (slice_get cur.board s) (IsNextReady ready)
caught-next feed s cur ready later rest is caught =
    let one : (state : State) × (slice_get cur.board s ≡ Some state) × IsCaughtUp feed (ready ∷ later) state
    = the-one (slice_get cur.board s) (IsCaughtUp feed (ready ∷ later)) (subst (λ (l : List Ready). IsSomeAnd (slice_get cur.board s) (IsCaughtUp feed l)) is caught) in
    let first : IsReady feed one.0.marks (suc (length one.0.list)) ready = one.2.ready.0 in
    subst (λ (o : Option State). IsSomeAnd o (IsNextReady ready)) (sym one.1)
    (record {
      plan = prepared-plan feed (suc (length one.0.list)) (arc_value ready.group) first.prepared ∙ sym one.2.plan;
      applied = one.2.applied;
      number = first.number;
      built = first.built;
    })

-- ---- one more of them, on a board that a turn has come to

module _ (feed : FeedValue) (whole : IsFeed feed) (s : ℕ) (first cur : Laid) (less : s < first.given) (turn : IsTurn feed s first cur) (ready : Ready) (later rest : List Ready) (is : rest ≡ ready ∷ later)
    (caught : IsSomeAnd (slice_get cur.board s) (IsCaughtUp feed rest)) where
  cur-less : s < cur.given
  cur-less = subst (λ (n : ℕ). s < n) (sym turn.given) less

  abbrev one : (state : State) × (slice_get cur.board s ≡ Some state) × IsCaughtUp feed (ready ∷ later) state
  one = the-one (slice_get cur.board s) (IsCaughtUp feed (ready ∷ later)) (subst (λ (l : List Ready). IsSomeAnd (slice_get cur.board s) (IsCaughtUp feed l)) is caught)

  module _ (new : Laid) (taken : IsTakenIn cur s (arc_value ready.group) new) where
    pub more-turn : IsTurn feed s first new
    more-turn = turn-trans feed s first cur new turn (taken-turn feed whole s cur cur-less one.0 one.1 ready later one.2 new taken)

    pub more-caught : IsSomeAnd (slice_get new.board s) (IsCaughtUp feed later)
    more-caught = taken-caught feed whole s cur cur-less one.0 one.1 ready later one.2 new taken

    pub more-ahead : (outline : Outlined) → IsSomeAnd (slice_get cur.board s) (IsAhead outline rest) → IsSomeAnd (slice_get new.board s) (IsAhead outline later)
    more-ahead outline ahead =
        taken-ahead feed whole s cur cur-less one.0 one.1 ready later one.2 new taken outline (subst (λ (l : List Ready). IsSomeAnd (slice_get cur.board s) (IsAhead outline l)) is ahead)

    pub more-receipts : (n : ℕ) (cur_items new_items : List Receipt) (receipt : Receipt) → new_items ≡ cur_items ++ receipt ∷ []
        → IsSomeAnd (slice_get new.board s) (λ state. IsReceiptOf s state receipt.stream receipt.number (arc_value receipt.group)) → AreReceiptsOn n s cur cur_items → AreReceiptsOn n s new new_items
    more-receipts = taken-receipts feed whole s cur cur-less one.0 one.1 ready later one.2 new taken

  module _ (new : Laid) (refusal : Refusal) (refused : IsNotTakenIn cur s (arc_value ready.group) refusal new) where
    pub end-turn : IsTurn feed s first new
    end-turn = turn-trans feed s first cur new turn (refused-turn feed whole s cur cur-less one.0 one.1 ready later one.2 new refusal refused)

    pub end-receipts : (n : ℕ) (receipts : List Receipt) → AreReceiptsOn n s cur receipts → AreReceiptsOn n s new receipts
    end-receipts = refused-receipts feed whole s cur cur-less one.0 one.1 ready later one.2 new refusal refused

    pub end-begins : (outline : Outlined) → IsSomeAnd (slice_get cur.board s) (IsAhead outline rest) → IsSomeAnd (slice_get new.board s) (BeginsWith outline)
    end-begins outline ahead =
        refused-begins feed whole s cur cur-less one.0 one.1 ready later one.2 new refusal refused outline (subst (λ (l : List Ready). IsSomeAnd (slice_get cur.board s) (IsAhead outline l)) is ahead)

    pub end-ends : IsSomeAnd (slice_get first.board s) (ReadsFeed feed) → EndsByItsBoard feed (knows_left s new) s refusal
    end-ends reads = refused-ends feed whole s cur cur-less one.0 one.1 ready later one.2 new refusal refused (turn.follows reads)

-- ---- all that stand ready

-- an outline with groups behind those that are read begins with these
pub ahead-begins : (outline : Outlined) (s : ℕ) (laid : Laid) (rest : List Ready) → IsSomeAnd (slice_get laid.board s) (IsAhead outline rest) → IsSomeAnd (slice_get laid.board s) (BeginsWith outline)
ahead-begins outline s laid rest ahead =
    let one : (state : State) × (slice_get laid.board s ≡ Some state) × IsAhead outline rest state = the-one (slice_get laid.board s) (IsAhead outline rest) ahead in
    subst (λ (o : Option State). IsSomeAnd o (BeginsWith outline)) (sym one.1) (begins outline rest one.0 one.2)

-- one more stands ready behind those that do
pub ready-push : (feed : FeedValue) (marks : Marks) (n : ℕ) (xs : List Ready) (x : Ready) → AreReady feed marks n xs → IsReady feed marks (n + length xs) x → AreReady feed marks n (xs ++ x ∷ [])
ready-push feed marks n [] x all one = (subst (λ (m : ℕ). IsReady feed marks m x) (omega arith) one, tt)
ready-push feed marks n (y ∷ ys) x all one = (all.0, ready-push feed marks (suc n) ys x all.1 (subst (λ (m : ℕ). IsReady feed marks m x) (omega arith) one))

-- how a stream's course ends is by the board that is seen alone
pub ends-seen : (feed : FeedValue) (v w : Knows) (s : ℕ) (refusal : Refusal) → w.seen ≡ v.seen → EndsByItsBoard feed v s refusal → EndsByItsBoard feed w s refusal
ends-seen feed v w s NoStream same h = h
ends-seen feed v w s WrongPlan same h = h
ends-seen feed v w s Diverged same h = h
ends-seen feed v w s (Core refusal) same h = h
ends-seen feed v w s (OwnedByOther key owner) same h = record {
  laid = h.laid;
  seen = same ∙ h.seen;
  step = h.step;
  event = h.event;
  of_step = h.of_step;
  refused = h.refused;
  touched = h.touched;
  other = h.other;
  state = h.state;
  there = h.there;
  row = h.row;
  cut = h.cut;
}
ends-seen feed v w s FeedCount same h = h
ends-seen feed v w s Memory same h =
    subst (λ (o : Option Laid). IsSomeAnd (option_and_then (λ (laid : Laid). slice_get laid.board s) o) (WantsNextStep feed)) (sym same) h

-- where some stand ready, the first is sound
pub ready-sound : (feed : FeedValue) (marks : Marks) (n : ℕ) (xs : List Ready) → 1 ≤ length xs → AreReady feed marks n xs → IsOk (prepared_at feed n)
ready-sound feed marks n [] some all = absurd (omega (arith, some))
ready-sound feed marks n (x ∷ xs) some all = subst (λ (r : Result PreparedValue FeedFault). IsOk r) (sym all.0.prepared) refl

-- also where none does but one more
pub ready-first : (feed : FeedValue) (marks : Marks) (n : ℕ) (xs : List Ready) (x : Ready) → AreReady feed marks n xs → IsReady feed marks (n + length xs) x → IsOk (prepared_at feed n)
ready-first feed marks n xs x all one =
    ready-sound feed marks n (xs ++ x ∷ []) (let more = length-append xs (x ∷ []) in omega (arith, more)) (ready-push feed marks n xs x all one)

-- or where the next one is sound
pub ready-wanted : (feed : FeedValue) (marks : Marks) (n : ℕ) (xs : List Ready) → AreReady feed marks n xs → IsOk (prepared_at feed (n + length xs)) → IsOk (prepared_at feed n)
ready-wanted feed marks n [] all wanted = subst (λ (m : ℕ). IsOk (prepared_at feed m)) (omega arith) wanted
ready-wanted feed marks n (x ∷ xs) all wanted = ready-sound feed marks n (x ∷ xs) (omega arith) all

-- a turn up to its end is whole
pub whole-turn : (feed : FeedValue) (n count end : ℕ) → n + count ≡ end → (end ≡ length feed.groups + 1) ⊎ (end ≡ n + 16) → IsWholeTurn feed n count
whole-turn feed n count end is (inl e) = inr (inl (is ∙ e))
whole-turn feed n count end is (inr e) = inl (omega (arith, is, e))

-- and memory may be wanted for it
pub caught-wants : (feed : FeedValue) (readies : List Ready) (o : Option State) → 1 ≤ length readies → IsSomeAnd o (IsCaughtUp feed readies) → IsSomeAnd o (WantsNextStep feed)
caught-wants feed readies None some h = h
caught-wants feed [] (Some state) some h = absurd (omega (arith, some))
caught-wants feed (ready ∷ later) (Some state) some h =
    record {
      step = Offer (suc (length state.list));
      was = 0;
      is = 0;
      leads = (sym (plus_one (length state.list)), let w = h.ready.0.within in omega (arith, w), h.closed, refl);
      event = offer (arc_value ready.group);
      of_step = ap (λ r. option_map offer (result_ok r)) h.ready.0.prepared;
    }

-- ---- from the board that was taken to the one that is put back

module _ (feed : FeedValue) (before holding : Knows) (s : ℕ) (taken : Laid) (own : before.streams ≡ s ∷ []) (standing : Standing) (numbers : option_map standing_of (state_seen before s) ≡ Some standing)
    (h : IsBoardTaken before taken holding) where
  -- the seat's stream is as the seat knew it
  pub turn-here : slice_get taken.board s ≡ state_seen before s
  turn-here = own_as_seen before s taken standing own h.says numbers

  -- what the seat saw of the board
  abbrev saw : (seen : Laid) × (before.seen ≡ Some seen) × IsSaid before.streams seen taken
  saw = by before.seen refl h.says numbers
    where
      by : (o : Option Laid) → before.seen ≡ o → MatchOption o (before.streams ≡ []) (λ seen. IsSaid before.streams seen taken)
          → option_map standing_of (option_and_then (λ (laid : Laid). slice_get laid.board s) o) ≡ Some standing → (seen : Laid) × (before.seen ≡ Some seen) × IsSaid before.streams seen taken
      by None e says num = cc
      by (Some seen) e says num = (seen, e, says)

  module _ (left : Laid) (turn : IsTurn feed s taken left) where
    -- its stream is still there
    pub turn-some : (P : State → Type 0) → IsSomeAnd (state_seen before s) P → IsSome (slice_get left.board s)
    turn-some P h =
        let one : (state : State) × (state_seen before s ≡ Some state) × P state = the-one (state_seen before s) P h in
        let later : (state : State) × (slice_get left.board s ≡ Some state) × StateGoesOn one.0 state = the-one (slice_get left.board s) (StateGoesOn one.0) (turn.own.every s one.0 (turn-here ∙ one.1)) in
        subst (λ (o : Option State). IsSome o) (sym later.1) refl

    module _ (after : Knows) (put : IsBoardPut holding left after) where
      turn-there : state_seen after s ≡ slice_get left.board s
      turn-there = ap (λ (o : Option Laid). option_and_then (λ (laid : Laid). slice_get laid.board s) o) put.seen

      pub turn-many : (n : ℕ) → SawStreams before n → SawStreams after n
      turn-many n many laid e =
          ap (λ (l : Laid). length l.board) (sym (same_Some left laid (sym put.seen ∙ e)))
          ∙ turn.own.long
          ∙ saw.2.long
          ∙ many saw.0 saw.1

      -- how a turn ends the stream's course, by what the seat then knows
      pub turn-ends : {X : Type 0} → (r : Result X Refusal) → (IsSomeAnd (slice_get taken.board s) (ReadsFeed feed) → IfErr r (EndsByItsBoard feed (knows_left s left) s)) → IsSomeAnd (state_seen before s) (ReadsFeed feed)
          → IfErr r (EndsByItsBoard feed after s)
      turn-ends (Ok x) ends follows = tt
      turn-ends (Err refusal) ends follows =
          ends-seen feed (knows_left s left) after s refusal put.seen (ends (subst (λ (o : Option State). IsSomeAnd o (ReadsFeed feed)) (sym turn-here) follows))

      -- what the seat did are the turn's steps
      pub turn-stepped : (seen last : Laid) → before.seen ≡ Some seen → after.seen ≡ Some last → AreMadeSteps feed s turn.steps seen last
      turn-stepped seen last was sees =
          subst (λ (l : Laid). AreMadeSteps feed s turn.steps seen l) (same_Some left last (sym put.seen ∙ sees))
          (steps-behind feed s turn.steps seen taken left (said-again before s own seen taken was h.says) turn.made)

      pub turn-keeps : (P Q : State → Type 0) → (IsSomeAnd (slice_get taken.board s) P → IsSomeAnd (slice_get left.board s) Q) → IsSomeAnd (state_seen before s) P → IsSomeAnd (state_seen after s) Q
      turn-keeps P Q f h = subst (λ (o : Option State). IsSomeAnd o Q) (sym turn-there) (f (subst (λ (o : Option State). IsSomeAnd o P) (sym turn-here) h))

      -- with the receipts that stood there before room was made for more
      pub turn-receipts : (first : ℕ) (had roomy has : List Receipt) → roomy ≡ had → ((n : ℕ) → AreReceiptsOn n s taken roomy → AreReceiptsOn n s left has) → IsSomeAnd (state_seen before s) (λ state. AreReceiptsSince first s state had)
          → IsSomeAnd (state_seen after s) (λ state. AreReceiptsSince first s state has)
      turn-receipts first had roomy has same f all =
          turn-keeps (λ (state : State). AreReceiptsSince first s state roomy) (λ (state : State). AreReceiptsSince first s state has) (f first)
          (subst (λ (l : List Receipt). IsSomeAnd (state_seen before s) (λ state. AreReceiptsSince first s state l)) (sym same) all)

      pub turn-outlined : (outline pushed kept : Outlined) (readies : List Ready) (cursor : Standing) → option_map outline_of (state_seen before s) ≡ Some outline → pushed ≡ outlined (outline.list ++ groups_of readies) outline.marks
          → ((IsSomeAnd (slice_get taken.board s) (IsAhead pushed readies)) → IsSomeAnd (slice_get left.board s) (BeginsWith pushed)) → option_map standing_of (slice_get left.board s) ≡ Some cursor
          → kept ≡ outlined (take cursor.read pushed.list) pushed.marks → option_map outline_of (state_seen after s) ≡ Some kept
      turn-outlined outline pushed kept readies cursor is more kept-by stands e =
          ap (option_map outline_of) (turn-there ∙ one.1) ∙ ap (λ (o : Outlined). Some o) (same ∙ sym e)
        where
          ahead : (o : Option State) → option_map outline_of o ≡ Some outline → IsSomeAnd o (IsAhead pushed readies)
          ahead None e = cc
          ahead (Some state) e =
              let was : outline_of state ≡ outline = same_Some (outline_of state) outline e in
              record {
                list = ap (λ (o : Outlined). o.list) more ∙ ap (λ (o : Outlined). o.list ++ groups_of readies) (sym was);
                marks = ap (λ (o : Outlined). o.marks) more ∙ ap (λ (o : Outlined). o.marks) (sym was);
              }

          one : (state : State) × (slice_get left.board s ≡ Some state) × BeginsWith pushed state
          one = the-one (slice_get left.board s) (BeginsWith pushed) (kept-by (subst (λ (o : Option State). IsSomeAnd o (IsAhead pushed readies)) (sym turn-here) (ahead (state_seen before s) is)))

          read : length one.0.list ≡ cursor.read
          read = ap (λ (x : Standing). x.read) (same_Some (standing_of one.0) cursor (sym (ap (option_map standing_of) one.1) ∙ stands))

          same : outline_of one.0 ≡ outlined (take cursor.read pushed.list) pushed.marks
          same =
              ap (λ (l : List PreparedValue). outlined l one.0.marks) (sym one.2.list ∙ ap (λ (n : ℕ). take n pushed.list) read)
              ∙ ap (λ (m : Marks). outlined (take cursor.read pushed.list) m) (sym one.2.marks)
