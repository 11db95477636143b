-- A seat's stream beside a feed: where it stands, a step on its course, and its run.
use Rattle.std.proofs.Common.{◌≡◌, ℕ, suc, ◌+◌, ◌<◌, ◌≤◌, List, length, Option, Some, None, Ok, Err, slice_get, refl, sym, ap, subst, ◌∙◌, arith}
use Rattle.std.proofs.lemmas.Option.{same_Some, slice_get_within}
use Rattle.std.specs.Arc.{arc_value}
use Rattle.std.specs.Prelude.{IsSomeAnd, MatchOption, IfNone, IfSome}
use Rattle.std.specs.Option.{option_map}
use Rattle.pk_copy.specs.Marks.{Marks}
use Rattle.stream_core.specs.declared.step.Step.{Step}
use Rattle.stream_core.specs.declared.step.Step.TheVariants.{Offer, Advance, OpenAt, CopyRows, Close, Restart}
use Rattle.stream_core.specs.Standing.{Standing}
use Rattle.source_feed.specs.Planned.{FeedValue, IsFeed}
use Rattle.board_laws.specs.declared.answer.Answer.{Answer}
use Rattle.board_laws.specs.declared.step_refusal.StepRefusal.{StepRefusal}
use Rattle.board_laws.specs.Meaning.{State}
use Rattle.board_laws.specs.Lawful.{standing_of}
use Rattle.board_laws.specs.Reading.{ReadsFeed}
use Rattle.board_laws.specs.Schedule.{Reply}
use Rattle.board_laws.specs.StateAfter.{state_after}
use Rattle.board_laws.proofs.Making.{plan-after}
use Rattle.stream_worker.specs.declared.ready.Ready.{Ready}
use Rattle.stream_worker.specs.declared.receipt.Receipt.{Receipt}
use Rattle.apply_core.specs.declared.run_refusal.RunRefusal.{RunRefusal}
use Rattle.stream_worker.specs.declared.seat.Seat.{Seat}
use Rattle.stream_worker.specs.declared.seat_run.Ran.{Ran}
use Rattle.stream_worker.specs.declared.shared.Shared.{Shared}
use Rattle.stream_worker.specs.Knowing.{SawStreams, state_seen}
use Rattle.stream_worker.specs.Outlines.{Outlined, outline_of}
use Rattle.stream_worker.specs.SeatOf.{known, seat_state, IsSeatOf, IsSeatFor, SawNoOther}
use Rattle.stream_worker.specs.Seats.{IsReceiptOf}
use Rattle.stream_worker.specs.Worked.{IsOfPlan, Follows, HasCome, EndsSeat, AreReceiptsSince, AreReceipts, GoesOn}
use Rattle.apply_core.specs.Courses.{LeadsOn}
use Rattle.stream_worker.specs.Private.SeatSteps.{IsSeatReply, IsOneMore, AreBehind, EndsSeatStep}
use Rattle.stream_worker.specs.Private.SeatRuns.{IsSeated, IsLeft, IsRan}
use Rattle.stream_worker.specs.Private.Turns.{AreReady, IsCaughtUp}
use Rattle.stream_worker.proofs.PassesTakeSeats.{seat_has}
use Rattle.apply_core.proofs.StreamsThatStandSo.{the-one}
use Rattle.apply_core.proofs.StepsComeNearer.{read-most}
use Rattle.stream_worker.proofs.ReceiptsFollowSteps.{IsNoAdvance, Comes, same-list, comes, receipts-stay, receipts-more}
use Rattle.stream_worker.proofs.StepsAreMade.{stepped-reply, stepped-same}
use Rattle.stream_worker.proofs.CourseStepsOfSeats.{next-state, reply-many, reply-stays, reply-follows, reply-ends}

-- ---- a step of a seat

module _ (feed : FeedValue) (seat : Seat) where
  abbrev here : (state : State) × (seat_state seat ≡ Some state)
  here = seat_has seat

  stands : standing_of here.0 ≡ seat.cursor
  stands = same_Some (standing_of here.0) seat.cursor (sym (ap (option_map standing_of) here.1) ∙ seat.numbers)

  of-here : (P : State → Type 0) → IsSomeAnd (seat_state seat) P → P here.0
  of-here P h =
      let one : (state : State) × (seat_state seat ≡ Some state) × P state = the-one (seat_state seat) P h in
      subst P (same_Some one.0 here.0 (sym one.1 ∙ here.1)) one.2

  -- no more groups are read than the feed has that the stream reads
  pub sits-within : Follows feed seat → seat.cursor.read ≤ length feed.groups
  sits-within follows = subst (λ (a : Standing). a.read ≤ length feed.groups) stands (read-most feed here.0 (of-here (ReadsFeed feed) follows))

  -- with these groups ready behind all that it read and applied
  pub caught-up : (readies : List Ready) (number : ℕ) → IsOfPlan feed seat → seat.cursor.applied ≡ seat.cursor.read → number ≡ seat.cursor.read + 1 → seat.cursor.snapshot ≡ None
      → AreReady feed seat.outline.marks number readies → IsSomeAnd (seat_state seat) (IsCaughtUp feed readies)
  caught-up readies number of applied is closed ready =
      let marks : here.0.marks ≡ seat.outline.marks = ap (λ (o : Outlined). o.marks) (same_Some (outline_of here.0) seat.outline (sym (ap (option_map outline_of) here.1) ∙ seat.outlined)) in
      let read : length here.0.list ≡ seat.cursor.read = ap (λ (a : Standing). a.read) stands in
      subst (λ (o : Option State). IsSomeAnd o (IsCaughtUp feed readies)) (sym here.1)
      (record {
        plan = of-here (λ (x : State). x.plan ≡ feed.plan) of;
        applied = ap (λ (a : Standing). a.applied) stands ∙ applied ∙ sym read;
        closed = ap (λ (a : Standing). a.snapshot) stands ∙ closed;
        ready = subst (λ (m : Marks). AreReady feed m (suc (length here.0.list)) readies) (sym marks) (subst (λ (n : ℕ). AreReady feed seat.outline.marks n readies) (omega (arith, is, read)) ready);
      })

  module _ (step : Step) (after : Seat) (same : after.stream ≡ seat.stream) where
    pub sits-many : (reply : Reply) → IsSeatReply feed (known seat) seat.stream step reply (known after) → SawNoOther seat after
    sits-many reply h = reply-many feed (known seat) (known after) seat.stream seat.own here.0 here.1 step reply h

    -- ---- the receipts

    -- what holds of the state that the seat then knows
    behind-here : (P : ℕ → State → Type 0) (state : State) → state_seen (known after) seat.stream ≡ Some state → P seat.stream state → IsSomeAnd (seat_state after) (P after.stream)
    behind-here P state is h =
        subst (λ (s : ℕ). IsSomeAnd (state_seen (known after) s) (P s)) (sym same)
        (subst (λ (o : Option State). IsSomeAnd o (P seat.stream)) (sym is) h)

    last-here : (state : State) → state_seen (known after) seat.stream ≡ Some state → (old new : List Receipt) (more : IsOneMore after old new)
        → IsReceiptOf seat.stream state more.receipt.stream more.receipt.number (arc_value more.receipt.group)
    last-here state is old new more =
        let last : IsSomeAnd (state_seen (known after) seat.stream) (λ (x : State). IsReceiptOf seat.stream x more.receipt.stream more.receipt.number (arc_value more.receipt.group))
        = subst (λ (s : ℕ). IsSomeAnd (state_seen (known after) s) (λ (x : State). IsReceiptOf s x more.receipt.stream more.receipt.number (arc_value more.receipt.group))) same more.of_last in
        subst (λ (o : Option State). IsSomeAnd o (λ (x : State). IsReceiptOf seat.stream x more.receipt.stream more.receipt.number (arc_value more.receipt.group))) is last

    refused-receipts : (st : Step) (refusal : StepRefusal) (old new : List Receipt) → AreBehind st (Err refusal) after old new → new ≡ old
    refused-receipts (Offer n) refusal old new e = e
    refused-receipts Advance refusal old new e = e
    refused-receipts (OpenAt m) refusal old new e = e
    refused-receipts (CopyRows c) refusal old new e = e
    refused-receipts Close refusal old new e = e
    refused-receipts Restart refusal old new e = e

    module _ (first : ℕ) (old new : List Receipt) (all : AreReceipts first seat old) where
      abbrev all-here : AreReceiptsSince first seat.stream here.0 old
      all-here = of-here (λ (state : State). AreReceiptsSince first seat.stream state old) all

      module _ (state : State) (is : state_seen (known after) seat.stream ≡ Some state) where
        stay : new ≡ old → IsNoAdvance here.0 state → AreReceiptsSince first seat.stream state new
        stay e come = subst (λ (l : List Receipt). AreReceiptsSince first seat.stream state l) (sym e) (receipts-stay first seat.stream here.0 state old all-here come)

        made-receipts : (st : Step) (answer : Answer) → AreBehind st (Ok answer) after old new → Comes st here.0 state → AreReceiptsSince first seat.stream state new
        made-receipts (Offer n) answer e come = stay e come
        made-receipts Advance answer more come = receipts-more first seat.stream here.0 state old all-here come new more.receipt more.items (last-here state is old new more)
        made-receipts (OpenAt m) answer e come = stay e come
        made-receipts (CopyRows c) answer e come = stay e come
        made-receipts Close answer e come = stay e come
        made-receipts Restart answer e come = stay e come

      pub sits-receipts : (groups was is : ℕ) → LeadsOn seat.cursor groups was is step → (reply : Reply) → IsSeatReply feed (known seat) seat.stream step reply (known after) → AreBehind step reply after old new → AreReceipts first after new
      sits-receipts groups was is leads (Ok answer) h behind =
          let state : State = state_after here.0 h.event in
          let known-state : state_seen (known after) seat.stream ≡ Some state = next-state feed (known seat) (known after) seat.stream seat.own here.0 here.1 step answer h in
          behind-here (λ (s : ℕ) (x : State). AreReceiptsSince first s x new) state known-state
          (made-receipts state known-state step answer behind (comes feed here.0 step h.event seat.cursor groups was is leads h.of_step))
      sits-receipts groups was is leads (Err refusal) h behind =
          let known-state : state_seen (known after) seat.stream ≡ Some here.0 = reply-stays feed (known seat) (known after) seat.stream seat.own here.0 here.1 step refusal h in
          behind-here (λ (s : ℕ) (x : State). AreReceiptsSince first s x new) here.0 known-state
          (stay here.0 known-state (refused-receipts step refusal old new behind) (same-list here.0 here.0 refl refl))

    -- ---- its plan

    pub sits-plan : (reply : Reply) → IsSeatReply feed (known seat) seat.stream step reply (known after) → IsOfPlan feed seat → IsOfPlan feed after
    sits-plan (Ok answer) h of =
        let state : State = state_after here.0 h.event in
        behind-here (λ (s : ℕ) (x : State). x.plan ≡ feed.plan) state (next-state feed (known seat) (known after) seat.stream seat.own here.0 here.1 step answer h)
        (plan-after here.0 h.event ∙ of-here (λ (x : State). x.plan ≡ feed.plan) of)
    sits-plan (Err refusal) h of =
        behind-here (λ (s : ℕ) (x : State). x.plan ≡ feed.plan) here.0 (reply-stays feed (known seat) (known after) seat.stream seat.own here.0 here.1 step refusal h)
        (of-here (λ (x : State). x.plan ≡ feed.plan) of)

    -- ---- along a feed that it reads

    module _ (whole : IsFeed feed) (follows : Follows feed seat) (was is : ℕ) (leads : LeadsOn seat.cursor (length feed.groups) was is step) where
      reads : ReadsFeed feed here.0
      reads = of-here (ReadsFeed feed) follows

      leading : LeadsOn (standing_of here.0) (length feed.groups) was is step
      leading = subst (λ (a : Standing). LeadsOn a (length feed.groups) was is step) (sym stands) leads

      pub sits-follows : (reply : Reply) → IsSeatReply feed (known seat) seat.stream step reply (known after) → Follows feed after
      sits-follows reply h =
          subst (λ (s : ℕ). IsSomeAnd (state_seen (known after) s) (ReadsFeed feed)) (sym same)
          (reply-follows feed (known seat) (known after) seat.stream seat.own here.0 here.1 step whole reads was is leading reply h)

      pub sits-refused : (refusal : StepRefusal) → IsSeatReply feed (known seat) seat.stream step (Err refusal) (known after) → EndsSeatStep feed (known after) after.stream refusal
      sits-refused refusal h =
          subst (λ (s : ℕ). EndsSeatStep feed (known after) s refusal) (sym same)
          (reply-ends feed (known seat) (known after) seat.stream seat.own here.0 here.1 step whole reads was is leading refusal h)

    -- ---- all of it

    -- behind a step on the course the seat goes on
    pub sits-on : IsFeed feed → (groups was is : ℕ) → LeadsOn seat.cursor groups was is step → groups ≡ length feed.groups → (reply : Reply) → IsSeatReply feed (known seat) seat.stream step reply (known after)
        → (had has : List Receipt) → AreBehind step reply after had has → GoesOn feed seat had after has
    sits-on whole groups was is leads long reply h had has behind = record {
      stepped = stepped-reply feed seat after step reply h;
      many = sits-many reply h;
      plan = sits-plan reply h;
      receipts = λ first all. sits-receipts first had has all groups was is leads reply h behind;
      follows = λ follows. sits-follows whole follows was is (subst (λ (n : ℕ). LeadsOn seat.cursor n was is step) long leads) reply h;
    }

-- ---- nothing was done

-- a seat that knows what it knew goes on, with the same receipts
pub stays-on : (feed : FeedValue) (before after : Seat) (had has : List Receipt) → after.stream ≡ before.stream → known after ≡ known before → has ≡ had → GoesOn feed before had after has
stays-on feed before after had has stream knows same = record {
  stepped = stepped-same feed before after knows;
  many = λ n saw. subst (λ v. SawStreams v n) (sym knows) saw;
  receipts = λ first all.
      subst (λ (l : List Receipt). AreReceipts first after l) (sym same) (of (λ s o. IsSomeAnd o (λ (x : State). AreReceiptsSince first s x had)) all);
  plan = of (λ s o. IsSomeAnd o (λ (x : State). x.plan ≡ feed.plan));
  follows = of (λ s o. IsSomeAnd o (ReadsFeed feed));
}
  where
    of : (P : ℕ → Option State → Type 0) → P before.stream (seat_state before) → P after.stream (seat_state after)
    of P h = subst (λ v. P after.stream (state_seen v after.stream)) (sym knows) (subst (λ s. P s (state_seen (known before) s)) (sym stream) h)

-- ---- a run

module _ (shared : Shared) (feed : FeedValue) (before : Seat) where
  -- what a worker leaves
  pub left-by : (after : Seat) (refusal : Option RunRefusal) → IsSeatFor shared before.stream after → SawNoOther before after
      → (Follows feed before → Follows feed after) → (Follows feed before → IfNone refusal (HasCome feed after)) → (Follows feed before → IfSome refusal (EndsSeat feed after))
      → IsLeft shared feed before (record { seat = after; refusal = refusal })
  left-by after refusal at many follows ended refused = record {
    at_board = at.0;
    stream = at.1;
    many = many;
    follows = follows;
    outcome = λ read. by refusal (ended read) (refused read);
  }
    where
      by : (o : Option RunRefusal) → IfNone o (HasCome feed after) → IfSome o (EndsSeat feed after) → MatchOption o (HasCome feed after) (EndsSeat feed after)
      by None come ends = come
      by (Some refusal) come ends = ends

module _ (shared : Shared) (feeds : List FeedValue) (before : Seat) (seated : IsSeated shared feeds before) where
  pub has-feed : before.stream < length feeds
  has-feed = slice_get_within feeds before.stream seated.feed seated.fed

  -- what a worker leaves along the seat's own feed
  pub ran : (feed : FeedValue) → slice_get feeds before.stream ≡ Some feed → (left : Ran) → IsLeft shared feed before left → IsRan shared feeds before.stream left
  ran feed fed left h =
      let follows : Follows feed before = subst (λ (f : FeedValue). Follows f before) (same_Some seated.feed feed (sym seated.fed ∙ fed)) seated.follows in
      record {
        stream = h.stream;
        seated = record { at_board = h.at_board; feed = feed; fed = ap (slice_get feeds) h.stream ∙ fed; follows = h.follows follows; many = h.many (length feeds) seated.many };
        outcome = h.outcome follows;
      }
