-- Groups that stand ready are offered and applied.
use Rattle.std.proofs.Common.{◌≡◌, ℕ, zero, suc, ◌<◌, Bool, true, false, List, [], ◌∷◌, ◌++◌, length, get_or, Option, Some, None, Result, Ok, Err, slice_get, set, refl, sym, ap, subst, ◌∙◌, arith}
use Rattle.std.proofs.lemmas.Option.{same_Some, slice_get_within}
use Rattle.std.specs.Prelude.{IfSome, IsOk, nat_le}
use Rattle.std.specs.Arc.{arc_value}
use Rattle.std.specs.Option.{option_map, option_and_then}
use Rattle.std.specs.Result.{result_ok}
use borrow.Author.Tests.{leb-true}
use Rattle.filter_rule.specs.PlanValue.{PlanValue}
use Rattle.pk_copy.specs.KeyOrder.{key_cmp}
use Rattle.pk_copy.specs.KeyValue.{KeyValue}
use Rattle.pk_copy.specs.Marks.{Marks}
use Rattle.stream_core.specs.declared.step.Step.TheVariants.{Offer, Advance}
use Rattle.target_tables.specs.Touches.{last_at}
use Rattle.source_feed.specs.declared.fault.FeedFault.{FeedFault}
use Rattle.source_feed.specs.History.{kept_of}
use Rattle.source_feed.specs.Planned.{FeedValue}
use Rattle.source_feed.specs.Touches.{PreparedValue, prepared_at}
use Rattle.board_laws.specs.declared.answer.Answer.{Answer}
use Rattle.board_laws.specs.declared.refusal.Refusal.{Refusal}
use Rattle.board_laws.specs.declared.refusal.Refusal.TheVariants.{NoStream, WrongPlan, Diverged, Core, OwnedByOther, FeedCount, Memory}
use Rattle.board_laws.specs.declared.step_refusal.StepRefusal.TheVariants.{Refused}
use Rattle.board_laws.specs.Event.{Event, offer, advance}
use Rattle.board_laws.specs.FedBoards.{Fed, IsFedBoard}
use Rattle.board_laws.specs.Meaning.{State, Meaning}
use Rattle.board_laws.specs.Runs.{event_of_step}
use Rattle.board_laws.specs.Schedule.{Reply, IsEventStep, IsReplyBy, IsReply}
use Rattle.board_laws.specs.StateAfter.{state_after}
use Rattle.board_laws.specs.Step.{answered, IsMade, IsStep}
use Rattle.board_laws.specs.Touching.{left_by, passed_by}
use Rattle.board_laws.proofs.Following.{answered_by}
use Rattle.list_laws.proofs.Places.{place_of, slice_get-set_same}
use Rattle.apply_core.specs.Putting.{DoAsStep}
use Rattle.apply_core.proofs.CourseStepsAreAllowed.{of_offer, prepared-plan}
use Rattle.apply_core.proofs.FedLaws.{plan-of, reply-fed}
use Rattle.change_laws.specs.Since.{HasGoneOn, HaveGoneOn}
use Rattle.change_laws.proofs.GoingOn.{moved-goes_on}
use Rattle.worker_rounds.specs.declared.ready.Ready.{Ready}
use Rattle.worker_rounds.specs.Private.OnRound.{Gone, IsOnRound, Runs, MayApply, IsStepOn, IsReady, MayTakeIn}
use Rattle.worker_rounds.proofs.StepsOnRounds.{Stepped, stepped-ok, stepped-err}
use Rattle.worker_rounds.proofs.StreamsOnRounds.{read-at, fed-now, may-still, offer-none, step-runs}

-- ---- what the board's calls reply

-- a step of stream s that its board made, or refused, as a reply
abbrev by_board : {X : Type 0} → (X → Answer) → Result X Refusal → Reply
by_board answer (Ok x) = Ok (answer x)
by_board answer (Err refusal) = Err (Refused refusal)

offered-by : {X : Type 0} (feed : FeedValue) (old new : Meaning) (s : ℕ) (group : PreparedValue) (answer : X → Answer) → prepared_at feed group.number ≡ Ok group → (r : Result X Refusal)
    → IsStep old s (offer group) (answered answer r) new → IsReplyBy feed old s (Offer group.number) (by_board answer r) new
offered-by {X} feed old new s group answer prepared r h = by r h
  where
    event : event_of_step feed (Offer group.number) ≡ Some (offer group)
    event = ap (λ (x : Result PreparedValue FeedFault). option_map offer (result_ok x)) prepared

    sound : IsOk (prepared_at feed group.number)
    sound = subst (λ (x : Result PreparedValue FeedFault). IsOk x) (sym prepared) refl

    by : (r : Result X Refusal) → IsStep old s (offer group) (answered answer r) new → IsReplyBy feed old s (Offer group.number) (by_board answer r) new
    by (Ok x) h = record { event = offer group; of_step = event; stepped = h }
    by (Err NoStream) h = record { event = offer group; of_step = event; stepped = h }
    by (Err WrongPlan) h = record { event = offer group; of_step = event; stepped = h }
    by (Err Diverged) h = record { event = offer group; of_step = event; stepped = h }
    by (Err (Core refusal)) h = record { event = offer group; of_step = event; stepped = h }
    by (Err (OwnedByOther key owner)) h = record { event = offer group; of_step = event; stepped = h }
    by (Err FeedCount) h = record { event = offer group; of_step = event; stepped = h }
    by (Err Memory) h = (sound, h.1)

advanced-by : {X : Type 0} (feed : FeedValue) (old new : Meaning) (s : ℕ) (answer : X → Answer) (r : Result X Refusal) → IsStep old s advance (answered answer r) new → IsReplyBy feed old s Advance (by_board answer r) new
advanced-by feed old new s answer (Ok x) h = record { event = advance; of_step = refl; stepped = h }
advanced-by feed old new s answer (Err NoStream) h = record { event = advance; of_step = refl; stepped = h }
advanced-by feed old new s answer (Err WrongPlan) h = record { event = advance; of_step = refl; stepped = h }
advanced-by feed old new s answer (Err Diverged) h = record { event = advance; of_step = refl; stepped = h }
advanced-by feed old new s answer (Err (Core refusal)) h = record { event = advance; of_step = refl; stepped = h }
advanced-by feed old new s answer (Err (OwnedByOther key owner)) h = record { event = advance; of_step = refl; stepped = h }
advanced-by feed old new s answer (Err FeedCount) h = record { event = advance; of_step = refl; stepped = h }
advanced-by feed old new s answer (Err Memory) h = (h.0, h.1)

module _ (feeds : List FeedValue) (board : Meaning) (fed : IsFedBoard feeds board) (s : ℕ) (feed : FeedValue) (at : slice_get feeds s ≡ Some feed) where
  -- an offer of a group that is prepared of the stream's feed
  pub offer-replies : {X : Type 0} (new : Meaning) (group : PreparedValue) (answer : X → Answer) → prepared_at feed group.number ≡ Ok group → (r : Result X Refusal) → IsStep board s (offer group) (answered answer r) new
      → IsReply feeds board (s, Offer group.number) (by_board answer r) new
  offer-replies new group answer prepared r h = reply-fed feeds board fed s new (Offer group.number) (by_board answer r) feed at (offered-by feed board new s group answer prepared r h)

  pub advance-replies : {X : Type 0} (new : Meaning) (answer : X → Answer) (r : Result X Refusal) → IsStep board s advance (answered answer r) new → IsReply feeds board (s, Advance) (by_board answer r) new
  advance-replies new answer r h = reply-fed feeds board fed s new Advance (by_board answer r) feed at (advanced-by feed board new s answer r h)

  -- is of the stream's plan
  pub group-plan : (group : PreparedValue) → prepared_at feed group.number ≡ Ok group → IfSome (slice_get board.streams s) (λ state. group.plan ≡ state.plan)
  group-plan group prepared = by (slice_get board.streams s) (plan-of feeds board fed s feed at)
    where
      by : (o : Option State) → IfSome o (λ state. state.plan ≡ feed.plan) → IfSome o (λ state. group.plan ≡ state.plan)
      by None h = tt
      by (Some state) h = prepared-plan feed group.number group prepared ∙ sym h

-- ---- a group that is read and applied at once

behind-all : {A : Type 0} (xs : List A) (x : A) (n : ℕ) → n ≡ length xs → slice_get (xs ++ x ∷ []) n ≡ Some x
behind-all [] x zero e = refl
behind-all [] x (suc n) e = absurd (omega (arith, e))
behind-all (y ∷ xs) x zero e = absurd (omega (arith, e))
behind-all (y ∷ xs) x (suc n) e = behind-all xs x n (omega (arith, e))

abbrev read_more : State → PreparedValue → State
read_more state group = record state { list = state.list ++ group ∷ [] }

-- a group of the next number is read
read-next : (state : State) (group : PreparedValue) → group.number ≡ suc (length state.list) → state_after state (offer group) ≡ read_more state group
read-next state group number = by (nat_le group.number (length state.list)) refl
  where
    by : (b : Bool) → nat_le group.number (length state.list) ≡ b → state_after state (offer group) ≡ read_more state group
    by true e = absurd (let h = leb-true group.number (length state.list) e in omega (arith, h, number))
    by false e = rw e refl

-- the stream behind an offer that was made
offered-there : (feeds : List FeedValue) (old new : Meaning) (s : ℕ) (feed : FeedValue) (group : PreparedValue) (answer : Answer) (state : State)
    → slice_get feeds s ≡ Some feed → prepared_at feed group.number ≡ Ok group → slice_get old.streams s ≡ Some state → IsReply feeds old (s, Offer group.number) (Ok answer) new
    → slice_get new.streams s ≡ Some (state_after state (offer group))
offered-there feeds old new s feed group answer state at prepared there h =
    let one : (feed : FeedValue) × (slice_get feeds s ≡ Some feed) × IsEventStep feed old s (Offer group.number) (Ok answer) new = answered_by feeds old (s, Offer group.number) answer new h in
    let same : one.0 ≡ feed = same_Some one.0 feed (sym one.1 ∙ at) in
    let of : (got : PreparedValue) × (prepared_at one.0 group.number ≡ Ok got) × (offer got ≡ one.2.event) = of_offer one.0 group.number one.2.event one.2.of_step in
    let is : Some group ≡ Some of.0 = ap (λ (x : Result PreparedValue FeedFault). result_ok x) (sym prepared ∙ ap (λ (f : FeedValue). prepared_at f group.number) (sym same) ∙ of.1) in
    let event : one.2.event ≡ offer group = sym of.2 ∙ ap offer (sym (same_Some group of.0 is)) in
    let made : IsMade old s one.2.event answer new = one.2.stepped in
    let mine : made.state ≡ state = same_Some made.state state (sym made.stream ∙ there) in
    ap (λ (xs : List State). slice_get xs s) made.streams
    ∙ slice_get-set_same old.streams s (state_after made.state one.2.event) made.state made.stream
    ∙ ap (λ (x : State). Some (state_after x one.2.event)) mine
    ∙ ap (λ (x : Event). Some (state_after state x)) event

left-same : (marks marks_of : Marks) (plan : PlanValue) (group : PreparedValue) (key : KeyValue) → marks_of ≡ marks → group.plan ≡ plan
    → left_by marks_of group key ≡ option_map (option_map (kept_of plan key)) (passed_by marks group key)
left-same marks marks_of plan group key same is =
    ap (λ (m : Marks). left_by m group key) same ∙ ap (λ (p : PlanValue). option_map (option_map (kept_of p key)) (passed_by marks group key)) is

module _ (fed : Fed) (most : ℕ) (old new : Gone) (s : ℕ) (ready : Ready) (on : IsOnRound fed most old) (may : MayTakeIn fed most old s (arc_value ready.group).number) (is_ready : IsReady fed s ready) (fed_now : IsFedBoard fed.feeds old.board)
    (step : IsStepOn fed.feeds s (Offer (arc_value ready.group).number) true old new) where
  abbrev group : PreparedValue
  group = arc_value ready.group

  -- the stream has read it
  has-read : slice_get new.board.streams s ≡ Some (read_more may.state group)
  has-read =
      offered-there fed.feeds old.board new.board s is_ready.feed group step.0.0 may.state is_ready.fed_by is_ready.prepared may.there step.0.1
      ∙ ap (λ (x : State). Some x) (read-next may.state group may.number)

  marks-same : (first : State) → slice_get fed.board.streams s ≡ Some first → first.marks ≡ may.state.marks
  marks-same first stood =
      let gone : HaveGoneOn fed.board old.board = moved-goes_on fed.feeds fed.board old.board on.begun.lawful on.moved in
      let one : HasGoneOn first may.state = gone.each s first may.state stood may.there in
      sym one.marks

  plan-same : group.plan ≡ may.state.plan
  plan-same = subst (λ (o : Option State). IfSome o (λ state. group.plan ≡ state.plan)) may.there (group-plan fed.feeds old.board fed_now s is_ready.feed is_ready.fed_by group is_ready.prepared)

  -- what it puts is what the stream's next advance does
  puts-do : (first : State) → slice_get fed.board.streams s ≡ Some first → DoAsStep (read_more may.state group) advance ready.puts.changes.items
  puts-do first stood key =
      let puts : last_at key_cmp ready.puts.changes.items key ≡ left_by first.marks group key
      = subst (λ (o : Option State). IfSome o (λ state. (key : KeyValue) → last_at key_cmp ready.puts.changes.items key ≡ left_by state.marks group key)) stood is_ready.puts key in
      puts
      ∙ left-same may.state.marks first.marks may.state.plan group key (marks-same first stood) plan-same
      ∙ sym (ap (λ (o : Option PreparedValue). option_map (option_map (kept_of may.state.plan key)) (option_and_then (λ (g : PreparedValue). passed_by may.state.marks g key) o)) (behind-all may.state.list group may.state.applied may.applied))

  pub puts-there : (first : State) → slice_get fed.board.streams s ≡ Some first → IfSome (slice_get new.board.streams s) (λ state. DoAsStep state advance ready.puts.changes.items)
  puts-there first stood = subst (λ (o : Option State). IfSome o (λ state. DoAsStep state advance ready.puts.changes.items)) (sym has-read) (puts-do first stood)

-- ---- the board's calls on a board on its round

module _ (fed : Fed) (most : ℕ) (old now new : Gone) (s : ℕ) (on : IsOnRound fed most old) (seen : old ≡ now) (runs : Runs now s) (first : new.first ≡ old.first) where
  -- the feed of a stream that isn't stopped
  feed-here : (feed : FeedValue) × (slice_get fed.feeds s ≡ Some feed)
  feed-here =
      let here : slice_get old.stopped s ≡ Some None = ap (λ (g : Gone). slice_get g.stopped s) seen ∙ runs in
      let less = slice_get_within old.stopped s None here in
      place_of fed.feeds s (omega (arith, less, on.count))

  prepared-here : (group : PreparedValue) → IfSome (slice_get fed.feeds s) (λ feed. prepared_at feed group.number ≡ Ok group) → prepared_at feed-here.0 group.number ≡ Ok group
  prepared-here group h = subst (λ (o : Option FeedValue). IfSome o (λ feed. prepared_at feed group.number ≡ Ok group)) feed-here.1 h

  pub offered-plan : (group : PreparedValue) → IfSome (slice_get fed.feeds s) (λ feed. prepared_at feed group.number ≡ Ok group) → IfSome (slice_get old.board.streams s) (λ state. group.plan ≡ state.plan)
  offered-plan group h = group-plan fed.feeds old.board (fed-now fed most old on) s feed-here.0 feed-here.1 group (prepared-here group h)

  no-room : (n : ℕ) → Offer n ≡ Advance → MayApply most fed.board now.board s
  no-room n e = cc

  pub offered-ok : {X : Type 0} (group : PreparedValue) (answer : X → Answer) (r : Result X Refusal) (x : X) → r ≡ Ok x → IfSome (slice_get fed.feeds s) (λ feed. prepared_at feed group.number ≡ Ok group)
      → IsStep old.board s (offer group) (answered answer r) new.board → new.stopped ≡ old.stopped → Stepped fed most s (Offer group.number) true now new
  offered-ok group answer r x is h step stopped =
      stepped-ok fed most old now new s (Offer group.number) fed.feeds (by_board answer r) (answer x) refl (ap (by_board answer) is)
      (offer-replies fed.feeds old.board (fed-now fed most old on) s feed-here.0 feed-here.1 new.board group answer (prepared-here group h) r step) seen on tt runs (no-room group.number) first stopped

  pub offered-err : {X : Type 0} (group : PreparedValue) (answer : X → Answer) (r : Result X Refusal) (refusal : Refusal) → r ≡ Err refusal → IfSome (slice_get fed.feeds s) (λ feed. prepared_at feed group.number ≡ Ok group)
      → IsStep old.board s (offer group) (answered answer r) new.board → new.stopped ≡ set old.stopped s (Some (Refused refusal)) → Stepped fed most s (Offer group.number) false now new
  offered-err group answer r refusal is h step stopped =
      stepped-err fed most old now new s (Offer group.number) fed.feeds (by_board answer r) (Refused refusal) refl (ap (by_board answer) is)
      (offer-replies fed.feeds old.board (fed-now fed most old on) s feed-here.0 feed-here.1 new.board group answer (prepared-here group h) r step) seen on tt runs (no-room group.number) first stopped

  pub advanced-ok : {X : Type 0} (answer : X → Answer) (r : Result X Refusal) (x : X) → r ≡ Ok x → MayApply most fed.board now.board s → IsStep old.board s advance (answered answer r) new.board → new.stopped ≡ old.stopped
      → Stepped fed most s Advance true now new
  advanced-ok answer r x is room step stopped =
      stepped-ok fed most old now new s Advance fed.feeds (by_board answer r) (answer x) refl (ap (by_board answer) is)
      (advance-replies fed.feeds old.board (fed-now fed most old on) s feed-here.0 feed-here.1 new.board answer r step) seen on tt runs (λ e. room) first stopped

  pub advanced-err : {X : Type 0} (answer : X → Answer) (r : Result X Refusal) (refusal : Refusal) → r ≡ Err refusal → MayApply most fed.board now.board s → IsStep old.board s advance (answered answer r) new.board
      → new.stopped ≡ set old.stopped s (Some (Refused refusal)) → Stepped fed most s Advance false now new
  advanced-err answer r refusal is room step stopped =
      stepped-err fed most old now new s Advance fed.feeds (by_board answer r) (Refused refusal) refl (ap (by_board answer) is)
      (advance-replies fed.feeds old.board (fed-now fed most old on) s feed-here.0 feed-here.1 new.board answer r step) seen on tt runs (λ e. room) first stopped

-- ---- a group that stands ready is taken in

module _ (fed : Fed) (most : ℕ) (old new : Gone) (s n : ℕ) (ready : Ready) (on : IsOnRound fed most old) (still : IsOnRound fed most new) (may : MayTakeIn fed most old s n) (next : n ≡ (arc_value ready.group).number) (is_ready : IsReady fed s ready)
    (made : Bool) (step : IsStepOn fed.feeds s (Offer (arc_value ready.group).number) made old new) (holds : made ≡ true) where
  was-made : IsStepOn fed.feeds s (Offer (arc_value ready.group).number) true old new
  was-made = subst (λ (b : Bool). IsStepOn fed.feeds s (Offer (arc_value ready.group).number) b old new) holds step

  pub taken-runs : Runs new s
  taken-runs = step-runs fed.feeds s (Offer (arc_value ready.group).number) old new may.runs was-made

  pub taken-room : MayApply most fed.board new.board s
  taken-room = may-still fed most old new on still s (offer-none fed.feeds s (arc_value ready.group).number true old new was-made) may.room

  pub taken-puts : IfSome (slice_get new.board.streams s) (λ state. DoAsStep state advance ready.puts.changes.items)
  taken-puts =
      let less : s < length fed.feeds = slice_get_within fed.feeds s is_ready.feed is_ready.fed_by in
      let first : (x : State) × (slice_get fed.board.streams s ≡ Some x) = place_of fed.board.streams s (let count = on.begun.count in omega (arith, less, count)) in
      puts-there fed most old new s ready on (subst (λ (m : ℕ). MayTakeIn fed most old s m) next may) is_ready (fed-now fed most old on) was-made first.0 first.1

-- ---- a group that is prepared beside the board

pub stands-ready : (fed : Fed) (s n : ℕ) (feeds : List FeedValue) (feed : FeedValue) (marks : Marks) (ready : Ready) → feeds ≡ fed.feeds → s < length fed.feeds → feed ≡ get_or feeds s feed → prepared_at feed n ≡ Ok (arc_value ready.group) → (arc_value ready.group).number ≡ n
    → option_map (λ (state : State). state.marks) (slice_get fed.board.streams s) ≡ Some marks → ((key : KeyValue) → last_at key_cmp ready.puts.changes.items key ≡ left_by marks (arc_value ready.group) key) → IsReady fed s ready
stands-ready fed s n feeds feed marks ready same less is prepared number begun puts = record {
  feed = feed;
  fed_by = read-at fed.feeds feeds s feed same (subst (λ (fs : List FeedValue). s < length fs) (sym same) less) is;
  prepared = ap (prepared_at feed) number ∙ prepared;
  puts = by (slice_get fed.board.streams s) begun;
}
  where
    by : (o : Option State) → option_map (λ (state : State). state.marks) o ≡ Some marks → IfSome o (λ state. (key : KeyValue) → last_at key_cmp ready.puts.changes.items key ≡ left_by state.marks (arc_value ready.group) key)
    by None e = tt
    by (Some state) e = λ key. puts key ∙ ap (λ (m : Marks). left_by m (arc_value ready.group) key) (sym (same_Some state.marks marks e))
