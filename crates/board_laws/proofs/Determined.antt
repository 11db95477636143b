-- A step has one reply, want of memory aside, and so has a run.
use Rattle.std.proofs.Common.{◌≡◌, ◌≢◌, ℕ, ◌+◌, ◌≤◌, inl, inr, true, false, List, [], ◌∷◌, length, Option, Some, None, Result, Ok, Err, Ordering, slice_get, set, refl, sym, ap, subst, ◌∙◌, arith}
use Rattle.std.proofs.lemmas.Bool.{true≢false}
use Rattle.std.proofs.lemmas.Option.{same_Some, none-some}
use Rattle.std.specs.declared.cmp.Ordering.TheVariants.{Less, Equal, Greater}
use Rattle.std.specs.Prelude.{MatchOption, IsOk}
use Rattle.std.specs.Option.{option_map}
use Rattle.std.specs.Ordering.{ordering_reverse}
use Rattle.std.specs.Result.{result_ok}
use Rattle.pk_copy.specs.KeyOrder.{key_cmp}
use Rattle.pk_copy.specs.KeyOrderLaws.{key_cmp_total}
use Rattle.pk_copy.specs.KeyValue.{KeyValue}
use Rattle.stream_core.specs.declared.step.Step.{Step}
use Rattle.stream_core.specs.declared.step.Step.TheVariants.{Offer, Advance, OpenAt, CopyRows, Close, Restart}
use Rattle.target_tables.specs.Contents.{value_at}
use Rattle.target_tables.specs.Touches.{owner_in_the_way, IsLeastClash}
use Rattle.source_feed.specs.declared.fault.FeedFault.{FeedFault}
use Rattle.source_feed.specs.Planned.{FeedValue}
use Rattle.source_feed.specs.Touches.{PreparedValue}
use Rattle.board_laws.specs.declared.answer.Answer.{Answer}
use Rattle.board_laws.specs.declared.refusal.Refusal.{Refusal}
use Rattle.board_laws.specs.declared.refusal.Refusal.TheVariants.{NoStream, WrongPlan, Diverged, Core, OwnedByOther, FeedCount, Memory}
use Rattle.board_laws.specs.declared.step_refusal.StepRefusal.{StepRefusal}
use Rattle.board_laws.specs.declared.step_refusal.StepRefusal.TheVariants.{Unprepared, Refused}
use Rattle.board_laws.specs.Meaning.{State, Meaning}
use Rattle.board_laws.specs.Lawful.{IsLawful}
use Rattle.board_laws.specs.Event.{Event, offer, advance, open_at, copy_rows, close, restart}
use Rattle.board_laws.specs.StateAfter.{answer_to, state_after}
use Rattle.board_laws.specs.Allowed.{IsDiverged, IsInPlace}
use Rattle.board_laws.specs.Step.{due_at, IsMade, IsRefusedFor, IsRefusedOn}
use Rattle.board_laws.specs.Runs.{event_of_step}
use Rattle.board_laws.specs.Schedule.{Reply, IsUnprepared, IsEventStep, IsRefusedStep, IsReplyBy, feed_of, unfed, IsReply, IsRun}
use Rattle.board_laws.specs.RunLaws.{NoneWantsMemory}
use Rattle.board_laws.proofs.Lookups.{Ties}
use Rattle.board_laws.proofs.Following.{refused_by, answered, feed_of-there, unchanged, answered_by, one-lawful, same-board}

-- ---- refusals of one step

-- a group isn't of another history and in its place
not_both : (state : State) (event : Event) → IsDiverged state event → IsInPlace state event → ⊥
not_both state (offer group) d p =
    elim d [
      | inl there ↦ elim p [ inl read ↦ there.1 read.same | inr next ↦ (let n : group.number ≡ length state.list + 1 = next.number in let m : group.number ≤ length state.list = there.0 in absurd (omega arith)) ]
      | inr behind ↦ elim p [ inl read ↦ (let n : group.number ≡ length state.list + 1 = behind.0 in let m : group.number ≤ length state.list = read.within in absurd (omega arith)) | inr next ↦ behind.1 next.growing ]
    ]
not_both state advance d p = d
not_both state (open_at m) d p = d
not_both state (copy_rows c) d p = d
not_both state close d p = d
not_both state restart d p = d

not_ok : {A E : Type 0} (r : Result A E) (x : E) → r ≡ Err x → IsOk r → ⊥
not_ok r x e ok = true≢false (sym (subst IsOk e ok))

same_error : {A E : Type 0} (r : Result A E) (x y : E) → r ≡ Err x → r ≡ Err y → x ≡ y
same_error r x y e f = cc

module _ (ties : Ties) (old : Meaning) (s : ℕ) (state : State) (event : Event) where
  abbrev way_at : KeyValue → Option ℕ
  way_at key = owner_in_the_way s (due_at (state_after state event) key) (value_at key_cmp old.rows key)

  -- there is one least clash
  one_clash : (k q : KeyValue) (owner other : ℕ) → IsLeastClash key_cmp old.rows s (due_at (state_after state event)) k owner → IsLeastClash key_cmp old.rows s (due_at (state_after state event)) q other
      → OwnedByOther k owner ≡ OwnedByOther q other
  one_clash k q owner other a b = by (key_cmp k q) refl
    where
      by : (r : Ordering) → key_cmp k q ≡ r → OwnedByOther k owner ≡ OwnedByOther q other
      by Less e = absurd (none-some owner (sym (b.none_less k e) ∙ a.here))
      by Equal e =
          let key : k ≡ q = ties k q e in
          let owners : owner ≡ other = same_Some owner other (sym a.here ∙ ap way_at key ∙ b.here) in
          ap (λ (x : KeyValue). OwnedByOther x owner) key ∙ ap (OwnedByOther q) owners
      by Greater e = absurd (none-some other (sym (a.none_less q (key_cmp_total.antisymm q k ∙ ap ordering_reverse e)) ∙ b.here))

  one_refusal : (a b : Refusal) → IsRefusedFor old s state event a → IsRefusedFor old s state event b → a ≢ Memory → b ≢ Memory → a ≡ b
  one_refusal NoStream b h k m n = absurd h
  one_refusal FeedCount b h k m n = absurd h
  one_refusal Memory b h k m n = absurd (m refl)
  one_refusal WrongPlan NoStream h k m n = absurd k
  one_refusal WrongPlan FeedCount h k m n = absurd k
  one_refusal WrongPlan Memory h k m n = absurd (n refl)
  one_refusal WrongPlan WrongPlan h k m n = refl
  one_refusal WrongPlan Diverged h k m n = absurd (h k.0)
  one_refusal WrongPlan (Core r) h k m n = absurd (h k.plan)
  one_refusal WrongPlan (OwnedByOther key owner) h k m n = absurd (h k.allowed.plan)
  one_refusal Diverged NoStream h k m n = absurd k
  one_refusal Diverged FeedCount h k m n = absurd k
  one_refusal Diverged Memory h k m n = absurd (n refl)
  one_refusal Diverged WrongPlan h k m n = absurd (k h.0)
  one_refusal Diverged Diverged h k m n = refl
  one_refusal Diverged (Core r) h k m n = absurd (k.history h.1)
  one_refusal Diverged (OwnedByOther key owner) h k m n = absurd (not_both state event h.1 k.allowed.place)
  one_refusal (Core r) NoStream h k m n = absurd k
  one_refusal (Core r) FeedCount h k m n = absurd k
  one_refusal (Core r) Memory h k m n = absurd (n refl)
  one_refusal (Core r) WrongPlan h k m n = absurd (k h.plan)
  one_refusal (Core r) Diverged h k m n = absurd (h.history k.1)
  one_refusal (Core r) (Core q) h k m n = ap Core (same_error _ r q h.table k.table)
  one_refusal (Core r) (OwnedByOther key owner) h k m n = absurd (not_ok _ r h.table k.allowed.table)
  one_refusal (OwnedByOther key owner) NoStream h k m n = absurd k
  one_refusal (OwnedByOther key owner) FeedCount h k m n = absurd k
  one_refusal (OwnedByOther key owner) Memory h k m n = absurd (n refl)
  one_refusal (OwnedByOther key owner) WrongPlan h k m n = absurd (k h.allowed.plan)
  one_refusal (OwnedByOther key owner) Diverged h k m n = absurd (not_both state event k.1 h.allowed.place)
  one_refusal (OwnedByOther key owner) (Core r) h k m n = absurd (not_ok _ r k.table h.allowed.table)
  one_refusal (OwnedByOther key owner) (OwnedByOther q other) h k m n = one_clash key q owner other h.least k.least

-- a step that is made isn't refused
made-not_refused : (old : Meaning) (s : ℕ) (event : Event) (answer : Answer) (new : Meaning) (refusal : Refusal) → IsMade old s event answer new → IsRefusedOn old s event refusal → refusal ≢ Memory → ⊥
made-not_refused old s event answer new refusal made h m =
    by refusal (subst (λ (o : Option State). MatchOption o (refusal ≡ NoStream) (λ state. IsRefusedFor old s state event refusal)) made.stream h) m
  where
    by : (refusal : Refusal) → IsRefusedFor old s made.state event refusal → refusal ≢ Memory → ⊥
    by NoStream h m = h
    by WrongPlan h m = h made.allowed.plan
    by Diverged h m = not_both made.state event h.1 made.allowed.place
    by (Core r) h m = not_ok _ r h.table made.allowed.table
    by (OwnedByOther key owner) h m = none-some owner (sym (made.clear key) ∙ h.least.here)
    by FeedCount h m = h
    by Memory h m = m refl

-- ---- one step

-- a refusal that isn't want of memory, as one of an event
as_event : (feed : FeedValue) (old : Meaning) (s : ℕ) (step : Step) (refusal : Refusal) (new : Meaning) → IsRefusedStep feed old s step refusal new → refusal ≢ Memory → IsEventStep feed old s step (Err refusal) new
as_event feed old s step NoStream new h m = h
as_event feed old s step WrongPlan new h m = h
as_event feed old s step Diverged new h m = h
as_event feed old s step (Core r) new h m = h
as_event feed old s step (OwnedByOther key owner) new h m = h
as_event feed old s step FeedCount new h m = h
as_event feed old s step Memory new h m = absurd (m refl)

unprepared-no_event : (feed : FeedValue) (step : Step) (fault : FeedFault) (event : Event) → IsUnprepared feed step fault → event_of_step feed step ≡ Some event → ⊥
unprepared-no_event feed (Offer n) fault event h e = none-some event (sym (ap (λ (r : Result PreparedValue FeedFault). option_map offer (result_ok r)) h) ∙ e)
unprepared-no_event feed Advance fault event h e = h
unprepared-no_event feed (OpenAt m) fault event h e = h
unprepared-no_event feed (CopyRows c) fault event h e = h
unprepared-no_event feed Close fault event h e = h
unprepared-no_event feed Restart fault event h e = h

one_fault : (feed : FeedValue) (step : Step) (f g : FeedFault) → IsUnprepared feed step f → IsUnprepared feed step g → f ≡ g
one_fault feed (Offer n) f g h k = same_error _ f g h k
one_fault feed Advance f g h k = absurd h
one_fault feed (OpenAt m) f g h k = absurd h
one_fault feed (CopyRows c) f g h k = absurd h
one_fault feed Close f g h k = absurd h
one_fault feed Restart f g h k = absurd h

-- why a step isn't made, want of memory aside
abbrev pub NotMemory : Reply → Type 0
NotMemory reply = reply ≢ refused_by (Refused Memory)

module _ (ties : Ties) (old : Meaning) (lawful : IsLawful old) where
  same_event : (feed : FeedValue) (step : Step) (e f : Event) → event_of_step feed step ≡ Some e → event_of_step feed step ≡ Some f → e ≡ f
  same_event feed step e f a b = same_Some e f (sym a ∙ b)

  one_made : (s : ℕ) (event : Event) (a b : Answer) (one other : Meaning) → IsMade old s event a one → IsMade old s event b other → (answered a ≡ answered b) × (one ≡ other)
  one_made s event a b one other m k =
      let state : m.state ≡ k.state = same_Some m.state k.state (sym m.stream ∙ k.stream) in
      let answers : a ≡ b = m.answered ∙ ap (λ x. answer_to x event) state ∙ sym k.answered in
      let streams : one.streams ≡ other.streams = m.streams ∙ ap (λ x. set old.streams s (state_after x event)) state ∙ sym k.streams in
      (ap answered answers, same-board ties one other m.lawful k.lawful streams)

  not_refused : (feed : FeedValue) (s : ℕ) (step : Step) (a : Answer) (r : StepRefusal) (one other : Meaning) → IsEventStep feed old s step (Ok a) one → IsReplyBy feed old s step (Err r) other → NotMemory (refused_by r) → ⊥
  not_refused feed s step a (Unprepared fault) one other h k m = unprepared-no_event feed step fault h.event k.0 h.of_step
  not_refused feed s step a (Refused r) one other h k m =
      let free : r ≢ Memory = λ e. m (ap (λ x. refused_by (Refused x)) e) in
      let refused : IsEventStep feed old s step (Err r) other = as_event feed old s step r other k free in
      let same : refused.event ≡ h.event = same_event feed step refused.event h.event refused.of_step h.of_step in
      made-not_refused old s h.event a one r h.stepped (subst (λ e. IsRefusedOn old s e r) same refused.stepped.0) free

  one_refused : (feed : FeedValue) (s : ℕ) (step : Step) (r q : StepRefusal) (one other : Meaning) → IsReplyBy feed old s step (Err r) one → IsReplyBy feed old s step (Err q) other
      → NotMemory (refused_by r) → NotMemory (refused_by q) → r ≡ q
  one_refused feed s step (Unprepared f) (Unprepared g) one other h k m n = ap Unprepared (one_fault feed step f g h.0 k.0)
  one_refused feed s step (Unprepared f) (Refused q) one other h k m n =
      let refused : IsEventStep feed old s step (Err q) other = as_event feed old s step q other k (λ e. n (ap (λ x. refused_by (Refused x)) e)) in
      absurd (unprepared-no_event feed step f refused.event h.0 refused.of_step)
  one_refused feed s step (Refused r) (Unprepared g) one other h k m n =
      let refused : IsEventStep feed old s step (Err r) one = as_event feed old s step r one h (λ e. m (ap (λ x. refused_by (Refused x)) e)) in
      absurd (unprepared-no_event feed step g refused.event k.0 refused.of_step)
  one_refused feed s step (Refused r) (Refused q) one other h k m n =
      let free : r ≢ Memory = λ e. m (ap (λ x. refused_by (Refused x)) e) in
      let also : q ≢ Memory = λ e. n (ap (λ x. refused_by (Refused x)) e) in
      let a : IsEventStep feed old s step (Err r) one = as_event feed old s step r one h free in
      let b : IsEventStep feed old s step (Err q) other = as_event feed old s step q other k also in
      let same : b.event ≡ a.event = same_event feed step b.event a.event b.of_step a.of_step in
      ap Refused (by a.event free also (slice_get old.streams s) a.stepped.0 (subst (λ e. IsRefusedOn old s e q) same b.stepped.0))
    where
      by : (event : Event) → r ≢ Memory → q ≢ Memory → (o : Option State) → MatchOption o (r ≡ NoStream) (λ state. IsRefusedFor old s state event r) → MatchOption o (q ≡ NoStream) (λ state. IsRefusedFor old s state event q) → r ≡ q
      by event free also None a b = a ∙ sym b
      by event free also (Some state) a b = one_refusal ties old s state event r q a b free also

  -- a step has one reply, and leaves one board
  one_reply : (feeds : List FeedValue) (step : ℕ × Step) (a b : Reply) (one other : Meaning) → IsReply feeds old step a one → IsReply feeds old step b other → NotMemory a → NotMemory b → (a ≡ b) × (one ≡ other)
  one_reply feeds step (Ok a) (Ok b) one other h k m n =
      let x : (feed : FeedValue) × (slice_get feeds step.0 ≡ Some feed) × IsEventStep feed old step.0 step.1 (Ok a) one = answered_by feeds old step a one h in
      let y : (feed : FeedValue) × (slice_get feeds step.0 ≡ Some feed) × IsEventStep feed old step.0 step.1 (Ok b) other = answered_by feeds old step b other k in
      let feed : y.0 ≡ x.0 = same_Some y.0 x.0 (sym y.1 ∙ x.1) in
      let same : y.2.event ≡ x.2.event = same_event x.0 step.1 y.2.event x.2.event (ap (λ f. event_of_step f step.1) (sym feed) ∙ y.2.of_step) x.2.of_step in
      one_made step.0 x.2.event a b one other x.2.stepped (subst (λ e. IsMade old step.0 e b other) same y.2.stepped)
  one_reply feeds step (Ok a) (Err q) one other h k m n =
      let x : (feed : FeedValue) × (slice_get feeds step.0 ≡ Some feed) × IsEventStep feed old step.0 step.1 (Ok a) one = answered_by feeds old step a one h in
      absurd (not_refused x.0 step.0 step.1 a q one other x.2 (subst (λ (o : Option FeedValue). MatchOption o ((refused_by q ≡ refused_by (Refused (unfed old step.0))) × (other ≡ old)) (λ feed. IsReplyBy feed old step.0 step.1 (Err q) other))
      (feed_of-there feeds old step.0 x.2.stepped.state x.0 x.2.stepped.stream x.1) k) n)
  one_reply feeds step (Err r) (Ok b) one other h k m n =
      let y : (feed : FeedValue) × (slice_get feeds step.0 ≡ Some feed) × IsEventStep feed old step.0 step.1 (Ok b) other = answered_by feeds old step b other k in
      absurd (not_refused y.0 step.0 step.1 b r other one y.2 (subst (λ (o : Option FeedValue). MatchOption o ((refused_by r ≡ refused_by (Refused (unfed old step.0))) × (one ≡ old)) (λ feed. IsReplyBy feed old step.0 step.1 (Err r) one))
      (feed_of-there feeds old step.0 y.2.stepped.state y.0 y.2.stepped.stream y.1) h) m)
  one_reply feeds step (Err r) (Err q) one other h k m n =
      (by (feed_of feeds old step.0) h k, unchanged feeds old step r one h ∙ sym (unchanged feeds old step q other k))
    where
      by : (o : Option FeedValue) → MatchOption o ((refused_by r ≡ refused_by (Refused (unfed old step.0))) × (one ≡ old)) (λ feed. IsReplyBy feed old step.0 step.1 (Err r) one)
          → MatchOption o ((refused_by q ≡ refused_by (Refused (unfed old step.0))) × (other ≡ old)) (λ feed. IsReplyBy feed old step.0 step.1 (Err q) other) → refused_by r ≡ refused_by q
      by None h k = h.0 ∙ sym k.0
      by (Some feed) h k = ap refused_by (one_refused feed step.0 step.1 r q one other h k m n)

-- ---- a run

pub one_run : (ties : Ties) (feeds : List FeedValue) (old one other : Meaning) (steps : List (ℕ × Step)) (replies others : List Reply) → IsLawful old
    → IsRun feeds old steps replies one → IsRun feeds old steps others other → NoneWantsMemory replies → NoneWantsMemory others → (replies ≡ others) × (one ≡ other)
one_run ties feeds old one other [] [] [] lawful h k m n = (refl, h ∙ sym k)
one_run ties feeds old one other [] (a ∷ replies) others lawful h k m n = elim h [ ]
one_run ties feeds old one other [] [] (b ∷ others) lawful h k m n = elim k [ ]
one_run ties feeds old one other (step ∷ steps) [] others lawful h k m n = elim h [ ]
one_run ties feeds old one other (step ∷ steps) (a ∷ replies) [] lawful h k m n = elim k [ ]
one_run ties feeds old one other (step ∷ steps) (a ∷ replies) (b ∷ others) lawful h k m n =
    let first : (a ≡ b) × (h.0 ≡ k.0) = one_reply ties old lawful feeds step a b h.0 k.0 h.1 k.1 m.0 n.0 in
    let rest : (replies ≡ others) × (one ≡ other)
    = one_run ties feeds h.0 one other steps replies others (one-lawful feeds old step a h.0 h.1 lawful) h.2 (subst (λ (x : Meaning). IsRun feeds x steps others other) (sym first.1) k.2) m.1 n.1 in
    (ap (λ (x : Reply). x ∷ replies) first.0 ∙ ap (λ (xs : List Reply). b ∷ xs) rest.0, rest.1)
