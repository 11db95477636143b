-- The steps on a stream's course: nothing in the stream's own state is against them, and each leads on.
use Rattle.std.proofs.Common.{◌≡◌, ℕ, zero, suc, ◌+◌, ◌-◌, ◌*◌, ◌<◌, ◌≤◌, inl, inr, Bool, true, false, cond, not, List, [], ◌∷◌, ◌++◌, length, map, take, Option, Some, None, Result, Ok, Err, slice_get, is_ok, refl, sym, ap, subst, ◌∙◌, arith}
use Rattle.std.proofs.lemmas.Bool.{true≢false, le-ltb, ne_eqb}
use Rattle.std.proofs.lemmas.List.{length-append}
use Rattle.std.proofs.lemmas.Option.{same_Some, none-some, slice_get-map, slice_get_within}
use borrow.Author.Tests.{eq-eqb, leb-true}
use Rattle.std.specs.Prelude.{nat_le, IsOk, is_some}
use Rattle.std.specs.Option.{option_map, option_map_or}
use Rattle.std.specs.Result.{result_ok, ok_prefix}
use Rattle.stream_core.specs.declared.step.Step.{Step}
use Rattle.stream_core.specs.declared.step.Step.TheVariants.{Offer, Advance, OpenAt, CopyRows, Close, Restart}
use Rattle.stream_core.specs.Standing.{is_open_at}
use Rattle.stream_core.specs.Rows.{first_standing, NoneStands}
use Rattle.stream_core.specs.StepTable.{row_of}
use Rattle.list_laws.specs.Outcome.{◌>>=◌}
use Rattle.source_feed.specs.declared.fault.FeedFault.{FeedFault}
use Rattle.source_feed.specs.GroupOrder.{IsProperPart}
use Rattle.source_feed.specs.GroupValue.{Position}
use Rattle.source_feed.specs.Planned.{PlannedGroupValue, FeedValue, IsFeed}
use Rattle.source_feed.specs.SoundGroups.{sound_groups}
use Rattle.source_feed.specs.Touches.{TouchValue, PreparedValue, touches_of, group_at, prepared, prepared_if, prepared_at}
use Rattle.board_laws.specs.declared.refusal.Refusal.{Refusal}
use Rattle.board_laws.specs.declared.refusal.Refusal.TheVariants.{NoStream, WrongPlan, Diverged, Core, OwnedByOther, FeedCount, Memory}
use Rattle.board_laws.specs.Meaning.{State, Meaning}
use Rattle.board_laws.specs.Lawful.{standing_of, IsSoundState}
use Rattle.board_laws.specs.Event.{Event, offer, advance, open_at, copy_rows, close, restart, step_of}
use Rattle.board_laws.specs.StateAfter.{state_after}
use Rattle.board_laws.specs.Allowed.{last_position, IsAllowed, IsDiverged, IsInPlace}
use Rattle.board_laws.specs.Step.{IsRefusedFor}
use Rattle.board_laws.specs.Reading.{ReadsFeed}
use Rattle.board_laws.specs.Runs.{event_of_step}
use Rattle.board_laws.proofs.Lookups.{Ties}
use Rattle.board_laws.proofs.Sound.{copying}
use Rattle.apply_core.specs.Ended.{HasEnded}
use Rattle.apply_core.specs.RunRefused.{IsFirstUnsoundGroup}
use Rattle.apply_core.specs.Courses.{LeadsOn, IsAtEnd, turns, left_of}
use Rattle.apply_core.proofs.StepsComeNearer.{copy-less, read-most, less-left, same-left, read-nearer, open-nearer, close-nearer}

-- ---- the group that is read next

pub plus_one : (n : ℕ) → n + 1 ≡ suc n
plus_one n = omega arith

abbrev good : PreparedValue → Result PreparedValue FeedFault
good group = Ok group

abbrev bad : FeedFault → Result PreparedValue FeedFault
bad fault = Err fault

abbrev of_touches : (feed : FeedValue) → PlannedGroupValue → List TouchValue → PreparedValue
of_touches feed planned touches = record { plan = feed.plan; number = planned.number; position = planned.position; touches = touches }

-- a prepared group is of the feed's plan, and has the number and the position of the feed's group
pub record IsOf (feed : FeedValue) (planned : PlannedGroupValue) (group : PreparedValue) : Type 0 where
  pub plan : group.plan ≡ feed.plan
  pub number : group.number ≡ planned.number
  pub position : group.position ≡ planned.position

of_group : (feed : FeedValue) (planned : PlannedGroupValue) (group : PreparedValue) → prepared feed.plan planned ≡ Ok group → IsOf feed planned group
of_group feed planned group h = by (touches_of feed.plan planned.number planned.changes) h
  where
    by : (r : Result (List TouchValue) FeedFault) → (r >>= λ touches. good (of_touches feed planned touches)) ≡ good group → IsOf feed planned group
    by (Ok touches) e =
        let same : of_touches feed planned touches ≡ group = same_Some (of_touches feed planned touches) group (ap result_ok e) in
        record { plan = sym (ap (λ (g : PreparedValue). g.plan) same); number = sym (ap (λ (g : PreparedValue). g.number) same); position = sym (ap (λ (g : PreparedValue). g.position) same) }
    by (Err fault) e = absurd (none-some group (ap result_ok e))

-- a group of a feed that is prepared stands there
pub at_number : (feed : FeedValue) (i : ℕ) (r : Result PreparedValue FeedFault) → i < length feed.groups → prepared_at feed (suc i) ≡ r
    → (planned : PlannedGroupValue) × (slice_get feed.groups i ≡ Some planned) × (prepared feed.plan planned ≡ r)
at_number feed i r less h = by (slice_get feed.groups i) refl h
  where
    missing : {A : Type 0} (xs : List A) (i : ℕ) → i < length xs → slice_get xs i ≡ None → ⊥
    missing [] i less e = omega (arith, less)
    missing (x ∷ xs) zero less e = none-some x (sym e)
    missing (x ∷ xs) (suc i) less e = missing xs i (omega (arith, less)) e

    by : (o : Option PlannedGroupValue) → slice_get feed.groups i ≡ o → prepared_if feed o ≡ r → (planned : PlannedGroupValue) × (slice_get feed.groups i ≡ Some planned) × (prepared feed.plan planned ≡ r)
    by None e h = absurd (missing feed.groups i less e)
    by (Some planned) e h = (planned, e, h)

-- which is of the feed's plan
pub prepared-plan : (feed : FeedValue) (n : ℕ) (group : PreparedValue) → prepared_at feed n ≡ good group → group.plan ≡ feed.plan
prepared-plan feed n group h = by (group_at feed n) h
  where
    by : (o : Option PlannedGroupValue) → prepared_if feed o ≡ good group → group.plan ≡ feed.plan
    by None e = absurd (none-some group (ap result_ok e))
    by (Some planned) e = (of_group feed planned group e).plan

abbrev Results : Type 0
Results = List (Result PreparedValue FeedFault)

-- an element of a front of the results before the first error is one of them
in_front : (xs : Results) (n i : ℕ) (x : PreparedValue) → slice_get (take n (ok_prefix xs)) i ≡ Some x → slice_get xs i ≡ Some (good x)
in_front [] zero i x e = absurd (none-some x e)
in_front [] (suc n) i x e = absurd (none-some x e)
in_front (Err f ∷ xs) zero i x e = absurd (none-some x e)
in_front (Err f ∷ xs) (suc n) i x e = absurd (none-some x e)
in_front (Ok y ∷ xs) zero i x e = absurd (none-some x e)
in_front (Ok y ∷ xs) (suc n) zero x e = ap (λ (z : PreparedValue). Some (good z)) (same_Some y x e)
in_front (Ok y ∷ xs) (suc n) (suc i) x e = in_front xs n i x e

abbrev is_good : Option (Result PreparedValue FeedFault) → Bool
is_good None = false
is_good (Some r) = is_ok r

-- an error behind a front of the results before the first error is the first
ends_there : (xs : Results) (n : ℕ) (f : FeedFault) → slice_get xs (length (take n (ok_prefix xs))) ≡ Some (bad f) → length (take n (ok_prefix xs)) ≡ length (ok_prefix xs)
ends_there [] zero f e = refl
ends_there [] (suc n) f e = refl
ends_there (Err g ∷ xs) zero f e = refl
ends_there (Err g ∷ xs) (suc n) f e = refl
ends_there (Ok x ∷ xs) zero f e = absurd (true≢false (ap is_good e))
ends_there (Ok x ∷ xs) (suc n) f e = ap suc (ends_there xs n f e)

module _ (feed : FeedValue) (state : State) (whole : IsFeed feed) (reads : ReadsFeed feed state) where
  -- the feed's group of an element of the read list
  read_at : (i : ℕ) (group : PreparedValue) → slice_get state.list i ≡ Some group → (planned : PlannedGroupValue) × (slice_get feed.groups i ≡ Some planned) × IsOf feed planned group
  read_at i group e = by (slice_get feed.groups i) refl (sym (slice_get-map (prepared feed.plan) feed.groups i) ∙ here)
    where
      here : slice_get (map (prepared feed.plan) feed.groups) i ≡ Some (Ok group)
      here = in_front (map (prepared feed.plan) feed.groups) reads.length_read i group (ap (λ (xs : List PreparedValue). slice_get xs i) (sym reads.list) ∙ e)

      by : (o : Option PlannedGroupValue) → slice_get feed.groups i ≡ o → option_map (prepared feed.plan) o ≡ Some (Ok group) → (planned : PlannedGroupValue) × (slice_get feed.groups i ≡ Some planned) × IsOf feed planned group
      by None at f = absurd (none-some (good group) f)
      by (Some planned) at f = (planned, at, of_group feed planned group (same_Some (prepared feed.plan planned) (good group) f))

  -- the next group's position goes on from the last one
  grows : (planned : PlannedGroupValue) → slice_get feed.groups (length state.list) ≡ Some planned → IsProperPart (last_position state.list) planned.position
  grows planned at = by (slice_get state.list (length state.list - 1)) refl
    where
      by : (o : Option PreparedValue) → slice_get state.list (length state.list - 1) ≡ o → IsProperPart (option_map_or (λ group. group.position) o []) planned.position
      by None e = whole.order.from_empty (length state.list) planned at
      by (Some last) e =
          let before : length state.list - 1 < length state.list = slice_get_within state.list (length state.list - 1) last e in
          let one : (p : PlannedGroupValue) × (slice_get feed.groups (length state.list - 1) ≡ Some p) × IsOf feed p last = read_at (length state.list - 1) last e in
          subst (λ (p : Position). IsProperPart p planned.position) (sym one.2.position) (whole.order.growing (length state.list - 1) (length state.list) one.0 planned before one.1 at)

  -- the fault of the next group is that of the first one that isn't sound
  pub first-unsound : (fault : FeedFault) → length state.list < length feed.groups → prepared_at feed (suc (length state.list)) ≡ Err fault → IsFirstUnsoundGroup feed fault
  first-unsound fault less h =
      let one : (planned : PlannedGroupValue) × (slice_get feed.groups (length state.list) ≡ Some planned) × (prepared feed.plan planned ≡ Err fault) = at_number feed (length state.list) (Err fault) less h in
      let read : length state.list ≡ length (take reads.length_read (sound_groups feed)) = ap (λ (xs : List PreparedValue). length xs) reads.list in
      let here : slice_get (map (prepared feed.plan) feed.groups) (length (take reads.length_read (sound_groups feed))) ≡ Some (Err fault)
      = ap (slice_get (map (prepared feed.plan) feed.groups)) (sym read)
      ∙ slice_get-map (prepared feed.plan) feed.groups (length state.list)
      ∙ ap (λ (o : Option PlannedGroupValue). option_map (prepared feed.plan) o) one.1
      ∙ ap (λ (r : Result PreparedValue FeedFault). Some r) one.2 in
      let end : length state.list ≡ length (sound_groups feed) = read ∙ ends_there (map (prepared feed.plan) feed.groups) reads.length_read fault here in
      record { group = one.0; place = ap (slice_get feed.groups) (sym end) ∙ one.1; refused = one.2 }

-- ---- the step table

answers : {A R : Type 0} (refusals : List (Bool × R)) (answer : A) → NoneStands refusals → IsOk (first_standing refusals answer)
answers [] answer h = refl
answers (refusal ∷ later) answer h = by refusal.0 h.0 (answers later answer h.1)
  where
    by : (b : Bool) → b ≡ false → IsOk (first_standing later answer) → IsOk (cond b (Err refusal.1) (first_standing later answer))
    by true e rest = absurd (true≢false e)
    by false e rest = rest

-- what an offer and every other step is as an event
pub of_offer : (feed : FeedValue) (n : ℕ) (event : Event) → event_of_step feed (Offer n) ≡ Some event → (group : PreparedValue) × (prepared_at feed n ≡ Ok group) × (offer group ≡ event)
of_offer feed n event h = by (prepared_at feed n) refl h
  where
    by : (r : Result PreparedValue FeedFault) → prepared_at feed n ≡ r → option_map offer (result_ok r) ≡ Some event → (group : PreparedValue) × (prepared_at feed n ≡ Ok group) × (offer group ≡ event)
    by (Ok group) e f = (group, e, same_Some (offer group) event f)
    by (Err fault) e f = absurd (none-some event f)

some-open : (o : Option ℕ) (m : ℕ) → o ≡ Some m → (not (is_some o) ≡ false) × (not (is_open_at m o) ≡ false)
some-open None m e = absurd (none-some m e)
some-open (Some x) m e = (refl, ap not (eq-eqb x m (same_Some x m e)))

none-open : (o : Option ℕ) → o ≡ None → is_some o ≡ false
none-open None e = refl
none-open (Some x) e = absurd (none-some x (sym e))

module _ (feed : FeedValue) (state : State) (whole : IsFeed feed) (reads : ReadsFeed feed state) (sound : IsSoundState state) (was is : ℕ) where
  abbrev Leads : Step → Type 0
  Leads step = LeadsOn (standing_of state) (length feed.groups) was is step

  -- the next group is offered
  module _ (n : ℕ) (leads : Leads (Offer n)) (group : PreparedValue) (h : prepared_at feed n ≡ Ok group) where
    next : (planned : PlannedGroupValue) × (slice_get feed.groups (length state.list) ≡ Some planned) × (prepared feed.plan planned ≡ Ok group)
    next = at_number feed (length state.list) (Ok group) leads.1 (ap (prepared_at feed) (sym (leads.0 ∙ plus_one (length state.list))) ∙ h)

    offered : IsOf feed next.0 group
    offered = of_group feed next.0 group next.2

    number : group.number ≡ length state.list + 1
    number = offered.number ∙ whole.order.numbered (length state.list) next.0 next.1

    allowed-offer : IsAllowed state (offer group)
    allowed-offer = record {
      plan = offered.plan ∙ sym reads.plan;
      place = inr (record { number = number; growing = subst (λ (p : Position). IsProperPart (last_position state.list) p) (sym offered.position) (grows feed state whole reads next.0 next.1) });
      table = answers (row_of (standing_of state) (step_of (offer group))).refusals (row_of (standing_of state) (step_of (offer group))).otherwise (le-ltb (length state.list + 1) group.number (omega (arith, number)), tt);
    }

    left-offer : left_of feed (state_after state (offer group)) is < left_of feed state was
    left-offer = by (nat_le group.number (length state.list)) refl
      where
        longer : State
        longer = record { plan = state.plan; list = state.list ++ group ∷ []; applied = state.applied; marks = state.marks; snapshot = state.snapshot }

        by : (b : Bool) → nat_le group.number (length state.list) ≡ b → left_of feed (cond b state longer) is < left_of feed state was
        by true e = absurd (let within : group.number ≤ length state.list = leb-true group.number (length state.list) e in omega (arith, number, within))
        by false e =
            same-left feed state longer was is refl
            (subst (λ read. turns is state.snapshot * (length feed.groups + 1) + (length feed.groups - read) < turns was state.snapshot * (length feed.groups + 1) + (length feed.groups - length state.list))
            (sym (length-append state.list (group ∷ [])))
            (read-nearer state.snapshot was is (length state.list) (length feed.groups) leads.2 leads.3 leads.1))

  -- nothing in the stream's own state is against a step on its course
  pub allowed-on : (step : Step) (event : Event) → Leads step → event_of_step feed step ≡ Some event → IsAllowed state event
  allowed-on (Offer n) event leads h =
      let one : (group : PreparedValue) × (prepared_at feed n ≡ Ok group) × (offer group ≡ event) = of_offer feed n event h in
      subst (IsAllowed state) one.2 (allowed-offer n leads one.0 one.1)
  allowed-on Advance event leads h =
      subst (IsAllowed state) (same_Some advance event h)
      (record {
        plan = tt;
        place = tt;
        table = answers (row_of (standing_of state) Advance).refusals (row_of (standing_of state) Advance).otherwise (leads.1, (ne_eqb state.applied (length state.list) (λ e. let less : state.applied < length state.list = leads.0 in omega (arith, less, e)), tt));
      })
  allowed-on (OpenAt m) event leads h =
      subst (IsAllowed state) (same_Some (open_at m) event h)
      (record {
        plan = tt;
        place = tt;
        table = answers (row_of (standing_of state) (OpenAt m)).refusals (row_of (standing_of state) (OpenAt m)).otherwise (
          ne_eqb state.marks.done state.marks.tables leads.2,
          (
            none-open state.snapshot leads.1,
            (
              le-ltb m state.applied (let most : state.applied ≤ length state.list = sound.standing.applied in let is : m ≡ length state.list = leads.0 in omega (arith, most, is)),
              (le-ltb (length state.list) m (let is : m ≡ length state.list = leads.0 in omega (arith, is)), tt),
            ),
          ),
        );
      })
  allowed-on (CopyRows c) event leads h =
      subst (IsAllowed state) (same_Some (copy_rows c) event h)
      (record {
        plan = tt;
        place = tt;
        table = answers (row_of (standing_of state) (CopyRows c)).refusals (row_of (standing_of state) (CopyRows c)).otherwise
            ((some-open state.snapshot state.applied leads.1).0, ((some-open state.snapshot state.applied leads.1).1, tt));
      })
  allowed-on Close event leads h =
      subst (IsAllowed state) (same_Some close event h)
      (record { plan = tt; place = tt; table = answers (row_of (standing_of state) Close).refusals (row_of (standing_of state) Close).otherwise ((some-open state.snapshot state.applied leads.0).0, tt) })
  allowed-on Restart event leads h = absurd leads

  -- each step makes less what is left
  pub left-on : (ties : Ties) (step : Step) (event : Event) → Leads step → event_of_step feed step ≡ Some event → left_of feed (state_after state event) is < left_of feed state was
  left-on ties (Offer n) event leads h =
      let one : (group : PreparedValue) × (prepared_at feed n ≡ Ok group) × (offer group ≡ event) = of_offer feed n event h in
      subst (λ e. left_of feed (state_after state e) is < left_of feed state was) one.2 (left-offer n leads one.0 one.1)
  left-on ties Advance event leads h =
      subst (λ e. left_of feed (state_after state e) is < left_of feed state was) (same_Some advance event h)
      (less-left feed state (state_after state advance) was is
      (let less : state.applied < length state.list = leads.0 in let most : length state.list ≤ length feed.groups = read-most feed state reads in omega (arith, less, most)))
  left-on ties (OpenAt m) event leads h =
      subst (λ e. left_of feed (state_after state e) is < left_of feed state was) (same_Some (open_at m) event h)
      (same-left feed state (state_after state (open_at m)) was is refl (open-nearer state.snapshot m was is (length state.list) (length feed.groups) leads.1 leads.3))
  left-on ties (CopyRows c) event leads h =
      subst (λ e. left_of feed (state_after state e) is < left_of feed state was) (same_Some (copy_rows c) event h)
      (less-left feed state (state_after state (copy_rows c)) was is (copy-less ties feed state reads (copying state c sound.standing (allowed-on (CopyRows c) (copy_rows c) leads refl).table) c leads.0))
  left-on ties Close event leads h =
      subst (λ e. left_of feed (state_after state e) is < left_of feed state was) (same_Some close event h)
      (same-left feed state (state_after state close) was is refl (close-nearer state.snapshot state.applied was is (length state.list) (length feed.groups) leads.0 leads.1))
  left-on ties Restart event leads h = absurd leads

-- ---- refusals

-- a group that stands in its place isn't of another history
in-place : (state : State) (event : Event) → IsInPlace state event → IsDiverged state event → ⊥
in-place state (offer group) (inl old) (inl here) = here.1 old.same
in-place state (offer group) (inl old) (inr next) = let within : group.number ≤ length state.list = old.within in omega (arith, within, next.0)
in-place state (offer group) (inr new) (inl here) = let number : group.number ≡ length state.list + 1 = new.number in omega (arith, number, here.0)
in-place state (offer group) (inr new) (inr next) = next.1 new.growing
in-place state advance place h = h
in-place state (open_at m) place h = h
in-place state (copy_rows c) place h = h
in-place state close place h = h
in-place state restart place h = h

-- a step that nothing in the stream's own state is against is refused for a row in the way or for want of memory
abbrev pub Hinders : Refusal → Type 0
Hinders NoStream = ⊥
Hinders WrongPlan = ⊥
Hinders Diverged = ⊥
Hinders (Core refusal) = ⊥
Hinders (OwnedByOther key owner) = Unit {0}
Hinders FeedCount = ⊥
Hinders Memory = Unit {0}

pub none-alone : (old : Meaning) (s : ℕ) (state : State) (event : Event) (refusal : Refusal) → IsAllowed state event → IsRefusedFor old s state event refusal → Hinders refusal
none-alone old s state event NoStream allowed h = h
none-alone old s state event WrongPlan allowed h = h allowed.plan
none-alone old s state event Diverged allowed h = in-place state event allowed.place h.1
none-alone old s state event (Core refusal) allowed h = true≢false (sym allowed.table ∙ ap is_ok h.table)
none-alone old s state event (OwnedByOther key owner) allowed h = tt
none-alone old s state event FeedCount allowed h = h
none-alone old s state event Memory allowed h = tt

-- ---- the end of a course

-- a stream at the end of its course has ended
pub ended-at : (feed : FeedValue) (state : State) → IsAtEnd (standing_of state) (length feed.groups) → HasEnded feed state
ended-at feed state h = record { running = h.running; read = h.read; applied = h.applied }
