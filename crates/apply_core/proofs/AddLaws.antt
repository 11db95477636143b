-- Streams to which tables are added, one group and one stream more.
use Rattle.std.proofs.Common.{◌≡◌, ◌==◌, ◌&&◌, ℕ, zero, suc, ◌+◌, ◌<◌, ◌≤◌, inl, inr, true, cond, le_refl, List, [], ◌∷◌, ◌++◌, length, map, take, Option, Some, None, Result, Ok, Err, slice_get, refl, sym, ap, subst, ◌∙◌, arith}
use Rattle.std.proofs.lemmas.Bool.{cases_lt, eq-eqb, le-ltb, lt-ltb}
use Rattle.std.proofs.lemmas.List.{length-map, length-take-le, take_all}
use Rattle.std.proofs.lemmas.Option.{same_Some, none-some, slice_get-map, slice_get_within}
use Rattle.std.proofs.lemmas.Bool.{false≢true}
use Rattle.std.specs.Prelude.{IsOk, IsTrue, IfSome, IfErr, nat_lt}
use Rattle.std.specs.Option.{option_map}
use Rattle.list_laws.proofs.Places.{slice_get-take}
use Rattle.filter_rule.specs.Extending.{IsExtended}
use Rattle.filter_rule.specs.PlanValue.{PlanValue}
use Rattle.pk_copy.specs.KeyValue.{KeyValue}
use Rattle.pk_copy.specs.Marks.{MarkValue, waiting, up_to, copied, Marks, AreMarks, IsOfCurrent, current_mark, mark_of, is_past}
use Rattle.source_feed.specs.declared.fault.FeedFault.{FeedFault}
use Rattle.source_feed.specs.declared.fault.FeedFault.TheVariants as faults
use Rattle.source_feed.specs.FaultNumber.{meant_of}
use Rattle.source_feed.specs.History.{IsPassed}
use Rattle.source_feed.specs.Image.{ImageRows}
use Rattle.source_feed.specs.Planned.{FeedValue, IsFeed}
use Rattle.source_feed.specs.Prepared.{IsSameOn}
use Rattle.source_feed.specs.SoundGroups.{sound_groups, AreFirst, StopsBefore}
use Rattle.source_feed.specs.Touches.{PreparedValue, prepared, prepared_at}
use Rattle.source_feed.proofs.SoundGroupLaws.{there_at_number, front_ends, first_more, first_stops}
use Rattle.board_laws.specs.Lawful.{IsSoundState}
use Rattle.board_laws.specs.Meaning.{State, TargetRows, Meaning}
use Rattle.board_laws.specs.declared.add_fault.AddFault.{AddFault}
use Rattle.board_laws.specs.declared.add_fault.AddFault.TheVariants.{FeedCount, PlanNotExtended, WrongPlan, HistoriesDiffer, Unsound, Memory}
use Rattle.board_laws.specs.Extended.{marks_of_more, extended_state, extended_states, extended_board, MayExtend}
use Rattle.board_laws.specs.GoingOn.{GoesOnTo, GoesOn, IsOfOtherHistory, GoOnBefore, StopsAt}
use Rattle.board_laws.specs.AddedLaws.{ExtendedStatesAreSound, FeedsThatGoOnArentStopped}
use Rattle.board_laws.proofs.AddedBoards.{becomes, as_many}
use Rattle.apply_core.specs.Adding.{MayWantMemory, AreTaken, IsRefusedAdd}
use Rattle.apply_core.specs.Feeds.{AreWholeFeeds}
use Rattle.apply_core.specs.Private.Adding.{fault_of_feed, IsNotAgain, AreAgain, IsStoppedBy, IsExtendedBy, FeedsExtend, AreExtendedUpTo, AreStopped}
use Rattle.apply_core.specs.Private.StreamState.{IsStream}
use Rattle.apply_core.proofs.StepsComeNearer.{ok_prefix-most}

-- ---- lists

at_end : {A : Type 0} (xs : List A) (x : A) (n : ℕ) → length xs ≡ n → slice_get (xs ++ x ∷ []) n ≡ Some x
at_end [] x zero e = refl
at_end [] x (suc n) e = let clash : 0 ≡ suc n = e in absurd (omega (arith, clash))
at_end (y ∷ xs) x zero e = let clash : suc (length xs) ≡ 0 = e in absurd (omega (arith, clash))
at_end (y ∷ xs) x (suc n) e = let rest : suc (length xs) ≡ suc n = e in at_end xs x n (omega (arith, rest))

take_one_more : {A : Type 0} (n : ℕ) (xs : List A) (x : A) → slice_get xs n ≡ Some x → take (n + 1) xs ≡ take n xs ++ x ∷ []
take_one_more {A} n xs x e = let next : suc n ≡ n + 1 = omega arith in subst (λ m. take m xs ≡ take n xs ++ x ∷ []) next (by n xs e)
  where
    by : (m : ℕ) (ys : List A) → slice_get ys m ≡ Some x → take (suc m) ys ≡ take m ys ++ x ∷ []
    by m [] e = absurd (none-some x e)
    by zero (y ∷ ys) e = ap (λ (z : A). z ∷ []) (same_Some y x e)
    by (suc m) (y ∷ ys) e = ap (λ (zs : List A). y ∷ zs) (by m ys e)

-- more than there are
pub fewer_by : (a n : ℕ) → (a ≤ n → ⊥) → n < a
fewer_by a n none = elim (cases_lt n a) [
  | inl less ↦ less
  | inr most ↦ absurd (none most)
]

-- ---- one group

not_again : (tables : ℕ) (feed : FeedValue) (old : PreparedValue) (number s : ℕ) (fault : FeedFault) → IfSome (meant_of fault) (λ f. prepared_at feed number ≡ Err f) → (fault ≡ faults.Memory → IsOk (prepared_at feed number))
    → IsNotAgain tables feed old number s (fault_of_feed fault)
not_again tables feed old number s faults.Memory h wanted = wanted refl
not_again tables feed old number s faults.FeedTooLong h wanted = h
not_again tables feed old number s faults.Frame h wanted = h
not_again tables feed old number s (faults.Event fault) h wanted = h
not_again tables feed old number s (faults.BadPosition fault) h wanted = h
not_again tables feed old number s faults.NoPosition h wanted = h
not_again tables feed old number s (faults.Diverged group) h wanted = h
not_again tables feed old number s faults.FieldsDiffer h wanted = h
not_again tables feed old number s faults.NoFields h wanted = h
not_again tables feed old number s faults.ColumnCount h wanted = h
not_again tables feed old number s faults.OpenAtEnd h wanted = h
not_again tables feed old number s faults.ShardMissing h wanted = h
not_again tables feed old number s faults.Misplaced h wanted = h
not_again tables feed old number s (faults.BadRow group table cause) h wanted = h
not_again tables feed old number s (faults.NoGroup groups) h wanted = h

pub not_again_by : (tables : ℕ) (feed : FeedValue) (old : PreparedValue) (number s : ℕ) (fault : FeedFault) (found : AddFault) → found ≡ fault_of_feed fault → IfSome (meant_of fault) (λ f. prepared_at feed number ≡ Err f)
    → (fault ≡ faults.Memory → IsOk (prepared_at feed number)) → IsNotAgain tables feed old number s found
not_again_by tables feed old number s fault found is h wanted = subst (IsNotAgain tables feed old number s) (sym is) (not_again tables feed old number s fault h wanted)

-- what is answered, where something is
what_is_answered : {A E : Type 0} (r : Result A E) → IsOk r → (x : A) × (r ≡ Ok x)
what_is_answered (Ok x) h = (x, refl)
what_is_answered (Err e) h = absurd (false≢true h)

-- ---- one stream

pub again_none : (feed : FeedValue) (state : State) (groups : List PreparedValue) → groups ≡ [] → AreAgain feed state 0 groups
again_none feed state groups none = record { go_on = record { sound = omega arith; same = λ i old new less p q. absurd (omega (arith, less)) }; are = none }

module _ (feed : FeedValue) (state : State) (i : ℕ) (groups : List PreparedValue) (again : AreAgain feed state i groups) (inside : i < length feed.groups) where
  first : AreFirst feed i groups
  first = record { sound = again.go_on.sound; are = again.are }

  long : length groups ≡ i
  long = ap length again.are ∙ length-take-le i (sound_groups feed) again.go_on.sound

  module _ (group : PreparedValue) (prepared_is : prepared_at feed (i + 1) ≡ Ok group) where
    more : AreFirst feed (i + 1) (groups ++ group ∷ [])
    more = first_more feed i groups (groups ++ group ∷ []) group inside prepared_is refl first

    pub there : slice_get (sound_groups feed) i ≡ Some group
    there = slice_get-take (i + 1) (sound_groups feed) i group (ap (λ (xs : List PreparedValue). slice_get xs i) (sym more.are) ∙ at_end groups group i long)

    pub again_more : (old : PreparedValue) (new : List PreparedValue) → slice_get state.list i ≡ Some old → IsSameOn (length state.plan.tables) old group → new ≡ groups ++ group ∷ [] → AreAgain feed state (i + 1) new
    again_more old new here same is = record {
      go_on = record {
        sound = more.sound;
        same = λ j x y less p q. elim (cases_lt j i) [
          | inl earlier ↦ again.go_on.same j x y earlier p q
          | inr behind ↦ (
              let at : i ≡ j = omega (arith, less, behind) in
              let one : old ≡ x = same_Some old x (sym here ∙ ap (slice_get state.list) at ∙ p) in
              let other : group ≡ y = same_Some group y (sym there ∙ ap (slice_get (sound_groups feed)) at ∙ q) in
              subst (λ (z : PreparedValue). IsSameOn (length state.plan.tables) z y) one (subst (IsSameOn (length state.plan.tables) old) other same))
        ];
      };
      are = is ∙ more.are;
    }

  -- memory may be wanted for the next group, where it is sound
  pub wanted_next : state.applied ≤ length feed.groups → (group : PreparedValue) → prepared_at feed (i + 1) ≡ Ok group → MayWantMemory feed state
  wanted_next enough group prepared_is = record { enough = enough; number = i; before = again.go_on; next = inr (slice_get_within (sound_groups feed) i group (there group prepared_is)) }

  pub stopped : (old : PreparedValue) (s : ℕ) (fault : AddFault) → i < state.applied → state.applied ≤ length feed.groups → slice_get state.list i ≡ Some old
      → IsNotAgain (length state.plan.tables) feed old (i + 1) s fault → IsStoppedBy s feed state fault
  stopped old s (HistoriesDiffer t) less enough here h = (
    h.0,
    inr (record { enough = enough; number = i; inside = less; before = again.go_on; old = old; here = here; new = h.1.0; there = there h.1.0 h.1.1; other = h.1.2 }),
  )
  stopped old s (Unsound fault) less enough here h =
      let stops : StopsBefore feed state.applied fault = first_stops feed i state.applied groups fault inside less h first in
      let ends : length (sound_groups feed) ≡ i = front_ends (map (prepared feed.plan) feed.groups) i fault again.go_on.sound (there_at_number feed i (Err fault) inside h) in
      record { enough = enough; inside = stops.inside; before = subst (GoesOnTo feed state) (sym ends) again.go_on; first = stops.first }
  stopped old s Memory less enough here h =
      let one : (group : PreparedValue) × (prepared_at feed (i + 1) ≡ Ok group) = what_is_answered (prepared_at feed (i + 1)) h in
      wanted_next enough one.0 one.1
  stopped old s FeedCount less enough here h = h
  stopped old s PlanNotExtended less enough here h = h
  stopped old s WrongPlan less enough here h = h

-- and where all groups go on
pub wanted_behind : (feed : FeedValue) (state : State) → GoesOn feed state → MayWantMemory feed state
wanted_behind feed state goes = record { enough = most; number = state.applied; before = goes; next = inl (le_refl state.applied) }
  where
    most : state.applied ≤ length feed.groups
    most =
        let sound : length (sound_groups feed) ≤ length (map (prepared feed.plan) feed.groups) = ok_prefix-most (map (prepared feed.plan) feed.groups) in
        let long : length (map (prepared feed.plan) feed.groups) ≡ length feed.groups = length-map feed.groups (prepared feed.plan) in
        omega (arith, goes.sound, sound, long)

-- the mark of the first table that isn't done is its key, or none
at_current : (m : Marks) → mark_of m m.done ≡ current_mark m.upto
at_current m =
    ap (λ b. cond b copied (cond (m.done == m.done) (current_mark m.upto) waiting)) (le-ltb m.done m.done (le_refl m.done))
    ∙ ap (λ b. cond b (current_mark m.upto) waiting) (eq-eqb m.done m.done refl)

none_of : (o : Option KeyValue) → current_mark o ≡ waiting → o ≡ None
none_of None e = refl
none_of (Some key) e = let clash : up_to key ≡ waiting = e in absurd cc

some_of : (o : Option KeyValue) (last : KeyValue) → current_mark o ≡ up_to last → o ≡ Some last
some_of None last e = let clash : waiting ≡ up_to last = e in absurd cc
some_of (Some key) last e = let same : up_to key ≡ up_to last = e in cc

never_copied : {P : Type 0} (o : Option KeyValue) → current_mark o ≡ copied → P
never_copied None e = let clash : waiting ≡ copied = e in absurd cc
never_copied (Some key) e = let clash : up_to key ≡ copied = e in absurd cc

pub waits_at : (m : Marks) (mark : MarkValue) → mark ≡ mark_of m m.done → mark ≡ waiting → m.upto ≡ None
waits_at m mark is waits = none_of m.upto (sym (at_current m) ∙ sym is ∙ waits)

pub key_at : (m : Marks) (mark : MarkValue) (last : KeyValue) → mark ≡ mark_of m m.done → mark ≡ up_to last → m.upto ≡ Some last
key_at m mark last is up = some_of m.upto last (sym (at_current m) ∙ sym is ∙ up)

pub not_done_at : {P : Type 0} (m : Marks) (mark : MarkValue) → mark ≡ mark_of m m.done → mark ≡ copied → P
not_done_at m mark is done = never_copied m.upto (sym (at_current m) ∙ sym is ∙ done)

-- the key is still to be copied where the first tables are done and no key is marked
pub past_there : (tables done : ℕ) (m now : Marks) (last : KeyValue) → now ≡ record { tables = tables; done = done; upto = None } → done ≡ m.done → m.tables ≤ tables → AreMarks m → m.upto ≡ Some last → IsTrue (is_past now last)
past_there tables done m now last is at most are up =
    let of : IsOfCurrent m last = subst (λ (o : Option KeyValue). IfSome o (IsOfCurrent m)) up are.current in
    let less : nat_lt done tables ≡ true = lt-ltb done tables (omega (arith, at, of.copying, most)) in
    let same : (last.table == done) ≡ true = eq-eqb last.table done (of.table ∙ sym at) in
    ap (λ (marks : Marks). is_past marks last) is ∙ ap (λ b. b && ((last.table == done) && true)) less ∙ ap (λ b. b && true) same

pub marks_done : (tables done : ℕ) (marks now : Marks) → now ≡ record { tables = tables; done = done; upto = None } → done ≡ marks.done → marks.upto ≡ None → now ≡ marks_of_more tables marks
marks_done tables done marks now is at none = is ∙ (λ i. record { tables = tables; done = at i; upto = sym none i })

pub marks_upto : (tables done : ℕ) (marks now : Marks) (last : KeyValue) → now ≡ record { tables = tables; done = done; upto = Some last } → done ≡ marks.done → marks.upto ≡ Some last → now ≡ marks_of_more tables marks
marks_upto tables done marks now last is at up = is ∙ (λ i. record { tables = tables; done = at i; upto = sym up i })

-- the stream that is made
module _ (feed : FeedValue) (state : State) (groups : List PreparedValue) (plan : PlanValue) (applied : ℕ) (marks : Marks) (again : AreAgain feed state state.applied groups) (planned : plan ≡ feed.plan) (at : applied ≡ state.applied)
    (marked : marks ≡ marks_of_more (length feed.plan.tables) state.marks) where
  pub made_is : ◌≡◌ {A = State} (record { plan = plan; list = groups; applied = applied; marks = marks; snapshot = None }) (extended_state feed state)
  made_is = λ i. record { plan = planned i; list = again.are i; applied = at i; marks = marked i; snapshot = None }

  pub made_extended : IsExtendedBy feed state (record { plan = plan; list = groups; applied = applied; marks = marks; snapshot = None })
  made_extended = record { goes_on = again.go_on; is = made_is }

  pub made_stream : ExtendedStatesAreSound → IsSoundState state → IsFeed feed → IsExtended state.plan feed.plan → (image : ImageRows) → IsPassed groups 0 image
      → IsStream (record { plan = plan; list = groups; applied = applied; marks = marks; snapshot = None }) 0 image
  made_stream sound_states sound whole more image kept = record {
    sound = subst IsSoundState (sym made_is) (sound_states feed state sound whole more again.go_on);
    kept = kept;
    within = omega arith;
    opened = tt;
  }

-- ---- the streams

pub extended_none : (feeds : List FeedValue) (states new : List State) → new ≡ [] → AreExtendedUpTo feeds states 0 new
extended_none feeds states new none = record { before = λ t feed state less p q. absurd (omega (arith, less)); are = none }

module _ (feeds : List FeedValue) (states : List State) (s : ℕ) (feed : FeedValue) (state : State) (fed : slice_get feeds s ≡ Some feed) (here : slice_get states s ≡ Some state) (new : List State) (h : AreExtendedUpTo feeds states s new) where
  pub extended_more : (one : State) (more : List State) → IsExtendedBy feed state one → more ≡ new ++ one ∷ [] → AreExtendedUpTo feeds states (s + 1) more
  extended_more one more by is = record {
    before = λ t f x less p q. elim (cases_lt t s) [
      | inl earlier ↦ h.before t f x earlier p q
      | inr behind ↦ (
          let at : s ≡ t = omega (arith, less, behind) in
          let of_feed : feed ≡ f = same_Some feed f (sym fed ∙ ap (slice_get feeds) at ∙ p) in
          let of_state : state ≡ x = same_Some state x (sym here ∙ ap (slice_get states) at ∙ q) in
          subst (λ (z : FeedValue). GoesOn z x) of_feed (subst (GoesOn feed) of_state by.goes_on))
    ];
    are =
        is
        ∙ ap (λ (xs : List State). xs ++ one ∷ []) h.are
        ∙ ap (λ (x : State). take s (extended_states feeds states) ++ x ∷ []) by.is
        ∙ sym (take_one_more s (extended_states feeds states) (extended_state feed state) (becomes feeds states s feed state fed here));
  }

  pub stops_here : (fault : AddFault) → IsStoppedBy s feed state fault → AreStopped feeds states fault
  stops_here (HistoriesDiffer t) stop =
      subst (StopsAt IsOfOtherHistory feeds states) (sym stop.0) (record { feed = feed; state = state; fed = fed; here = here; stops = stop.1; before = h.before })
  stops_here (Unsound fault) stop = (s, record { feed = feed; state = state; fed = fed; here = here; stops = stop; before = h.before })
  stops_here Memory stop = (s, record { feed = feed; state = state; fed = fed; here = here; stops = stop; before = h.before })
  stops_here FeedCount stop = stop
  stops_here PlanNotExtended stop = stop
  stops_here WrongPlan stop = stop

-- ---- the board

abbrev plan_of : FeedValue → PlanValue
plan_of feed = feed.plan

module _ (plans : List PlanValue) (feeds : List FeedValue) (board : Meaning) (taken : AreTaken plans feeds board) where
  pub as_many_as : length feeds ≡ length board.streams
  as_many_as = sym (length-map feeds plan_of) ∙ ap length taken.fed.opened ∙ taken.extended.count ∙ length-map board.streams (λ (state : State). state.plan)

  plan_there : (s : ℕ) (feed : FeedValue) → slice_get feeds s ≡ Some feed → slice_get plans s ≡ Some feed.plan
  plan_there s feed fed = ap (λ (ps : List PlanValue). slice_get ps s) (sym taken.fed.opened) ∙ slice_get-map plan_of feeds s ∙ ap (option_map plan_of) fed

  pub feeds_extend : FeedsExtend feeds board.streams
  feeds_extend s feed state fed here =
      taken.extended.each_plan s state.plan feed.plan
      (slice_get-map (λ (state : State). state.plan) board.streams s ∙ ap (option_map (λ (state : State). state.plan)) here)
      (plan_there s feed fed)

  pub may_extend : AreWholeFeeds feeds → GoOnBefore feeds board.streams (length board.streams) → MayExtend feeds board
  may_extend whole before = record {
    count = as_many_as;
    whole = whole;
    tables = λ s t one other p q. taken.fed.tables s t one.plan other.plan (plan_there s one p) (plan_there t other q);
    extends = feeds_extend;
    goes_on = λ s feed state fed here. before s feed state (slice_get_within board.streams s state here) fed here;
  }

  pub stopped_refused : (fault : AddFault) → AreStopped feeds board.streams fault → IsRefusedAdd plans feeds board fault
  stopped_refused (HistoriesDiffer s) h = (taken, h)
  stopped_refused (Unsound fault) h = (taken, h)
  stopped_refused Memory h = (taken, h)
  stopped_refused FeedCount h = absurd h
  stopped_refused PlanNotExtended h = absurd h
  stopped_refused WrongPlan h = absurd h

  pub stopped_all : {A : Type 0} (result : Result A AddFault) → IfErr result (AreStopped feeds board.streams) → IfErr result (IsRefusedAdd plans feeds board)
  stopped_all (Ok x) h = h
  stopped_all (Err fault) h = stopped_refused fault h

  -- plans and feeds that are taken aren't refused by these
  pub memory_alone : FeedsThatGoOnArentStopped → MayExtend feeds board → (fault : AddFault) → IsRefusedAdd plans feeds board fault → fault ≡ Memory
  memory_alone go_on may FeedCount h = absurd (h (sym (length-map feeds plan_of) ∙ ap length taken.fed.opened))
  memory_alone go_on may PlanNotExtended h = absurd (h.1 taken.extended)
  memory_alone go_on may WrongPlan h = absurd (h.2 taken.fed)
  memory_alone go_on may (HistoriesDiffer s) h = absurd ((go_on h.1.feed h.1.state (may.goes_on s h.1.feed h.1.state h.1.fed h.1.here)).0 h.1.stops)
  memory_alone go_on may (Unsound fault) h =
      let at = h.1.1 in
      absurd ((go_on at.feed at.state (may.goes_on h.1.0 at.feed at.state at.fed at.here)).1 fault at.stops)
  memory_alone go_on may Memory h = refl

pub all_streams : (feeds : List FeedValue) (states new : List State) → length feeds ≡ length states → AreExtendedUpTo feeds states (length states) new → new ≡ extended_states feeds states
all_streams feeds states new long h = h.are ∙ take_all (length states) (extended_states feeds states) (omega (arith, as_many feeds states long))

pub extended_is : (feeds : List FeedValue) (board : Meaning) (streams : List State) (rows : TargetRows) → streams ≡ extended_states feeds board.streams → rows ≡ board.rows
    → ◌≡◌ {A = Meaning} (record { streams = streams; rows = rows }) (extended_board feeds board)
extended_is feeds board streams rows are same = λ i. record { streams = are i; rows = same i }
