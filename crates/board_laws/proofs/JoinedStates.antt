-- The order of states: it is total, states that tie are equal, and what it is on running states.
use Rattle.std.proofs.Common.{◌≡◌, ℕ, ◌<◌, inl, inr, List, length, Option, Some, None, Ordering, refl, sym, ap, subst, ◌∙◌, arith}
use Rattle.std.proofs.lemmas.Bool.{true≢false}
use Rattle.std.proofs.lemmas.Cmp.{ranked, nat_cmp_total, on_total, then_total, tied_itself}
use Rattle.std.proofs.lemmas.List.{take_all}
use Rattle.std.specs.Prelude.{IfSome}
use Rattle.std.specs.Cmp.{IsTotalOrder}
use Rattle.std.specs.Cmp.Lexicographic.{options_total}
use Rattle.std.specs.declared.cmp.Ordering.TheVariants.{Less, Equal, Greater}
use Rattle.std.specs.Option.{option_cmp}
use Rattle.std.specs.Ordering.{nat_cmp, ordering_then, is_lt, is_gt, MatchOrdering}
use Rattle.filter_rule.specs.PlanValue.{PlanValue}
use Rattle.pk_copy.specs.KeyOrder.{key_cmp}
use Rattle.pk_copy.specs.KeyValue.{KeyValue}
use Rattle.pk_copy.specs.Marks.{Marks, AreMarks, IsOfCurrent, marks_cmp}
use Rattle.pk_copy.specs.MarkOrderLaws.{marks_cmp_total}
use Rattle.stream_core.specs.Standing.{IsOpenAt}
use Rattle.source_feed.specs.Touches.{PreparedValue}
use Rattle.board_laws.specs.Meaning.{State}
use Rattle.board_laws.specs.Lawful.{IsSoundState, standing_of}
use Rattle.board_laws.proofs.Lookups.{Ties}
use Rattle.board_laws.specs.StateOrder.{ahead_cmp, state_cmp, running_cmp, IsRunning}
use Rattle.board_laws.specs.Compatible.{AreRunning, IsBeginning, AreOfOneHistory}

-- ---- a total order

ahead_total : IsTotalOrder ahead_cmp
ahead_total = then_total (on_total (λ state. length state.list) nat_cmp_total) (on_total (λ state. state.snapshot) (options_total nat_cmp_total))

pub states_total : IsTotalOrder state_cmp
states_total = then_total (on_total (λ state. state.applied) nat_cmp_total) (then_total (on_total (λ state. state.marks) marks_cmp_total) ahead_total)

-- ---- states that tie

both_tie : (a b : Ordering) → ordering_then a b ≡ Equal → (a ≡ Equal) × (b ≡ Equal)
both_tie Less b e = absurd (true≢false (ap is_lt e))
both_tie Equal b e = (refl, e)
both_tie Greater b e = absurd (true≢false (ap is_gt e))

numbers_tie : (a b : ℕ) → nat_cmp a b ≡ Equal → a ≡ b
numbers_tie a b e = subst (λ r. MatchOrdering r (a < b) (a ≡ b) (b < a)) e (ranked a b (nat_cmp a b) refl)

options_tie : {X : Type 0} (cmp : X → X → Ordering) → ((a b : X) → cmp a b ≡ Equal → a ≡ b) → (p q : Option X) → option_cmp cmp p q ≡ Equal → p ≡ q
options_tie cmp ties None None e = refl
options_tie cmp ties None (Some y) e = absurd (true≢false (ap is_lt e))
options_tie cmp ties (Some x) None e = absurd (true≢false (ap is_gt e))
options_tie cmp ties (Some x) (Some y) e = ap Some (ties x y e)

marks_tie : (ties : Ties) (x y : Marks) → x.tables ≡ y.tables → marks_cmp x y ≡ Equal → x ≡ y
marks_tie ties x y tables e =
    let parts : (nat_cmp x.done y.done ≡ Equal) × (option_cmp key_cmp x.upto y.upto ≡ Equal) = both_tie (nat_cmp x.done y.done) (option_cmp key_cmp x.upto y.upto) e in
    let by_tables : ℕ → Marks = λ n. record { tables = n; done = x.done; upto = x.upto } in
    let by_done : ℕ → Marks = λ n. record { tables = y.tables; done = n; upto = x.upto } in
    let by_upto : Option KeyValue → Marks = λ o. record { tables = y.tables; done = y.done; upto = o } in
    ap by_tables tables ∙ ap by_done (numbers_tie x.done y.done parts.0) ∙ ap by_upto (options_tie key_cmp ties x.upto y.upto parts.1)

whole_front : (xs ys : List PreparedValue) → length xs ≡ length ys → IsBeginning xs ys → xs ≡ ys
whole_front xs ys long begins = sym begins ∙ take_all (length xs) ys (omega (arith, long))

lists_tie : (x y : State) → length x.list ≡ length y.list → AreOfOneHistory x y → x.list ≡ y.list
lists_tie x y long one =
    elim one [
      | inl front ↦ whole_front x.list y.list long front
      | inr front ↦ sym (whole_front y.list x.list (sym long) front)
    ]

pub states_tie : (ties : Ties) (x y : State) → IsSoundState x → IsSoundState y → x.plan ≡ y.plan → AreOfOneHistory x y → state_cmp x y ≡ Equal → x ≡ y
states_tie ties x y sound_x sound_y plan one e =
    let first : (nat_cmp x.applied y.applied ≡ Equal) × (ordering_then (marks_cmp x.marks y.marks) (ahead_cmp x y) ≡ Equal)
    = both_tie (nat_cmp x.applied y.applied) (ordering_then (marks_cmp x.marks y.marks) (ahead_cmp x y)) e in
    let then : (marks_cmp x.marks y.marks ≡ Equal) × (ahead_cmp x y ≡ Equal) = both_tie (marks_cmp x.marks y.marks) (ahead_cmp x y) first.1 in
    let last : (nat_cmp (length x.list) (length y.list) ≡ Equal) × (option_cmp nat_cmp x.snapshot y.snapshot ≡ Equal)
    = both_tie (nat_cmp (length x.list) (length y.list)) (option_cmp nat_cmp x.snapshot y.snapshot) then.1 in
    let tables : x.marks.tables ≡ y.marks.tables = sound_x.tables ∙ ap (λ (p : PlanValue). length p.tables) plan ∙ sym sound_y.tables in
    let by_plan : PlanValue → State = λ p. record { plan = p; list = x.list; applied = x.applied; marks = x.marks; snapshot = x.snapshot } in
    let by_list : List PreparedValue → State = λ l. record { plan = y.plan; list = l; applied = x.applied; marks = x.marks; snapshot = x.snapshot } in
    let by_applied : ℕ → State = λ n. record { plan = y.plan; list = y.list; applied = n; marks = x.marks; snapshot = x.snapshot } in
    let by_marks : Marks → State = λ m. record { plan = y.plan; list = y.list; applied = y.applied; marks = m; snapshot = x.snapshot } in
    let by_snapshot : Option ℕ → State = λ o. record { plan = y.plan; list = y.list; applied = y.applied; marks = y.marks; snapshot = o } in
    ap by_plan plan
    ∙ ap by_list (lists_tie x y (numbers_tie (length x.list) (length y.list) last.0) one)
    ∙ ap by_applied (numbers_tie x.applied y.applied first.0)
    ∙ ap by_marks (marks_tie ties x.marks y.marks tables then.0)
    ∙ ap by_snapshot (options_tie nat_cmp numbers_tie x.snapshot y.snapshot last.1)

-- ---- running states

no_mark : (marks : Marks) → AreMarks marks → marks.done ≡ marks.tables → marks.upto ≡ None
no_mark marks are running = by marks.upto are.current
  where
    by : (o : Option KeyValue) → IfSome o (IsOfCurrent marks) → o ≡ None
    by None h = refl
    by (Some key) h = let less : marks.done < marks.tables = h.copying in absurd (omega (arith, running))

no_snapshot : (state : State) → IsSoundState state → IsRunning state → state.snapshot ≡ None
no_snapshot state sound running = by state.snapshot sound.standing.snapshot
  where
    by : (o : Option ℕ) → IfSome o (IsOpenAt (standing_of state)) → o ≡ None
    by None h = refl
    by (Some m) h = let less : state.marks.done < state.marks.tables = h.copying in absurd (omega (arith, running))

then_nothing : (r : Ordering) → ordering_then r Equal ≡ r
then_nothing Less = refl
then_nothing Equal = refl
then_nothing Greater = refl

pub running_states : (x y : State) → IsSoundState x → IsSoundState y → x.plan ≡ y.plan → AreRunning x y → state_cmp x y ≡ running_cmp x y
running_states x y sound_x sound_y plan running =
    let tables : x.marks.tables ≡ y.marks.tables = sound_x.tables ∙ ap (λ (p : PlanValue). length p.tables) plan ∙ sym sound_y.tables in
    let done : x.marks.done ≡ y.marks.done = running.0 ∙ tables ∙ sym running.1 in
    let same_done : nat_cmp x.marks.done y.marks.done ≡ Equal = ap (nat_cmp x.marks.done) (sym done) ∙ tied_itself nat_cmp_total x.marks.done in
    let same_upto : option_cmp key_cmp x.marks.upto y.marks.upto ≡ Equal
    = ap (λ (o : Option KeyValue). option_cmp key_cmp o y.marks.upto) (no_mark x.marks sound_x.marks running.0) ∙ ap (λ (o : Option KeyValue). option_cmp key_cmp None o) (no_mark y.marks sound_y.marks running.1) in
    let same_snapshot : option_cmp nat_cmp x.snapshot y.snapshot ≡ Equal
    = ap (λ (o : Option ℕ). option_cmp nat_cmp o y.snapshot) (no_snapshot x sound_x running.0) ∙ ap (λ (o : Option ℕ). option_cmp nat_cmp None o) (no_snapshot y sound_y running.1) in
    let lists : Ordering = nat_cmp (length x.list) (length y.list) in
    ap (λ r. ordering_then (nat_cmp x.applied y.applied) (ordering_then (ordering_then r (option_cmp key_cmp x.marks.upto y.marks.upto)) (ordering_then lists (option_cmp nat_cmp x.snapshot y.snapshot)))) same_done
    ∙ ap (λ r. ordering_then (nat_cmp x.applied y.applied) (ordering_then r (ordering_then lists (option_cmp nat_cmp x.snapshot y.snapshot)))) same_upto
    ∙ ap (λ r. ordering_then (nat_cmp x.applied y.applied) (ordering_then lists r)) same_snapshot
    ∙ ap (λ r. ordering_then (nat_cmp x.applied y.applied) r) (then_nothing lists)
