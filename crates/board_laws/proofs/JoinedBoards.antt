-- Joined boards: which boards can be joined, that a joined board is lawful, and which one it is.
use Rattle.std.proofs.Common.{◌≡◌, ◌≢◌, ◌==◌, ℕ, suc, ◌≤◌, inl, inr, Bool, true, false, cond, le_refl, List, [], ◌∷◌, length, Option, Some, None, slice_get, refl, sym, ap, subst, ◌∙◌}
use Rattle.std.proofs.lemmas.List.{length-map, take_all}
use Rattle.std.proofs.lemmas.Option.{same_Some}
use borrow.Author.Tests.{eqb-true}
use Rattle.std.specs.Ordering.{is_lt}
use Rattle.std.specs.declared.cmp.Ordering.TheVariants.{Equal}
use Rattle.filter_rule.specs.PlanValue.{PlanValue}
use Rattle.pk_copy.specs.KeyOrder.{key_cmp}
use Rattle.target_tables.specs.Contents.{value_at}
use Rattle.source_feed.specs.History.{RowValue}
use Rattle.board_laws.specs.Meaning.{State, Meaning}
use Rattle.board_laws.specs.Cut.{own_row}
use Rattle.board_laws.specs.Lawful.{IsLawful}
use Rattle.board_laws.proofs.Following.{same-board}
use Rattle.board_laws.proofs.Lookups.{Ties}
use Rattle.board_laws.specs.StateOrder.{state_cmp, running_cmp}
use Rattle.board_laws.specs.Chosen.{chosen, all_chosen, chosen_running, all_chosen_running}
use Rattle.board_laws.specs.Joined.{board_of, joined}
use Rattle.board_laws.specs.Compatible.{plans_of_board, OfEachStream, AreRunning, IsBeginning, AreOfOneHistory, AreApart, AreCompatible}
use Rattle.board_laws.proofs.JoinedStates.{states_tie, running_states}
use Rattle.board_laws.proofs.JoinedPairs.{plans, same_plan, partner, one_of_two, chosen_plans, chosen_comm, chosen_itself, chosen_assoc, ChosenInTwo, chosen_in_two}
use Rattle.board_laws.proofs.JoinedRows.{cut_if, states-lawful}

-- ---- a joined board is lawful

as_many : (a b : Meaning) → plans_of_board a ≡ plans_of_board b → length (all_chosen a.streams b.streams) ≡ length a.streams
as_many a b e =
    sym (length-map (all_chosen a.streams b.streams) (λ (state : State). state.plan))
    ∙ ap (λ (ps : List PlanValue). length ps) (chosen_plans a.streams b.streams e)
    ∙ length-map a.streams (λ (state : State). state.plan)

-- a chosen state has the plan of its stream
plan_chosen : (xs ys : List State) → plans xs ≡ plans ys → (s : ℕ) (z : State) → slice_get (all_chosen xs ys) s ≡ Some z → (x : State) × (slice_get xs s ≡ Some x) × (z.plan ≡ x.plan)
plan_chosen xs ys e s z here =
    let x : (x : State) × (slice_get xs s ≡ Some x) = partner (all_chosen xs ys) xs (chosen_plans xs ys e) s z here in
    (x.0, x.1, same_plan (all_chosen xs ys) xs (chosen_plans xs ys e) s z x.0 here x.1)

pub joined-lawful : (ties : Ties) (a b : Meaning) → IsLawful a → IsLawful b → AreCompatible a b → IsLawful (joined a b)
joined-lawful ties a b la lb compatible =
    states-lawful ties (all_chosen a.streams b.streams)
    (subst (λ n. 1 ≤ n) (sym (as_many a b compatible.plans)) la.some)
    (subst (λ n. n ≤ 64) (sym (as_many a b compatible.plans)) la.few)
    (λ s z here. elim (one_of_two a.streams b.streams s z here) [ inl left ↦ la.sound s z left | inr right ↦ lb.sound s z right ])
    (λ s t y z p q.
    let one : (x : State) × (slice_get a.streams s ≡ Some x) × (y.plan ≡ x.plan) = plan_chosen a.streams b.streams compatible.plans s y p in
    let other : (x : State) × (slice_get a.streams t ≡ Some x) × (z.plan ≡ x.plan) = plan_chosen a.streams b.streams compatible.plans t z q in
    ap (λ (p : PlanValue). p.tables) one.2 ∙ la.tables s t one.0 other.0 one.1 other.1 ∙ ap (λ (p : PlanValue). p.tables) (sym other.2))
    compatible.apart

-- ---- either way round

turned_history : (x y : State) → AreOfOneHistory x y → AreOfOneHistory y x
turned_history x y one = elim one [ inl left ↦ inr left | inr right ↦ inl right ]

ties_of : (ties : Ties) (a b : Meaning) → IsLawful a → IsLawful b → plans_of_board a ≡ plans_of_board b → OfEachStream AreOfOneHistory a.streams b.streams → OfEachStream (λ x y. state_cmp x y ≡ Equal → x ≡ y) a.streams b.streams
ties_of ties a b la lb plans histories =
    λ s x y p q tie. states_tie ties x y (la.sound s x p) (lb.sound s y q) (same_plan a.streams b.streams plans s x y p q) (histories s x y p q) tie

pub commutes : (ties : Ties) (a b : Meaning) → IsLawful a → IsLawful b → AreCompatible a b → AreCompatible b a × (joined b a ≡ joined a b)
commutes ties a b la lb compatible =
    let streams : all_chosen a.streams b.streams ≡ all_chosen b.streams a.streams = chosen_comm a.streams b.streams (ties_of ties a b la lb compatible.plans compatible.histories) in (
      record {
        plans = sym compatible.plans;
        histories = λ s x y p q. turned_history y x (compatible.histories s y x q p);
        apart = subst AreApart streams compatible.apart;
      },
      ap board_of (sym streams),
    )

-- ---- with itself

-- a row of a lawful board is one stream's alone
one_owner : (there : Option (ℕ × RowValue)) (s t : ℕ) → own_row s there ≢ None → own_row t there ≢ None → s ≡ t
one_owner None s t p q = absurd (p refl)
one_owner (Some x) s t p q = is s p ∙ sym (is t q)
  where
    is : (u : ℕ) → own_row u (Some x) ≢ None → u ≡ x.0
    is u p = by (x.0 == u) refl p
      where
        by : (b : Bool) → (x.0 == u) ≡ b → own_row u (Some x) ≢ None → u ≡ x.0
        by true e p = sym (eqb-true x.0 u e)
        by false e p = absurd (p (ap (λ b. cond b (Some x.1) None) e))

lawful-apart : (a : Meaning) → IsLawful a → AreApart a.streams
lawful-apart a lawful s t x y key p q c d =
    one_owner (value_at key_cmp a.rows key) s t (λ n. c (sym (ap (cut_if key) p) ∙ sym (lawful.cuts s key) ∙ n)) (λ n. d (sym (ap (cut_if key) q) ∙ sym (lawful.cuts t key) ∙ n))

-- a lawful board is the board of its states
pub of_its_states : (ties : Ties) (a : Meaning) → IsLawful a → AreApart a.streams × (a ≡ board_of a.streams)
of_its_states ties a lawful =
    let apart : AreApart a.streams = lawful-apart a lawful in
    (apart, same-board ties a (board_of a.streams) lawful (states-lawful ties a.streams lawful.some lawful.few lawful.sound lawful.tables apart) refl)

whole-begins : (state : State) → IsBeginning state.list state.list
whole-begins state = take_all (length state.list) state.list (le_refl (length state.list))

pub with_itself : (ties : Ties) (a : Meaning) → IsLawful a → AreCompatible a a × (joined a a ≡ a)
with_itself ties a lawful =
    let apart : AreApart (all_chosen a.streams a.streams) = subst AreApart (sym (chosen_itself a.streams)) (lawful-apart a lawful) in
    let compatible : AreCompatible a a = record {
      plans = refl;
      histories = λ s x y p q. inl (subst (λ (z : State). IsBeginning x.list z.list) (same_Some x y (sym p ∙ q)) (whole-begins x));
      apart = apart;
    } in
    (compatible, same-board ties (joined a a) a (joined-lawful ties a a lawful lawful compatible) lawful (chosen_itself a.streams))

-- ---- of three

-- a fact of a stream's states in two pairs of boards holds of the chosen one beside the third
of_left : (P : State → State → Type 0) (xs ys zs : List State) → OfEachStream P xs zs → OfEachStream P ys zs → OfEachStream P (all_chosen xs ys) zs
of_left P xs ys zs h k = λ s m z p q. elim (one_of_two xs ys s m p) [ inl left ↦ h s m z left q | inr right ↦ k s m z right q ]

of_right : (P : State → State → Type 0) (xs ys zs : List State) → OfEachStream P xs ys → OfEachStream P xs zs → OfEachStream P xs (all_chosen ys zs)
of_right P xs ys zs h k = λ s x m p q. elim (one_of_two ys zs s m q) [ inl left ↦ h s x m p left | inr right ↦ k s x m p right ]

-- two streams' states chosen of three are chosen in one of the pairs
apart-of_three : (xs ys zs : List State) → AreApart (all_chosen xs ys) → AreApart (all_chosen ys zs) → AreApart (all_chosen xs zs) → AreApart (all_chosen (all_chosen xs ys) zs)
apart-of_three xs ys zs xy yz xz s t m n key p q c d = by (chosen_in_two xs ys zs s m p) (chosen_in_two xs ys zs t n q)
  where
    by : ChosenInTwo xs ys zs s m → ChosenInTwo xs ys zs t n → s ≡ t
    by (inl one) (inl other) = xy s t m n key one.0 other.0 c d
    by (inl one) (inr (inl other)) = xy s t m n key one.0 other.0 c d
    by (inl one) (inr (inr other)) = xz s t m n key one.1 other.0 c d
    by (inr (inl one)) (inl other) = xy s t m n key one.0 other.0 c d
    by (inr (inl one)) (inr (inl other)) = xy s t m n key one.0 other.0 c d
    by (inr (inl one)) (inr (inr other)) = yz s t m n key one.1 other.1 c d
    by (inr (inr one)) (inl other) = xz s t m n key one.0 other.1 c d
    by (inr (inr one)) (inr (inl other)) = yz s t m n key one.1 other.1 c d
    by (inr (inr one)) (inr (inr other)) = xz s t m n key one.0 other.0 c d

pub associates : (a b c : Meaning) → AreCompatible a b → AreCompatible b c → AreCompatible a c
    → AreCompatible (joined a b) c × AreCompatible a (joined b c) × (joined (joined a b) c ≡ joined a (joined b c))
associates a b c ab bc ac =
    let apart : AreApart (all_chosen (all_chosen a.streams b.streams) c.streams) = apart-of_three a.streams b.streams c.streams ab.apart bc.apart ac.apart in
    let streams : all_chosen (all_chosen a.streams b.streams) c.streams ≡ all_chosen a.streams (all_chosen b.streams c.streams) = chosen_assoc a.streams b.streams c.streams in (
      record {
        plans = chosen_plans a.streams b.streams ab.plans ∙ ac.plans;
        histories = of_left AreOfOneHistory a.streams b.streams c.streams ac.histories bc.histories;
        apart = apart;
      },
      record {
        plans = ab.plans ∙ sym (chosen_plans b.streams c.streams bc.plans);
        histories = of_right AreOfOneHistory a.streams b.streams c.streams ab.histories ac.histories;
        apart = subst AreApart streams apart;
      },
      ap board_of streams,
    )

-- ---- running boards

running_chosen : (x y : State) → state_cmp x y ≡ running_cmp x y → chosen x y ≡ chosen_running x y
running_chosen x y e = ap (λ r. cond (is_lt r) y x) e

all_running : (xs ys : List State) → OfEachStream (λ x y. state_cmp x y ≡ running_cmp x y) xs ys → all_chosen xs ys ≡ all_chosen_running xs ys
all_running [] ys same = refl
all_running (x ∷ xs) [] same = refl
all_running (x ∷ xs) (y ∷ ys) same =
    ap (λ (z : State). z ∷ all_chosen xs ys) (running_chosen x y (same 0 x y refl refl)) ∙ ap (λ (zs : List State). chosen_running x y ∷ zs) (all_running xs ys (λ s. same (suc s)))

pub joined_running : (a b : Meaning) → IsLawful a → IsLawful b → AreCompatible a b → OfEachStream AreRunning a.streams b.streams → joined a b ≡ board_of (all_chosen_running a.streams b.streams)
joined_running a b la lb compatible running =
    ap board_of
    (all_running a.streams b.streams (λ s x y p q. running_states x y (la.sound s x p) (lb.sound s y q) (same_plan a.streams b.streams compatible.plans s x y p q) (running s x y p q)))
