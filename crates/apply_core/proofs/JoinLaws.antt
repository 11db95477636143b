-- The streams of two boards that are joined: which states are chosen, and the streams that are left.
use Rattle.std.proofs.Common.{◌≡◌, ◌≢◌, ℕ, zero, suc, ◌+◌, ◌<◌, ◌≤◌, ◌⊎◌, inl, inr, true, false, cond, List, [], ◌∷◌, length, get_or, set, Some, None, slice_get, refl, sym, ap, subst, ◌∙◌, arith}
use Rattle.std.proofs.Math.Nat.{eq-or-lt_of_le}
use Rattle.std.proofs.lemmas.Bool.{cases_lt}
use Rattle.std.proofs.lemmas.List.{length-map, length-set}
use Rattle.std.proofs.lemmas.Option.{same_Some, slice_get_read}
use Rattle.std.specs.Ordering.{is_lt}
use Rattle.list_laws.proofs.Places.{place_of, slice_get-set_same, slice_get-set_other}
use Rattle.filter_rule.specs.PlanValue.{PlanValue}
use Rattle.board_laws.specs.Meaning.{State, TargetRows, Meaning}
use Rattle.board_laws.specs.Lawful.{IsLawful}
use Rattle.board_laws.proofs.Lookups.{Ties}
use Rattle.board_laws.specs.StateOrder.{state_cmp}
use Rattle.board_laws.specs.Chosen.{chosen, all_chosen}
use Rattle.board_laws.specs.Joined.{rows_from, board_of, joined}
use Rattle.board_laws.specs.Compatible.{OfEachStream, AreAlike, AreApart, AreCompatible}
use Rattle.board_laws.proofs.JoinedStates.{states_tie}
use Rattle.board_laws.proofs.JoinedPairs.{same_plan, chosen_plans, chosen_comm, at_chosen}
use Rattle.apply_core.specs.Private.Beside.{plans_in}

-- ---- places

-- lists that have the same at every place are the same
same_places : {A : Type 0} (xs ys : List A) → ((i : ℕ) → slice_get xs i ≡ slice_get ys i) → xs ≡ ys
same_places [] [] h = refl
same_places [] (y ∷ ys) h = let clash : None ≡ Some y = h 0 in cc
same_places (x ∷ xs) [] h = let clash : Some x ≡ None = h 0 in cc
same_places {A} (x ∷ xs) (y ∷ ys) h = ap (λ (z : A). z ∷ xs) (same_Some x y (h 0)) ∙ ap (λ (zs : List A). y ∷ zs) (same_places xs ys (λ i. h (suc i)))

read_is : {A : Type 0} (xs : List A) (i : ℕ) (x d : A) → slice_get xs i ≡ Some x → get_or xs i d ≡ x
read_is [] i x d e = cc
read_is (y ∷ xs) zero x d e = same_Some y x e
read_is (y ∷ xs) (suc i) x d e = read_is xs i x d e

beyond : {A : Type 0} (xs : List A) (i : ℕ) → length xs ≤ i → slice_get xs i ≡ None
beyond [] i le = refl
beyond (x ∷ xs) zero le = absurd (omega arith)
beyond (x ∷ xs) (suc i) le = beyond xs i (omega arith)

pub as_long : (xs ys : List State) → plans_in xs ≡ plans_in ys → length xs ≡ length ys
as_long xs ys e = sym (length-map xs (λ (s : State). s.plan)) ∙ ap (λ (ps : List PlanValue). length ps) e ∙ length-map ys (λ (s : State). s.plan)

pub chosen_long : (xs ys : List State) → plans_in xs ≡ plans_in ys → length (all_chosen xs ys) ≡ length xs
chosen_long xs ys e = as_long (all_chosen xs ys) xs (chosen_plans xs ys e)

-- what is read of a board's streams
pub stream_at : (items : List State) (rows : TargetRows) (board : Meaning) → ◌≡◌ {A = Meaning} (record { streams = items; rows = rows }) board
    → (s : ℕ) (x : State) → s < length board.streams → x ≡ get_or items s x → slice_get board.streams s ≡ Some x
stream_at items rows board seen s x inside is =
    let are : items ≡ board.streams = ap (λ (b : Meaning). b.streams) seen in
    sym (ap (λ (xs : List State). slice_get xs s) are) ∙ slice_get_read items (length items) s x refl (subst (λ (xs : List State). s < length xs) (sym are) inside) is

-- ---- the puts of the chosen state

module _ (xs ys : List State) (s : ℕ) (x y : State) (here : slice_get xs s ≡ Some x) (there : slice_get ys s ≡ Some y) where
  pub chosen_second : is_lt (state_cmp x y) ≡ true → slice_get (all_chosen xs ys) s ≡ slice_get ys s
  chosen_second e = at_chosen xs ys s x y here there ∙ ap (λ b. Some (cond b y x)) e ∙ sym there

  pub chosen_first : is_lt (state_cmp x y) ≡ false → slice_get (all_chosen xs ys) s ≡ slice_get xs s
  chosen_first e = at_chosen xs ys s x y here there ∙ ap (λ b. Some (cond b y x)) e ∙ sym here

-- ---- the streams that are left

-- up to stream n the states are the further ones, and from there on those of the boards
pub record AreFurther (xs ys : List State) (n : ℕ) (now others : List State) : Type 0 where
  pub long : length now ≡ length xs
  pub past : (t : ℕ) → t < n → slice_get now t ≡ slice_get (all_chosen xs ys) t
  pub one : (t : ℕ) → n ≤ t → slice_get now t ≡ slice_get xs t
  pub other : (t : ℕ) → n ≤ t → slice_get others t ≡ slice_get ys t

module _ (xs ys : List State) (n : ℕ) (now others : List State) (h : AreFurther xs ys n now others) (x y : State) (here : slice_get now n ≡ Some x) (there : slice_get others n ≡ Some y) where
  pub was_here : slice_get xs n ≡ Some x
  was_here = sym (h.one n (omega arith)) ∙ here

  pub was_there : slice_get ys n ≡ Some y
  was_there = sym (h.other n (omega arith)) ∙ there

  pub one_further : (z w : State) → z ≡ chosen x y → AreFurther xs ys (n + 1) (set now n z) (set others n w)
  one_further z w is = record {
    long = length-set now n z ∙ h.long;
    past = λ t less. by t (eq-or-lt_of_le (omega (arith, less)));
    one = λ t le. slice_get-set_other now n z t (above t le) ∙ h.one t (omega (arith, le));
    other = λ t le. slice_get-set_other others n w t (above t le) ∙ h.other t (omega (arith, le));
  }
    where
      above : (t : ℕ) → n + 1 ≤ t → t ≢ n
      above t le e = absurd (omega (arith, le, e))

      by : (t : ℕ) → (t ≡ n) ⊎ (t < n) → slice_get (set now n z) t ≡ slice_get (all_chosen xs ys) t
      by t (inl same) =
          ap (slice_get (set now n z)) same
          ∙ slice_get-set_same now n z x here
          ∙ ap (λ (v : State). Some v) is
          ∙ sym (at_chosen xs ys n x y was_here was_there)
          ∙ sym (ap (slice_get (all_chosen xs ys)) same)
      by t (inr before) = slice_get-set_other now n z t (λ e. absurd (omega (arith, before, e))) ∙ h.past t before

-- what is read of both at the next stream
module _ (xs ys : List State) (n : ℕ) (now others : List State) (plans : plans_in xs ≡ plans_in ys) (h : AreFurther xs ys n now others) (inside : n < length now) where
  pub here_at : (d : State) → slice_get now n ≡ Some (get_or now n d)
  here_at d = let p : (x : State) × (slice_get now n ≡ Some x) = place_of now n inside in p.1 ∙ ap (λ (z : State). Some z) (sym (read_is now n p.0 d p.1))

  pub there_at : (d : State) → slice_get others n ≡ Some (get_or others n d)
  there_at d =
      let p : (y : State) × (slice_get ys n ≡ Some y) = place_of ys n (subst (λ m. n < m) (h.long ∙ as_long xs ys plans) inside) in
      let q : slice_get others n ≡ Some p.0 = h.other n (omega arith) ∙ p.1 in
      q ∙ ap (λ (z : State). Some z) (sym (read_is others n p.0 d q))

pub all_further : (xs ys : List State) (n : ℕ) (now others : List State) → plans_in xs ≡ plans_in ys → AreFurther xs ys n now others → length now ≤ n → now ≡ all_chosen xs ys
all_further xs ys n now others plans h most = same_places now (all_chosen xs ys) (λ t. by t (cases_lt t n))
  where
    by : (t : ℕ) → (t < n) ⊎ (n ≤ t) → slice_get now t ≡ slice_get (all_chosen xs ys) t
    by t (inl less) = h.past t less
    by t (inr le) =
        let long : length (all_chosen xs ys) ≡ length now = chosen_long xs ys plans ∙ sym h.long in
        beyond now t (omega (arith, le, most)) ∙ sym (beyond (all_chosen xs ys) t (omega (arith, le, most, long)))

-- ---- plans, and boards that hold all further states

pub plans_by : (xs ys : List State) → length xs ≡ length ys → OfEachStream (λ x y. x.plan ≡ y.plan) xs ys → plans_in xs ≡ plans_in ys
plans_by [] [] long h = refl
plans_by [] (y ∷ ys) long h = absurd (omega (arith, long))
plans_by (x ∷ xs) [] long h = absurd (omega (arith, long))
plans_by (x ∷ xs) (y ∷ ys) long h =
    ap (λ (p : PlanValue). p ∷ plans_in xs) (h 0 x y refl refl) ∙ ap (λ (ps : List PlanValue). y.plan ∷ ps) (plans_by xs ys (omega (arith, long)) (λ s. h (suc s)))

pub none_further : (xs ys : List State) → length xs ≡ length ys → OfEachStream (λ x y. is_lt (state_cmp x y) ≡ false) xs ys → all_chosen xs ys ≡ xs
none_further [] ys long h = refl
none_further (x ∷ xs) [] long h = absurd (omega (arith, long))
none_further (x ∷ xs) (y ∷ ys) long h =
    ap (λ (z : State). z ∷ all_chosen xs ys) (ap (λ b. cond b y x) (h 0 x y refl refl)) ∙ ap (λ (zs : List State). x ∷ zs) (none_further xs ys (omega (arith, long)) (λ s. h (suc s)))

pub turned : (a b : Meaning) → AreAlike a b → AreAlike b a
turned a b alike = record {
  plans = sym alike.plans;
  histories = λ s x y p q. (elim (alike.histories s y x q p) [ inl left ↦ inr left | inr right ↦ inl right ]);
}

pub compatible : (a b : Meaning) → AreAlike a b → AreApart (all_chosen a.streams b.streams) → AreCompatible a b
compatible a b alike apart = record { plans = alike.plans; histories = alike.histories; apart = apart }

pub all_first : (a b : Meaning) → AreApart a.streams → AreAlike a b → all_chosen a.streams b.streams ≡ a.streams → AreCompatible a b × (all_chosen a.streams b.streams ≡ a.streams)
all_first a b apart alike is = (compatible a b alike (subst AreApart (sym is) apart), is)

-- where the second holds all further states either way round the same are chosen
pub all_second : (ties : Ties) (a b : Meaning) → IsLawful a → IsLawful b → AreApart b.streams → AreAlike a b → all_chosen b.streams a.streams ≡ b.streams
    → AreCompatible a b × (all_chosen a.streams b.streams ≡ b.streams)
all_second ties a b la lb apart alike is =
    let same : all_chosen a.streams b.streams ≡ all_chosen b.streams a.streams
    = chosen_comm a.streams b.streams (λ s x y p q tie. states_tie ties x y (la.sound s x p) (lb.sound s y q) (same_plan a.streams b.streams alike.plans s x y p q) (alike.histories s x y p q) tie) in
    (compatible a b alike (subst AreApart (sym (same ∙ is)) apart), same ∙ is)

-- ---- the joined board

module _ (a b : Meaning) where
  pub first_joined : (a ≡ board_of a.streams) → AreCompatible a b × (all_chosen a.streams b.streams ≡ a.streams) → AreCompatible a b × (a ≡ joined a b)
  first_joined one from = (from.0, one ∙ ap board_of (sym from.1))

  pub second_joined : (b ≡ board_of b.streams) → AreCompatible a b × (all_chosen a.streams b.streams ≡ b.streams) → AreCompatible a b × (b ≡ joined a b)
  second_joined one from = (from.0, one ∙ ap board_of (sym from.1))

  pub both_joined : (streams : List State) (rows : TargetRows) → streams ≡ all_chosen a.streams b.streams → rows ≡ rows_from 0 (all_chosen a.streams b.streams)
      → ◌≡◌ {A = Meaning} (record { streams = streams; rows = rows }) (joined a b)
  both_joined streams rows are have =
      let by_streams : List State → Meaning = λ xs. record { streams = xs; rows = rows } in
      let by_rows : TargetRows → Meaning = λ rs. record { streams = all_chosen a.streams b.streams; rows = rs } in
      ap by_streams are ∙ ap by_rows have

  pub both_lawful : (streams : List State) (rows : TargetRows) → streams ≡ all_chosen a.streams b.streams → rows ≡ rows_from 0 (all_chosen a.streams b.streams) → IsLawful (joined a b)
      → IsLawful (record { streams = streams; rows = rows })
  both_lawful streams rows are have lawful = subst (λ (m : Meaning). IsLawful m) (sym (both_joined streams rows are have)) lawful
