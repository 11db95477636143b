-- Whose rows are those of the chosen states, and the rows of both boards together.
use Rattle.std.proofs.Common.{◌≡◌, ◌≢◌, ◌==◌, ℕ, zero, suc, ◌+◌, ◌<◌, ◌≤◌, ◌⊎◌, inl, inr, Bool, true, false, not, cond, List, [], ◌∷◌, ◌++◌, take, Option, Some, None, slice_get, refl, sym, ap, subst, ◌∙◌, arith}
use Rattle.std.proofs.lemmas.Bool.{eqb-true, eq-eqb, ne_eqb, false≢true, true≢false}
use Rattle.std.proofs.lemmas.Cmp.{tied_itself}
use Rattle.std.proofs.lemmas.Option.{same_Some, none-some}
use Rattle.std.proofs.Math.Nat.{eq-or-lt_of_le}
use Rattle.std.specs.declared.cmp.Ordering.TheVariants.{Less, Equal, Greater}
use Rattle.std.specs.List.{AllByRecursion}
use Rattle.std.specs.Option.{option_or, option_map, option_and_then}
use Rattle.std.specs.Ordering.{ordering_reverse, is_lt}
use Rattle.list_laws.proofs.Fronts.{each}
use Rattle.pk_copy.specs.KeyOrder.{key_cmp}
use Rattle.pk_copy.specs.KeyOrderLaws.{key_cmp_total}
use Rattle.pk_copy.specs.KeyValue.{KeyValue}
use Rattle.target_tables.specs.Contents.{value_at}
use Rattle.target_tables.specs.Common.{common}
use Rattle.target_tables.specs.declared.merge_side.MergeSide.{MergeSide}
use Rattle.target_tables.specs.declared.merge_side.MergeSide.TheVariants.{First, Second}
use Rattle.target_tables.specs.Merged.{comes_from, is_second, of_part, AreMerged}
use Rattle.target_tables.specs.Rising.{IsRising}
use Rattle.target_tables.specs.Touches.{owner_in_the_way}
use Rattle.source_feed.specs.History.{RowValue}
use Rattle.board_laws.specs.Meaning.{State, TargetRows, Meaning}
use Rattle.board_laws.specs.Lawful.{IsLawful}
use Rattle.board_laws.specs.Cut.{cut_of, cut_in, own_row}
use Rattle.board_laws.specs.Step.{due_at}
use Rattle.board_laws.proofs.Lookups.{Ties, same_rows, all_right}
use Rattle.board_laws.specs.StateOrder.{state_cmp}
use Rattle.board_laws.specs.Chosen.{all_chosen}
use Rattle.board_laws.specs.Joined.{rows_from}
use Rattle.board_laws.specs.Compatible.{AreApart}
use Rattle.board_laws.specs.RefusedJoin.{IsFirstClash}
use Rattle.board_laws.proofs.JoinedPairs.{partner, IsChosenOf, chosen_at}
use Rattle.board_laws.proofs.JoinedRows.{row_of_one, rising_from, value_from, IsRowOf, whose, some_row}
use Rattle.apply_core.specs.Private.Beside.{plans_in}
use Rattle.apply_core.specs.Private.Meeting.{side_by, AreFurtherSides, Met, clashes, IsNoneBefore, IsNoneUpTo, NoneClash, IsFirstMet}
use Rattle.apply_core.proofs.JoinLaws.{chosen_first, chosen_second}
use Rattle.apply_core.proofs.FirstMetLaws.{all_join, never}
use Rattle.apply_core.proofs.CommonLaws.{Stands, all_stand, rising_common, of_common}

-- ---- whose rows are those of the chosen states

own_of : (s : ℕ) (v : Option (ℕ × RowValue)) (row : RowValue) → own_row s v ≡ Some row → v ≡ Some (s, row)
own_of s None row e = absurd (none-some row e)
own_of s (Some there) row e = by (there.0 == s) refl
  where
    by : (b : Bool) → (there.0 == s) ≡ b → Some there ≡ Some (s, row)
    by true q =
        let value : there.1 ≡ row = same_Some there.1 row (sym (ap (λ b. cond b (Some there.1) None) q) ∙ e) in
        ap (λ (n : ℕ). Some (n, there.1)) (eqb-true there.0 s q) ∙ ap (λ (r : RowValue). Some (s, r)) value
    by false q = absurd (none-some row (sym (ap (λ b. cond b (Some there.1) None) q) ∙ e))

own_there : (v : ℕ × RowValue) → own_row v.0 (Some v) ≡ Some v.1
own_there v = ap (λ b. cond b (Some v.1) None) (eq-eqb v.0 v.0 refl)

-- a stream's cut has this row
pub record HasCut (states : List State) (s : ℕ) (k : KeyValue) (row : RowValue) : Type 0 where
  pub state : State
  pub here : slice_get states s ≡ Some state
  pub cut : cut_of state k ≡ Some row

not_is : (b : Bool) → not b ≡ true → b ≡ false
not_is true e = sym e
not_is false e = refl

second_side : (b : Bool) → is_second (Some (side_by b)) ≡ b
second_side true = refl
second_side false = refl

has_a_cut : (board : Meaning) → IsLawful board → (k : KeyValue) (v : ℕ × RowValue) → value_at key_cmp board.rows k ≡ Some v → HasCut board.streams v.0 k v.1
has_a_cut board lawful k v e = by (slice_get board.streams v.0) refl
  where
    cut : cut_in board v.0 k ≡ Some v.1
    cut = sym (lawful.cuts v.0 k) ∙ ap (own_row v.0) e ∙ own_there v

    by : (o : Option State) → slice_get board.streams v.0 ≡ o → HasCut board.streams v.0 k v.1
    by None q = absurd (none-some v.1 (sym (ap (λ (o : Option State). option_and_then (λ state. cut_of state k) o) q) ∙ cut))
    by (Some x) q = record { state = x; here = q; cut = sym (ap (λ (o : Option State). option_and_then (λ state. cut_of state k) o) q) ∙ cut }

row_of_cut : (board : Meaning) → IsLawful board → (s : ℕ) (x : State) (k : KeyValue) (row : RowValue) → slice_get board.streams s ≡ Some x → cut_of x k ≡ Some row → value_at key_cmp board.rows k ≡ Some (s, row)
row_of_cut board lawful s x k row here cut =
    own_of s (value_at key_cmp board.rows k) row (lawful.cuts s k ∙ ap (λ (o : Option State). option_and_then (λ state. cut_of state k) o) here ∙ cut)

module _ (ties : Ties) (a b : Meaning) (sides : List MergeSide) (la : IsLawful a) (lb : IsLawful b) (plans : plans_in a.streams ≡ plans_in b.streams) (are : AreFurtherSides a.streams b.streams sides) where
  abbrev all : List State
  all = all_chosen a.streams b.streams

  abbrev met : List Met
  met = common key_cmp a.rows b.rows

  -- a row of a stream that comes from its board is that of the chosen state's cut
  stays_first : (k : KeyValue) (v : ℕ × RowValue) → value_at key_cmp a.rows k ≡ Some v → comes_from sides First v.0 ≡ true → HasCut all v.0 k v.1
  stays_first k v e from =
      let cut : HasCut a.streams v.0 k v.1 = has_a_cut a la k v e in
      let other : (y : State) × (slice_get b.streams v.0 ≡ Some y) = partner a.streams b.streams plans v.0 cut.state cut.here in
      let less : is_lt (state_cmp cut.state other.0) ≡ false = not_is (is_lt (state_cmp cut.state other.0)) (ap not (sym (second_side (is_lt (state_cmp cut.state other.0)))) ∙ sym (ap (λ (o : Option MergeSide). not (is_second o)) (are v.0 cut.state other.0 cut.here other.1)) ∙ from) in
      record { state = cut.state; here = chosen_first a.streams b.streams v.0 cut.state other.0 cut.here other.1 less ∙ cut.here; cut = cut.cut }

  stays_second : (k : KeyValue) (v : ℕ × RowValue) → value_at key_cmp b.rows k ≡ Some v → comes_from sides Second v.0 ≡ true → HasCut all v.0 k v.1
  stays_second k v e from =
      let cut : HasCut b.streams v.0 k v.1 = has_a_cut b lb k v e in
      let other : (x : State) × (slice_get a.streams v.0 ≡ Some x) = partner b.streams a.streams (sym plans) v.0 cut.state cut.here in
      let less : is_lt (state_cmp other.0 cut.state) ≡ true = sym (second_side (is_lt (state_cmp other.0 cut.state))) ∙ sym (ap is_second (are v.0 other.0 cut.state other.1 cut.here)) ∙ from in
      record { state = cut.state; here = chosen_second a.streams b.streams v.0 other.0 cut.state other.1 cut.here less ∙ cut.here; cut = cut.cut }

  -- from which board a row of a chosen state's cut comes
  abbrev ComesFrom : ℕ → KeyValue → RowValue → Type 0
  ComesFrom s k row = ((comes_from sides First s ≡ true) × (value_at key_cmp a.rows k ≡ Some (s, row))) ⊎ ((comes_from sides Second s ≡ true) × (value_at key_cmp b.rows k ≡ Some (s, row)))

  comes : (s : ℕ) (z : State) (k : KeyValue) (row : RowValue) → slice_get all s ≡ Some z → cut_of z k ≡ Some row → ComesFrom s k row
  comes s z k row e cut = by (is_lt (state_cmp of.one of.other)) refl
    where
      of : IsChosenOf a.streams b.streams s z
      of = chosen_at a.streams b.streams s z e

      side : slice_get sides s ≡ Some (side_by (is_lt (state_cmp of.one of.other)))
      side = are s of.one of.other of.here of.there

      by : (r : Bool) → is_lt (state_cmp of.one of.other) ≡ r → ComesFrom s k row
      by true q =
          let is : z ≡ of.other = of.is ∙ ap (λ (b : Bool). cond b of.other of.one) q in
          inr (ap is_second side ∙ second_side (is_lt (state_cmp of.one of.other)) ∙ q, row_of_cut b lb s of.other k row of.there (sym (ap (λ (x : State). cut_of x k) is) ∙ cut))
      by false q =
          let is : z ≡ of.one = of.is ∙ ap (λ (b : Bool). cond b of.other of.one) q in
          inl (ap (λ (o : Option MergeSide). not (is_second o)) side ∙ ap not (second_side (is_lt (state_cmp of.one of.other)) ∙ q), row_of_cut a la s of.one k row of.here (sym (ap (λ (x : State). cut_of x k) is) ∙ cut))

  both_true : (s t : ℕ) → comes_from sides First s ≡ true → comes_from sides Second t ≡ true → clashes sides s t ≡ true
  both_true s t p q = ap (λ (b : Bool). cond b (comes_from sides Second t) false) p ∙ q

  parted : (s t : ℕ) → clashes sides s t ≡ true → (comes_from sides First s ≡ true) × (comes_from sides Second t ≡ true)
  parted s t = by (comes_from sides First s)
    where
      by : (b : Bool) → cond b (comes_from sides Second t) false ≡ true → (b ≡ true) × (comes_from sides Second t ≡ true)
      by true e = (refl, e)
      by false e = absurd (false≢true e)

  other_streams : (s : ℕ) → comes_from sides First s ≡ true → comes_from sides Second s ≡ true → ⊥
  other_streams s p q = true≢false (sym q ∙ not_is (comes_from sides Second s) p)

  same_stream : (s t : ℕ) (r q : RowValue) (o : Option (ℕ × RowValue)) → o ≡ Some (s, r) → o ≡ Some (t, q) → s ≡ t
  same_stream s t r q o e f = ap (λ (v : ℕ × RowValue). v.0) (same_Some (s, r) (t, q) (sym e ∙ f))

  -- two streams with rows at one key are one, or their rows clash
  module _ (P : Met → Type 0) (each_met : AllByRecursion P met) where
    two : (s t : ℕ) (k : KeyValue) (r q : RowValue) → ComesFrom s k r → ComesFrom t k q → (s ≡ t) ⊎ ((P (k, (s, t)) × (clashes sides s t ≡ true)) ⊎ (P (k, (t, s)) × (clashes sides t s ≡ true)))
    two s t k r q (inl x) (inl y) = inl (same_stream s t r q (value_at key_cmp a.rows k) x.1 y.1)
    two s t k r q (inr x) (inr y) = inl (same_stream s t r q (value_at key_cmp b.rows k) x.1 y.1)
    two s t k r q (inl x) (inr y) = inr (inl (of_common ties P a.rows b.rows k (s, r) (t, q) x.1 y.1 each_met, both_true s t x.0 y.0))
    two s t k r q (inr x) (inl y) = inr (inr (of_common ties P a.rows b.rows k (t, q) (s, r) y.1 x.1 each_met, both_true t s y.0 x.0))

  a_row : (o : Option RowValue) → o ≢ None → (row : RowValue) × (o ≡ Some row)
  a_row None h = absurd (h refl)
  a_row (Some row) h = (row, refl)

  -- where no rows clash no key has rows in two cuts
  pub none_apart : NoneClash sides met → AreApart all
  none_apart none s t x y k p q c d =
      let r : (row : RowValue) × (cut_of x k ≡ Some row) = a_row (cut_of x k) c in
      let u : (row : RowValue) × (cut_of y k ≡ Some row) = a_row (cut_of y k) d in
      elim (two (λ (m : Met). clashes sides m.1.0 m.1.1 ≡ false) none s t k r.0 u.0 (comes s x k r.0 p r.1) (comes t y k u.0 q u.1)) [
        | inl same ↦ same
        | inr clash ↦ elim clash [ inl l ↦ never (clashes sides s t) l.0 l.1 | inr l ↦ never (clashes sides t s) l.0 l.1 ]
      ]

  -- ---- the first rows that clash

  module _ (key : KeyValue) (later lower : ℕ) (h : IsFirstMet sides met key later lower) where
    abbrev here : Met
    here = h.met

    marked : (comes_from sides First here.1.0 ≡ true) × (comes_from sides Second here.1.1 ≡ true)
    marked = parted here.1.0 here.1.1 h.clash

    stands : Stands a.rows b.rows here
    stands = (all_right (Stands a.rows b.rows) h.front (h.met ∷ h.back) (subst (AllByRecursion (Stands a.rows b.rows)) h.parts (all_stand a.rows b.rows la.rising))).0

    cut_here : HasCut all here.1.0 key stands.first.1
    cut_here =
        subst (λ (n : ℕ). HasCut all n key stands.first.1) (sym stands.stream)
        (subst (λ (k : KeyValue). HasCut all stands.first.0 k stands.first.1) (sym h.is)
        (stays_first here.0 stands.first stands.here (sym (ap (comes_from sides First) stands.stream) ∙ marked.0)))

    cut_there : HasCut all here.1.1 key stands.second.1
    cut_there =
        subst (λ (n : ℕ). HasCut all n key stands.second.1) (sym stands.beside)
        (subst (λ (k : KeyValue). HasCut all stands.second.0 k stands.second.1) (sym h.is)
        (stays_second here.0 stands.second stands.there (sym (ap (comes_from sides Second) stands.beside) ∙ marked.1)))

    -- the later stream's cut, and the lower one's
    pub record Both : Type 0 where
      pub row : RowValue
      pub under : RowValue
      pub mine : HasCut all later key row
      pub its : HasCut all lower key under
      pub less : lower < later

    differ : here.1.0 ≢ here.1.1
    differ e = other_streams here.1.0 marked.0 (ap (comes_from sides Second) e ∙ marked.1)

    both : Both
    both = elim h.order [
      | inl o ↦ record {
        row = stands.first.1;
        under = stands.second.1;
        mine = subst (λ (n : ℕ). HasCut all n key stands.first.1) (sym o.0) cut_here;
        its = subst (λ (n : ℕ). HasCut all n key stands.second.1) (sym o.1) cut_there;
        less = apart_less here.1.1 here.1.0 lower later o.1 o.0 o.2 (λ e. differ (sym e));
      }
      | inr o ↦ record {
        row = stands.second.1;
        under = stands.first.1;
        mine = subst (λ (n : ℕ). HasCut all n key stands.second.1) (sym o.0) cut_there;
        its = subst (λ (n : ℕ). HasCut all n key stands.first.1) (sym o.1) cut_here;
        less = apart_less here.1.0 here.1.1 lower later o.1 o.0 o.2 differ;
      }
    ]
      where
        apart_less : (s t n m : ℕ) → n ≡ s → m ≡ t → s ≤ t → s ≢ t → n < m
        apart_less s t n m p q le ne = elim (eq-or-lt_of_le le) [ inl e ↦ absurd (ne e) | inr l ↦ omega (arith, p, q, l) ]

    -- no rows of two streams below the later one clash
    none_below : AllByRecursion (IsNoneBefore sides later) met
    none_below =
        subst (AllByRecursion (IsNoneBefore sides later)) (sym h.parts)
        (all_join (IsNoneBefore sides later) h.front (h.met ∷ h.back)
        (each (IsNoneUpTo sides later) (IsNoneBefore sides later) (λ m f c. elim (f c) [ inl l ↦ inl (omega (arith, l)) | inr l ↦ inr (omega (arith, l)) ]) h.front h.before)
        ((λ _. (elim h.order [ inl o ↦ inl (let e : later ≡ h.met.1.0 = o.0 in omega (arith, e)) | inr o ↦ inr (let e : later ≡ h.met.1.1 = o.0 in omega (arith, e)) ])), h.behind))

    -- nor does a row at a lesser key with one of the later stream
    abbrev IsNoneAtLesser : Met → Type 0
    IsNoneAtLesser m = key_cmp m.0 key ≡ Less → IsNoneUpTo sides later m

    none_lesser : AllByRecursion IsNoneAtLesser met
    none_lesser =
        subst (AllByRecursion IsNoneAtLesser) (sym h.parts)
        (all_join IsNoneAtLesser h.front (h.met ∷ h.back)
        (each (IsNoneUpTo sides later) IsNoneAtLesser (λ m f _. f) h.front h.before) (
          (λ less. absurd (not_itself (ap (λ (k : KeyValue). key_cmp k key) h.is ∙ less))),
          each (λ (m : Met). key_cmp h.met.0 m.0 ≡ Less) IsNoneAtLesser (λ m up less. absurd (not_both m up less)) h.back behind,
        ))
      where
        not_itself : key_cmp key key ≡ Less → ⊥
        not_itself e = let clash : Equal ≡ Less = sym (tied_itself key_cmp_total key) ∙ e in cc

        not_both : (m : Met) → key_cmp h.met.0 m.0 ≡ Less → key_cmp m.0 key ≡ Less → ⊥
        not_both m up less =
            let greater : key_cmp m.0 h.met.0 ≡ Greater = key_cmp_total.antisymm m.0 h.met.0 ∙ ap ordering_reverse up in
            let clash : Greater ≡ Less = sym (ap (key_cmp m.0) h.is ∙ greater) ∙ less in
            cc

        behind_of : (front : List Met) (x : Met) (back : List Met) → IsRising key_cmp (front ++ x ∷ back) → AllByRecursion (λ (m : Met). key_cmp x.0 m.0 ≡ Less) back
        behind_of [] x back r = r.0
        behind_of (y ∷ front) x back r = behind_of front x back r.1

        behind : AllByRecursion (λ (m : Met). key_cmp h.met.0 m.0 ≡ Less) h.back
        behind = behind_of h.front h.met h.back (subst (λ (l : List Met). IsRising key_cmp l) h.parts (rising_common a.rows b.rows la.rising))

    abbrev below : List State
    below = take later all

    from_take : (n s : ℕ) (xs : List State) (x : State) → slice_get (take n xs) s ≡ Some x → (s < n) × (slice_get xs s ≡ Some x)
    from_take n s xs x e = taken n xs s x e
      where
        taken : (n : ℕ) (xs : List State) (s : ℕ) (x : State) → slice_get (take n xs) s ≡ Some x → (s < n) × (slice_get xs s ≡ Some x)
        taken zero xs s x e = cc
        taken (suc n) [] s x e = cc
        taken (suc n) (y ∷ xs) zero x e = (omega arith, e)
        taken (suc n) (y ∷ xs) (suc s) x e = let r : (s < n) × (slice_get xs s ≡ Some x) = taken n xs s x e in (omega (arith, r.0), r.1)

    to_take : (n : ℕ) (xs : List State) (s : ℕ) (x : State) → s < n → slice_get xs s ≡ Some x → slice_get (take n xs) s ≡ Some x
    to_take zero xs s x less e = absurd (omega arith)
    to_take (suc n) [] s x less e = cc
    to_take (suc n) (y ∷ xs) zero x less e = e
    to_take (suc n) (y ∷ xs) (suc s) x less e = to_take n xs s x (omega arith) e

    too_low : (s t : ℕ) → s < later → t < later → (later ≤ s) ⊎ (later ≤ t) → ⊥
    too_low s t p q (inl l) = absurd (omega (arith, p, l))
    too_low s t p q (inr l) = absurd (omega (arith, q, l))

    apart_below : AreApart below
    apart_below s t x y k p q c d =
        let r : (row : RowValue) × (cut_of x k ≡ Some row) = a_row (cut_of x k) c in
        let u : (row : RowValue) × (cut_of y k ≡ Some row) = a_row (cut_of y k) d in
        let f : (s < later) × (slice_get all s ≡ Some x) = from_take later s all x p in
        let g : (t < later) × (slice_get all t ≡ Some y) = from_take later t all y q in
        elim (two (IsNoneBefore sides later) none_below s t k r.0 u.0 (comes s x k r.0 f.1 r.1) (comes t y k u.0 g.1 u.1)) [
          | inl same ↦ same
          | inr clash ↦ elim clash [ inl l ↦ absurd (too_low s t f.0 g.0 (l.0 l.1)) | inr l ↦ absurd (too_low t s g.0 f.0 (l.0 l.1)) ]
        ]

    in_way : (row : RowValue) (v : ℕ × RowValue) → v.0 ≢ later → owner_in_the_way later (Some (Some row)) (Some v) ≡ Some v.0
    in_way row v ne = ap (λ (b : Bool). cond b None (Some v.0)) (ne_eqb v.0 later ne)

    due_is : (z : State) (k : KeyValue) (c : Option RowValue) → cut_of z k ≡ c → due_at z k ≡ option_map Some c
    due_is z k c e = ap (λ (c : Option RowValue). option_map Some c) e

    at_below : (k : KeyValue) (o : Option (ℕ × RowValue)) → row_of_one 0 below k ≡ o → value_at key_cmp (rows_from 0 below) k ≡ o
    at_below k o e = value_from ties 0 below k ∙ e

    clash_here : owner_in_the_way later (due_at both.mine.state key) (value_at key_cmp (rows_from 0 below) key) ≡ Some lower
    clash_here = by (row_of_one 0 below key) refl
      where
        low : slice_get below lower ≡ Some both.its.state
        low = to_take later all lower both.its.state both.less both.its.here

        a_cut : cut_of both.its.state key ≢ None
        a_cut n = none-some both.under (sym n ∙ both.its.cut)

        by : (o : Option (ℕ × RowValue)) → row_of_one 0 below key ≡ o → owner_in_the_way later (due_at both.mine.state key) (value_at key_cmp (rows_from 0 below) key) ≡ Some lower
        by None e = absurd (some_row 0 below key lower both.its.state low a_cut e)
        by (Some v) e =
            let of : IsRowOf 0 below key v = whose 0 below key v e in
            let same : of.place ≡ lower = apart_below of.place lower of.state both.its.state key of.here low (λ n. none-some v.1 (sym n ∙ of.cut)) a_cut in
            let number : v.0 ≡ 0 + of.place = of.number in
            let is : v.0 ≡ lower = omega (arith, number, same) in
            let less : lower < later = both.less in
            ap (λ (o : Option (Option RowValue)). owner_in_the_way later o (value_at key_cmp (rows_from 0 below) key)) (due_is both.mine.state key (Some both.row) both.mine.cut)
            ∙ ap (owner_in_the_way later (Some (Some both.row))) (at_below key (Some v) e)
            ∙ in_way both.row v (λ n. absurd (omega (arith, n, is, less)))
            ∙ ap (λ (n : ℕ). Some n) is

    none_less : (k : KeyValue) → key_cmp k key ≡ Less → owner_in_the_way later (due_at both.mine.state k) (value_at key_cmp (rows_from 0 below) k) ≡ None
    none_less k smaller = by (cut_of both.mine.state k) refl (row_of_one 0 below k) refl
      where
        no_more : (s t : ℕ) → s ≡ later → t < later → (later < s) ⊎ (later < t) → ⊥
        no_more s t p q (inl l) = absurd (omega (arith, p, l))
        no_more s t p q (inr l) = absurd (omega (arith, q, l))

        turned_more : (s t : ℕ) → s ≡ later → t < later → (later < t) ⊎ (later < s) → ⊥
        turned_more s t p q (inl l) = absurd (omega (arith, q, l))
        turned_more s t p q (inr l) = absurd (omega (arith, p, l))

        by : (c : Option RowValue) → cut_of both.mine.state k ≡ c → (o : Option (ℕ × RowValue)) → row_of_one 0 below k ≡ o → owner_in_the_way later (due_at both.mine.state k) (value_at key_cmp (rows_from 0 below) k) ≡ None
        by None e o f = ap (λ (o : Option (Option RowValue)). owner_in_the_way later o (value_at key_cmp (rows_from 0 below) k)) (due_is both.mine.state k None e)
        by (Some row) e None f =
            ap (λ (o : Option (Option RowValue)). owner_in_the_way later o (value_at key_cmp (rows_from 0 below) k)) (due_is both.mine.state k (Some row) e)
            ∙ ap (owner_in_the_way later (Some (Some row))) (at_below k None f)
        by (Some row) e (Some v) f =
            let of : IsRowOf 0 below k v = whose 0 below k v f in
            let low : (of.place < later) × (slice_get all of.place ≡ Some of.state) = from_take later of.place all of.state of.here in
            absurd (elim (two IsNoneAtLesser none_lesser later of.place k row v.1 (comes later both.mine.state k row both.mine.here e) (comes of.place of.state k v.1 low.1 of.cut)) [
              | inl same ↦ absurd (omega (arith, same, low.0))
              | inr clash ↦ elim clash [ inl l ↦ no_more later of.place refl low.0 (l.0 smaller l.1) | inr l ↦ turned_more later of.place refl low.0 (l.0 smaller l.1) ]
            ])

    pub first_clash : IsFirstClash all key lower
    first_clash = record {
      stream = later;
      state = both.mine.state;
      here = both.mine.here;
      lower = apart_below;
      least = record { here = clash_here; none_less = none_less };
    }

  -- ---- the rows of both together

  -- what is made of the two boards' rows by the sides of the streams is the rows of the chosen states
  pub rows_of_both : (merged : TargetRows) → AreApart all → AreMerged key_cmp sides a.rows b.rows merged → merged ≡ rows_from 0 all
  rows_of_both merged apart h = same_rows ties merged (rows_from 0 all) h.rising (rising_from 0 all) (λ k. h.values k ∙ by k (row_of_one 0 all k) refl ∙ sym (value_from ties 0 all k))
    where
      none_of : (v : Option (ℕ × RowValue)) (test : ℕ → Bool) → ((w : ℕ × RowValue) → v ≡ Some w → test w.0 ≡ true → ⊥) → of_part test v ≡ None
      none_of None test f = refl
      none_of (Some w) test f = pass (test w.0) refl
        where
          pass : (b : Bool) → test w.0 ≡ b → cond b (Some w) None ≡ None
          pass true e = absurd (f w refl e)
          pass false e = refl

      is_of : (v : Option (ℕ × RowValue)) (test : ℕ → Bool) (w : ℕ × RowValue) → v ≡ Some w → test w.0 ≡ true → of_part test v ≡ Some w
      is_of v test w e t = ap (of_part test) e ∙ ap (λ (b : Bool). cond b (Some w) None) t

      first : KeyValue → Option (ℕ × RowValue)
      first k = of_part (comes_from sides First) (value_at key_cmp a.rows k)

      second : KeyValue → Option (ℕ × RowValue)
      second k = of_part (comes_from sides Second) (value_at key_cmp b.rows k)

      by : (k : KeyValue) (o : Option (ℕ × RowValue)) → row_of_one 0 all k ≡ o → option_or (first k) (second k) ≡ row_of_one 0 all k
      by k None e =
          let no : (s : ℕ) (row : RowValue) → HasCut all s k row → ⊥ = λ s row cut. some_row 0 all k s cut.state cut.here (λ n. none-some row (sym n ∙ cut.cut)) e in
          ap (λ (v : Option (ℕ × RowValue)). option_or v (second k)) (none_of (value_at key_cmp a.rows k) (comes_from sides First) (λ w p t. no w.0 w.1 (stays_first k w p t)))
          ∙ none_of (value_at key_cmp b.rows k) (comes_from sides Second) (λ w p t. no w.0 w.1 (stays_second k w p t))
          ∙ sym e
      by k (Some v) e = found (comes of.place of.state k v.1 of.here of.cut) ∙ sym e
        where
          of : IsRowOf 0 all k v
          of = whose 0 all k v e

          is : ◌≡◌ {A = Option (ℕ × RowValue)} (Some (of.place, v.1)) (Some v)
          is = let number : v.0 ≡ 0 + of.place = of.number in ap (λ (n : ℕ). Some (n, v.1)) (let n : of.place ≡ v.0 = omega (arith, number) in n)

          found : ComesFrom of.place k v.1 → option_or (first k) (second k) ≡ Some v
          found (inl x) = ap (λ (w : Option (ℕ × RowValue)). option_or w (second k)) (is_of (value_at key_cmp a.rows k) (comes_from sides First) (of.place, v.1) x.1 x.0) ∙ is
          found (inr x) =
              ap (λ (w : Option (ℕ × RowValue)). option_or w (second k))
              (none_of (value_at key_cmp a.rows k) (comes_from sides First)
              (λ w p t.
              let cut : HasCut all w.0 k w.1 = stays_first k w p t in
              let same : w.0 ≡ of.place = apart w.0 of.place cut.state of.state k cut.here of.here (λ n. none-some w.1 (sym n ∙ cut.cut)) (λ n. none-some v.1 (sym n ∙ of.cut)) in
              other_streams of.place (sym (ap (comes_from sides First) same) ∙ t) x.0))
              ∙ is_of (value_at key_cmp b.rows k) (comes_from sides Second) (of.place, v.1) x.1 x.0
              ∙ is
