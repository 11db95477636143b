-- The streams of two boards side by side: lists that begin one another, and plans.
use Rattle.std.proofs.Common.{◌≡◌, ℕ, zero, suc, ◌+◌, ◌<◌, ◌≤◌, ◌⊎◌, inl, inr, ◌↔◌, Bool, List, [], ◌∷◌, length, take, Some, None, slice_get, IsTrue, refl, sym, ap, subst, ◌∙◌, arith, lt_irrefl}
use Rattle.std.proofs.Math.Nat.{eq-or-lt_of_le}
use Rattle.std.proofs.lemmas.Option.{same_Some, slice_get_within}
use Rattle.list_laws.proofs.Places.{slice_get-take}
use Rattle.filter_rule.specs.PlanValue.{PlanValue}
use Rattle.source_feed.specs.GroupValue.{Position}
use Rattle.source_feed.specs.Prepared.{IsSameGroup}
use Rattle.source_feed.specs.Touches.{TouchValue, PreparedValue}
use Rattle.board_laws.specs.Meaning.{State}
use Rattle.board_laws.specs.Lawful.{IsSoundState}
use Rattle.board_laws.specs.Compatible.{IsBeginning}
use Rattle.apply_core.specs.Private.Beside.{AreSameGroups, AreSameFirst}

-- ---- groups one after another

at_place : {A : Type 0} (xs : List A) (i : ℕ) → i < length xs → (x : A) × (slice_get xs i ≡ Some x)
at_place [] i less = absurd (omega arith)
at_place (x ∷ xs) zero less = (x, refl)
at_place (x ∷ xs) (suc i) less = at_place xs i (omega arith)

module _ (front whole : List PreparedValue) where
  -- a front has no more groups than the whole
  pub too_long : length whole < length front → AreSameGroups front whole → ⊥
  too_long longer all =
      let last : (x : PreparedValue) × (slice_get front (length whole) ≡ Some x) = at_place front (length whole) longer in
      let there : (y : PreparedValue) × (slice_get whole (length whole) ≡ Some y) × IsSameGroup last.0 y = all (length whole) last.0 last.1 in
      lt_irrefl (length whole) (slice_get_within whole (length whole) there.0 there.1)

  pub group_here : (i : ℕ) (x y : PreparedValue) → slice_get front i ≡ Some x → slice_get whole i ≡ Some y → AreSameGroups front whole → IsSameGroup x y
  group_here i x y p q all =
      let there : (z : PreparedValue) × (slice_get whole i ≡ Some z) × IsSameGroup x z = all i x p in
      subst (λ (z : PreparedValue). IsSameGroup x z) (same_Some there.0 y (sym there.1 ∙ q)) there.2

  pub one_more_group : (n : ℕ) (x y : PreparedValue) → slice_get front n ≡ Some x → slice_get whole n ≡ Some y → IsSameGroup x y → AreSameFirst n front whole → AreSameFirst (n + 1) front whole
  one_more_group n x y p q same so_far i z less e = by (eq-or-lt_of_le (omega (arith, less)))
    where
      by : (i ≡ n) ⊎ (i < n) → (w : PreparedValue) × (slice_get whole i ≡ Some w) × IsSameGroup z w
      by (inl is) = (y, ap (slice_get whole) is ∙ q, subst (λ (w : PreparedValue). IsSameGroup w y) (same_Some x z (sym p ∙ sym (ap (slice_get front) is) ∙ e)) same)
      by (inr before) = so_far i z before e

  pub all_groups : (n : ℕ) → length front ≤ n → AreSameFirst n front whole → AreSameGroups front whole
  all_groups n most so_far i x e = let inside : i < length front = slice_get_within front i x e in so_far i x (omega (arith, inside, most)) e

-- ---- a read list that begins another

same_group : (x y : PreparedValue) → x.plan ≡ y.plan → IsSameGroup x y → x ≡ y
same_group x y plan same =
    let by_plan : PlanValue → PreparedValue = λ p. record { plan = p; number = x.number; position = x.position; touches = x.touches } in
    let by_number : ℕ → PreparedValue = λ n. record { plan = y.plan; number = n; position = x.position; touches = x.touches } in
    let by_position : Position → PreparedValue = λ p. record { plan = y.plan; number = y.number; position = p; touches = x.touches } in
    let by_touches : List TouchValue → PreparedValue = λ t. record { plan = y.plan; number = y.number; position = y.position; touches = t } in
    ap by_plan plan ∙ ap by_number same.number ∙ ap by_position same.position ∙ ap by_touches same.touches

begins_by : (front whole : List PreparedValue) → ((i : ℕ) (x : PreparedValue) → slice_get front i ≡ Some x → slice_get whole i ≡ Some x) → IsBeginning front whole
begins_by [] whole h = refl
begins_by (x ∷ front) [] h = let clash : None ≡ Some x = h 0 x refl in cc
begins_by (x ∷ front) (y ∷ whole) h =
    ap (λ (z : PreparedValue). z ∷ take (length front) whole) (same_Some y x (h 0 x refl))
    ∙ ap (λ (zs : List PreparedValue). x ∷ zs) (begins_by front whole (λ i z e. h (suc i) z e))

module _ (x y : State) (front whole : List PreparedValue) (is : front ≡ x.list) (also : whole ≡ y.list) (one : IsSoundState x) (other : IsSoundState y) (plan : x.plan ≡ y.plan) where
  equal_groups : AreSameGroups front whole → IsBeginning x.list y.list
  equal_groups all =
      begins_by x.list y.list
      (λ i g e.
      let there : (w : PreparedValue) × (slice_get whole i ≡ Some w) × IsSameGroup g w = all i g (ap (λ (l : List PreparedValue). slice_get l i) is ∙ e) in
      let here : slice_get y.list i ≡ Some there.0 = sym (ap (λ (l : List PreparedValue). slice_get l i) also) ∙ there.1 in
      here ∙ ap Some (sym (same_group g there.0 (one.list.planned i g e ∙ plan ∙ sym (other.list.planned i there.0 here)) there.2)))

  same_groups : IsBeginning x.list y.list → AreSameGroups front whole
  same_groups begins i g e =
      let here : slice_get x.list i ≡ Some g = sym (ap (λ (l : List PreparedValue). slice_get l i) is) ∙ e in
      let there : slice_get y.list i ≡ Some g = slice_get-take (length x.list) y.list i g (ap (λ (l : List PreparedValue). slice_get l i) begins ∙ here) in
      (g, ap (λ (l : List PreparedValue). slice_get l i) also ∙ there, record { number = refl; position = refl; touches = refl })

  pub begins_as : (r : Bool) → (IsTrue r ↔ AreSameGroups front whole) → (IsTrue r ↔ IsBeginning x.list y.list)
  begins_as r h = (λ t. equal_groups (h.0 t), λ begins. h.1 (same_groups begins))
