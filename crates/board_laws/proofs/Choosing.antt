-- The greater of two by a total order: either way round, of three, and which two of three it is the greater of.
use Rattle.std.proofs.Common.{◌≡◌, ◌⊎◌, inl, inr, Bool, true, false, cond, Ordering, refl, sym, ap, ◌∙◌}
use Rattle.std.proofs.lemmas.Bool.{true≢false}
use Rattle.std.proofs.lemmas.Cmp.{upto}
use Rattle.std.specs.Cmp.{IsTotalOrder}
use Rattle.std.specs.declared.cmp.Ordering.TheVariants.{Less, Equal, Greater}
use Rattle.std.specs.Ordering.{ordering_reverse, is_lt, is_gt}

less-is : (r : Ordering) → is_lt r ≡ true → r ≡ Less
less-is Less e = refl
less-is Equal e = absurd (true≢false (sym e))
less-is Greater e = absurd (true≢false (sym e))

turned : (r : Ordering) → is_lt (ordering_reverse r) ≡ is_gt r
turned Less = refl
turned Equal = refl
turned Greater = refl

turned_back : (r : Ordering) → is_gt (ordering_reverse r) ≡ is_lt r
turned_back Less = refl
turned_back Equal = refl
turned_back Greater = refl

module _ {X : Type 0} (cmp : X → X → Ordering) (total : IsTotalOrder cmp) where
  abbrev lt : X → X → Bool
  lt x y = is_lt (cmp x y)

  abbrev pub greater : X → X → X
  greater x y = cond (is_lt (cmp x y)) y x

  right_of : (x y : X) → lt x y ≡ true → greater x y ≡ y
  right_of x y e = ap (λ b. cond b y x) e

  left_of : (x y : X) → lt x y ≡ false → greater x y ≡ x
  left_of x y e = ap (λ b. cond b y x) e

  lt-chain : (x y z : X) → lt x y ≡ true → lt y z ≡ true → lt x z ≡ true
  lt-chain x y z p q = ap is_lt (total.trans x y z (less-is (cmp x y) p) (less-is (cmp y z) q))

  -- the greater one turned round
  back : (x y : X) → is_gt (cmp y x) ≡ lt x y
  back x y = ap is_gt (total.antisymm y x) ∙ turned_back (cmp x y)

  not-chain : (x y z : X) → lt x y ≡ false → lt y z ≡ false → lt x z ≡ false
  not-chain x y z p q = sym (back x z) ∙ upto total z y x (back y z ∙ q) (back x y ∙ p)

  pub greater-is : (x y : X) → (greater x y ≡ x) ⊎ (greater x y ≡ y)
  greater-is x y = by (lt x y) refl
    where
      by : (b : Bool) → lt x y ≡ b → (greater x y ≡ x) ⊎ (greater x y ≡ y)
      by true e = inr (right_of x y e)
      by false e = inl (left_of x y e)

  -- either way round, where those that tie are equal
  pub greater_comm : (x y : X) → (cmp x y ≡ Equal → x ≡ y) → greater x y ≡ greater y x
  greater_comm x y tie = by (cmp x y) refl
    where
      by : (r : Ordering) → cmp x y ≡ r → greater x y ≡ greater y x
      by Less e = right_of x y (ap is_lt e) ∙ sym (left_of y x (ap is_lt (total.antisymm y x ∙ ap ordering_reverse e)))
      by Equal e = left_of x y (ap is_lt e) ∙ tie e ∙ sym (left_of y x (ap is_lt (total.antisymm y x ∙ ap ordering_reverse e)))
      by Greater e = left_of x y (ap is_lt e) ∙ sym (right_of y x (ap is_lt (total.antisymm y x ∙ ap ordering_reverse e)))

  pub greater_itself : (x : X) → greater x x ≡ x
  greater_itself x = by (lt x x)
    where
      by : (b : Bool) → cond b x x ≡ x
      by true = refl
      by false = refl

  -- of three, in either grouping
  pub greater_assoc : (x y z : X) → greater (greater x y) z ≡ greater x (greater y z)
  greater_assoc x y z = by (lt x y) refl (lt y z) refl
    where
      by : (b : Bool) → lt x y ≡ b → (c : Bool) → lt y z ≡ c → greater (greater x y) z ≡ greater x (greater y z)
      by true p true q =
          ap (λ w. greater w z) (right_of x y p) ∙ right_of y z q ∙ sym (ap (greater x) (right_of y z q) ∙ right_of x z (lt-chain x y z p q))
      by true p false q =
          ap (λ w. greater w z) (right_of x y p) ∙ left_of y z q ∙ sym (ap (greater x) (left_of y z q) ∙ right_of x y p)
      by false p true q =
          ap (λ w. greater w z) (left_of x y p) ∙ sym (ap (greater x) (right_of y z q))
      by false p false q =
          ap (λ w. greater w z) (left_of x y p) ∙ left_of x z (not-chain x y z p q) ∙ sym (ap (greater x) (left_of y z q) ∙ left_of x y p)

  -- the greatest of three is the greater of two of the three pairs
  abbrev pub TwoOf : X → X → X → X → Type 0
  TwoOf x y z m = ((m ≡ greater x y) × (m ≡ greater x z)) ⊎ (((m ≡ greater x y) × (m ≡ greater y z)) ⊎ ((m ≡ greater x z) × (m ≡ greater y z)))

  pub two_of : (x y z : X) → TwoOf x y z (greater (greater x y) z)
  two_of x y z = by (lt x y) refl (lt y z) refl (lt x z) refl
    where
      by : (b : Bool) → lt x y ≡ b → (c : Bool) → lt y z ≡ c → (d : Bool) → lt x z ≡ d → TwoOf x y z (greater (greater x y) z)
      by true p true q d r =
          let m : greater (greater x y) z ≡ greater y z = ap (λ w. greater w z) (right_of x y p) in
          inr (inr (m ∙ right_of y z q ∙ sym (right_of x z (lt-chain x y z p q)), m))
      by true p false q d r =
          let m : greater (greater x y) z ≡ greater y z = ap (λ w. greater w z) (right_of x y p) in
          inr (inl (m ∙ left_of y z q ∙ sym (right_of x y p), m))
      by false p c q false r =
          let m : greater (greater x y) z ≡ greater x z = ap (λ w. greater w z) (left_of x y p) in
          inl (m ∙ left_of x z r ∙ sym (left_of x y p), m)
      by false p true q true r =
          let m : greater (greater x y) z ≡ greater x z = ap (λ w. greater w z) (left_of x y p) in
          inr (inr (m, m ∙ right_of x z r ∙ sym (right_of y z q)))
      by false p false q true r = absurd (true≢false (sym r ∙ not-chain x y z p q))
