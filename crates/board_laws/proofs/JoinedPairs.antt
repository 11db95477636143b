-- The states chosen of two boards, stream by stream.
use Rattle.std.proofs.Common.{◌≡◌, ℕ, zero, suc, ◌⊎◌, inl, inr, List, [], ◌∷◌, map, Some, None, slice_get, refl, sym, ap, ◌∙◌}
use Rattle.std.proofs.lemmas.Option.{same_Some, none-some}
use Rattle.std.specs.declared.cmp.Ordering.TheVariants.{Equal}
use Rattle.list_laws.proofs.Places.{no_place}
use Rattle.filter_rule.specs.PlanValue.{PlanValue}
use Rattle.board_laws.specs.Meaning.{State}
use Rattle.board_laws.specs.StateOrder.{state_cmp}
use Rattle.board_laws.specs.Chosen.{chosen, all_chosen}
use Rattle.board_laws.specs.Compatible.{OfEachStream}
use Rattle.board_laws.proofs.Choosing.{greater-is, greater_comm, greater_itself, greater_assoc, two_of}
use Rattle.board_laws.proofs.JoinedStates.{states_total}

pub chosen-is : (x y : State) → (chosen x y ≡ x) ⊎ (chosen x y ≡ y)
chosen-is x y = greater-is state_cmp states_total x y

-- ---- plans

abbrev pub plans : List State → List PlanValue
plans xs = map (λ state. state.plan) xs

pub head_plan : (x y : State) (xs ys : List State) → plans (x ∷ xs) ≡ plans (y ∷ ys) → x.plan ≡ y.plan
head_plan x y xs ys e = same_Some x.plan y.plan (ap (λ (ps : List PlanValue). slice_get ps 0) e)

tail_plans : (x y : State) (xs ys : List State) → plans (x ∷ xs) ≡ plans (y ∷ ys) → plans xs ≡ plans ys
tail_plans x y xs ys e = ap rest e
  where
    rest : List PlanValue → List PlanValue
    rest [] = []
    rest (p ∷ ps) = ps

no_plans : {P : Type 0} (y : State) (ys : List State) → [] ≡ plans (y ∷ ys) → P
no_plans y ys e = let clash : None ≡ Some y.plan = ap (λ (ps : List PlanValue). slice_get ps 0) e in absurd (none-some y.plan clash)

-- two streams of one number have one plan
pub same_plan : (xs ys : List State) → plans xs ≡ plans ys → (s : ℕ) (x y : State) → slice_get xs s ≡ Some x → slice_get ys s ≡ Some y → x.plan ≡ y.plan
same_plan [] ys e s x y p q = no_place s x p
same_plan (a ∷ xs) [] e s x y p q = no_place s y q
same_plan (a ∷ xs) (b ∷ ys) e zero x y p q =
    ap (λ (z : State). z.plan) (sym (same_Some a x p)) ∙ head_plan a b xs ys e ∙ ap (λ (z : State). z.plan) (same_Some b y q)
same_plan (a ∷ xs) (b ∷ ys) e (suc s) x y p q = same_plan xs ys (tail_plans a b xs ys e) s x y p q

-- as many plans, as many streams
pub partner : (xs ys : List State) → plans xs ≡ plans ys → (s : ℕ) (x : State) → slice_get xs s ≡ Some x → (y : State) × (slice_get ys s ≡ Some y)
partner [] ys e s x p = no_place s x p
partner (a ∷ xs) [] e s x p = no_plans a xs (sym e)
partner (a ∷ xs) (b ∷ ys) e zero x p = (b, refl)
partner (a ∷ xs) (b ∷ ys) e (suc s) x p = partner xs ys (tail_plans a b xs ys e) s x p

-- ---- chosen states

-- a chosen state is chosen of two
pub record IsChosenOf (xs ys : List State) (s : ℕ) (z : State) : Type 0 where
  pub one : State
  pub other : State
  pub here : slice_get xs s ≡ Some one
  pub there : slice_get ys s ≡ Some other
  pub is : z ≡ chosen one other

pub chosen_at : (xs ys : List State) (s : ℕ) (z : State) → slice_get (all_chosen xs ys) s ≡ Some z → IsChosenOf xs ys s z
chosen_at [] ys s z e = no_place s z e
chosen_at (x ∷ xs) [] s z e = no_place s z e
chosen_at (x ∷ xs) (y ∷ ys) zero z e = record { one = x; other = y; here = refl; there = refl; is = sym (same_Some (chosen x y) z e) }
chosen_at (x ∷ xs) (y ∷ ys) (suc s) z e =
    let rest : IsChosenOf xs ys s z = chosen_at xs ys s z e in
    record { one = rest.one; other = rest.other; here = rest.here; there = rest.there; is = rest.is }

pub at_chosen : (xs ys : List State) (s : ℕ) (x y : State) → slice_get xs s ≡ Some x → slice_get ys s ≡ Some y → slice_get (all_chosen xs ys) s ≡ Some (chosen x y)
at_chosen [] ys s x y p q = no_place s x p
at_chosen (a ∷ xs) [] s x y p q = no_place s y q
at_chosen (a ∷ xs) (b ∷ ys) zero x y p q = ap (λ (z : State). Some (chosen z b)) (same_Some a x p) ∙ ap (λ (z : State). Some (chosen x z)) (same_Some b y q)
at_chosen (a ∷ xs) (b ∷ ys) (suc s) x y p q = at_chosen xs ys s x y p q

-- it is one of the two
pub one_of_two : (xs ys : List State) (s : ℕ) (z : State) → slice_get (all_chosen xs ys) s ≡ Some z → (slice_get xs s ≡ Some z) ⊎ (slice_get ys s ≡ Some z)
one_of_two xs ys s z e =
    let c : IsChosenOf xs ys s z = chosen_at xs ys s z e in
    elim (chosen-is c.one c.other) [
      | inl left ↦ inl (c.here ∙ ap (λ (w : State). Some w) (sym (c.is ∙ left)))
      | inr right ↦ inr (c.there ∙ ap (λ (w : State). Some w) (sym (c.is ∙ right)))
    ]

pub chosen_plans : (xs ys : List State) → plans xs ≡ plans ys → plans (all_chosen xs ys) ≡ plans xs
chosen_plans [] ys e = refl
chosen_plans (x ∷ xs) [] e = no_plans x xs (sym e)
chosen_plans (x ∷ xs) (y ∷ ys) e =
    ap (λ (p : PlanValue). p ∷ plans (all_chosen xs ys)) plan ∙ ap (λ (ps : List PlanValue). x.plan ∷ ps) (chosen_plans xs ys (tail_plans x y xs ys e))
  where
    plan : (chosen x y).plan ≡ x.plan
    plan = elim (chosen-is x y) [ inl left ↦ ap (λ (z : State). z.plan) left | inr right ↦ ap (λ (z : State). z.plan) right ∙ sym (head_plan x y xs ys e) ]

-- ---- laws of lists

pub chosen_comm : (xs ys : List State) → OfEachStream (λ x y. state_cmp x y ≡ Equal → x ≡ y) xs ys → all_chosen xs ys ≡ all_chosen ys xs
chosen_comm [] [] tie = refl
chosen_comm [] (y ∷ ys) tie = refl
chosen_comm (x ∷ xs) [] tie = refl
chosen_comm (x ∷ xs) (y ∷ ys) tie =
    ap (λ (z : State). z ∷ all_chosen xs ys) (greater_comm state_cmp states_total x y (tie 0 x y refl refl))
    ∙ ap (λ (zs : List State). chosen y x ∷ zs) (chosen_comm xs ys (λ s. tie (suc s)))

pub chosen_itself : (xs : List State) → all_chosen xs xs ≡ xs
chosen_itself [] = refl
chosen_itself (x ∷ xs) = ap (λ (z : State). z ∷ all_chosen xs xs) (greater_itself state_cmp states_total x) ∙ ap (λ (zs : List State). x ∷ zs) (chosen_itself xs)

pub chosen_assoc : (xs ys zs : List State) → all_chosen (all_chosen xs ys) zs ≡ all_chosen xs (all_chosen ys zs)
chosen_assoc [] ys zs = refl
chosen_assoc (x ∷ xs) [] zs = refl
chosen_assoc (x ∷ xs) (y ∷ ys) [] = refl
chosen_assoc (x ∷ xs) (y ∷ ys) (z ∷ zs) =
    ap (λ (w : State). w ∷ all_chosen (all_chosen xs ys) zs) (greater_assoc state_cmp states_total x y z)
    ∙ ap (λ (ws : List State). chosen x (chosen y z) ∷ ws) (chosen_assoc xs ys zs)

-- ---- of three boards

abbrev pub ChosenInTwo : List State → List State → List State → ℕ → State → Type 0
ChosenInTwo xs ys zs s m =
    ((slice_get (all_chosen xs ys) s ≡ Some m) × (slice_get (all_chosen xs zs) s ≡ Some m))
    ⊎ (((slice_get (all_chosen xs ys) s ≡ Some m) × (slice_get (all_chosen ys zs) s ≡ Some m))
    ⊎ ((slice_get (all_chosen xs zs) s ≡ Some m) × (slice_get (all_chosen ys zs) s ≡ Some m)))

-- the state chosen of three is chosen in two of the three pairs
pub chosen_in_two : (xs ys zs : List State) (s : ℕ) (m : State) → slice_get (all_chosen (all_chosen xs ys) zs) s ≡ Some m → ChosenInTwo xs ys zs s m
chosen_in_two xs ys zs s m e =
    let outer : IsChosenOf (all_chosen xs ys) zs s m = chosen_at (all_chosen xs ys) zs s m e in
    let inner : IsChosenOf xs ys s outer.one = chosen_at xs ys s outer.one outer.here in
    let x : State = inner.one in
    let y : State = inner.other in
    let z : State = outer.other in
    let is : m ≡ chosen (chosen x y) z = outer.is ∙ ap (λ (w : State). chosen w z) inner.is in
    let xy : m ≡ chosen x y → slice_get (all_chosen xs ys) s ≡ Some m = λ q. at_chosen xs ys s x y inner.here inner.there ∙ ap (λ (w : State). Some w) (sym q) in
    let xz : m ≡ chosen x z → slice_get (all_chosen xs zs) s ≡ Some m = λ q. at_chosen xs zs s x z inner.here outer.there ∙ ap (λ (w : State). Some w) (sym q) in
    let yz : m ≡ chosen y z → slice_get (all_chosen ys zs) s ≡ Some m = λ q. at_chosen ys zs s y z inner.there outer.there ∙ ap (λ (w : State). Some w) (sym q) in
    elim (two_of state_cmp states_total x y z) [
      | inl first ↦ inl (xy (is ∙ first.0), xz (is ∙ first.1))
      | inr others ↦ elim others [
        | inl second ↦ inr (inl (xy (is ∙ second.0), yz (is ∙ second.1)))
        | inr third ↦ inr (inr (xz (is ∙ third.0), yz (is ∙ third.1)))
      ]
    ]
