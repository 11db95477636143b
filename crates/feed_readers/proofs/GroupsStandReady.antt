-- What is taken of groups that are known to stand ready.
use Rattle.std.proofs.Common.{◌≡◌, ℕ, ◌<◌, List, [], ◌∷◌, Option, Some, None, inl, inr, sym, ap, subst, ◌∙◌, arith}
use Rattle.std.proofs.lemmas.Option.{same_Some, none-some}
use Rattle.source_feed.specs.Touches.{PreparedValue}
use Rattle.feed_readers.specs.Ahead.{IsFirst, StandsReady}

module _ (number : ℕ) where
  same-number : (group x : PreparedValue) → Some group ≡ Some x → group.number ≡ x.number
  same-number group x e = ap (λ (g : PreparedValue). g.number) (same_Some group x e)

  -- a lower number stood before it
  pub passed-over : (ready left behind : List PreparedValue) (group : PreparedValue) → IsFirst ready (Some group) left → group.number < number → StandsReady number ready behind → StandsReady number left behind
  passed-over [] left behind group first less h = absurd h
  passed-over (x ∷ later) left behind group first less (inl h) = absurd (let same = same-number group x first.0 in let is = h.0 in omega (arith, same, is, less))
  passed-over (x ∷ later) left behind group first less (inr h) = subst (λ (l : List PreparedValue). StandsReady number l behind) (sym first.1) h.1

  -- its own number is it
  pub is-taken : (ready left behind : List PreparedValue) (group : PreparedValue) → IsFirst ready (Some group) left → group.number ≡ number → StandsReady number ready behind → left ≡ behind
  is-taken [] left behind group first is h = absurd h
  is-taken (x ∷ later) left behind group first is (inl h) = first.1 ∙ h.1
  is-taken (x ∷ later) left behind group first is (inr h) = absurd (let same = same-number group x first.0 in let less = h.0 in omega (arith, same, is, less))

  -- a higher number doesn't stand before it
  pub none-higher : (ready left behind : List PreparedValue) (group : PreparedValue) → IsFirst ready (Some group) left → number < group.number → StandsReady number ready behind → ⊥
  none-higher [] left behind group first more h = h
  none-higher (x ∷ later) left behind group first more (inl h) = let same = same-number group x first.0 in let is = h.0 in omega (arith, same, is, more)
  none-higher (x ∷ later) left behind group first more (inr h) = let same = same-number group x first.0 in let less = h.0 in omega (arith, same, less, more)

  -- nor do they end there
  pub none-ends : (ready left behind : List PreparedValue) → IsFirst ready None left → StandsReady number ready behind → ⊥
  none-ends [] left behind first h = h
  none-ends (x ∷ later) left behind first h = none-some x first.0
