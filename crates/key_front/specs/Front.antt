-- What a key's front says of its order (this profile).
use Rattle.std.specs.Prelude.{◌≡◌, ℕ, ◌<◌}
use Rattle.std.proofs.Common.{ltb, sym}
use Rattle.std.proofs.lemmas.Bool.{true≢false, cond-true, lt-ltb}
use Rattle.std.specs.Ordering.{nat_cmp}
use Rattle.std.specs.declared.cmp.Ordering.{Ordering}
use Rattle.std.specs.declared.cmp.Ordering.TheVariants.{Less}

-- a key with a lesser front is less
abbrev pub KeepsTheOrder : {K : Type 0} → (K → K → Ordering) → (K → ℕ) → Type 0
KeepsTheOrder {K} cmp front = (a b : K) → front a < front b → cmp a b ≡ Less

-- a number is its own front
pub number_in_order : KeepsTheOrder nat_cmp (λ key. key)
number_in_order a b less = cond-true (ltb a b) _ _ (lt-ltb a b less)

-- fronts that are all alike
pub none_in_order : {K : Type 0} (cmp : K → K → Ordering) → KeepsTheOrder cmp (λ _. 0)
none_in_order cmp a b less = absurd (true≢false (sym (lt-ltb 0 0 less)))
