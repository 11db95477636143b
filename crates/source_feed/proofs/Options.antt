-- Options, and one or else another.
use Rattle.std.proofs.Common.{◌≡◌, ◌⊎◌, Option, None, Some, refl, inl, inr}
use Rattle.std.specs.Option.{option_or}

-- an option is nothing or something
pub option_cases : {A : Type 0} (o : Option A) → (o ≡ None) ⊎ ((x : A) × (o ≡ Some x))
option_cases None = inl refl
option_cases (Some x) = inr (x, refl)

pub option_or-assoc : {A : Type 0} (a b c : Option A) → option_or a (option_or b c) ≡ option_or (option_or a b) c
option_or-assoc None b c = refl
option_or-assoc (Some x) b c = refl

-- what is there is the one or the other
pub option_or-some : {A : Type 0} (a b : Option A) (x : A) → option_or a b ≡ Some x → (a ≡ Some x) ⊎ (b ≡ Some x)
option_or-some None b x e = inr e
option_or-some (Some y) b x e = inl e

-- nothing is there if neither is
pub option_or-nothing : {A : Type 0} (a b : Option A) → option_or a b ≡ None → (a ≡ None) × (b ≡ None)
option_or-nothing None b e = (refl, e)
option_or-nothing (Some y) b e = cc
