-- Nothing is at fault where neither of two parts is.
use Rattle.std.proofs.Common.{◌≡◌, Option, Some, None, refl}
use Rattle.std.specs.Option.{option_or}

pub none_first : {F : Type 0} (a b : Option F) → option_or a b ≡ None → a ≡ None
none_first None b e = refl
none_first (Some f) b e = absurd cc

pub none_second : {F : Type 0} (a b : Option F) → option_or a b ≡ None → b ≡ None
none_second None b e = e
none_second (Some f) b e = absurd cc

-- the first of three is the same, whichever two are looked at first
pub option_or-option_or : {F : Type 0} (a b c : Option F) → option_or (option_or a b) c ≡ option_or a (option_or b c)
option_or-option_or None b c = refl
option_or-option_or (Some f) b c = refl
