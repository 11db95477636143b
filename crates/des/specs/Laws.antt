-- A law of the key schedule.
use Rattle.std.specs.Prelude.{◌≡◌, ℕ}
use Rattle.des.specs.Des.{round_key}

-- all round keys of the key of zeros are zeros
abbrev pub NullKeyHasNullRoundKeys : Type 0
NullKeyHasNullRoundKeys = (n : ℕ) → round_key 0 n ≡ 0
