-- How far a file that grows is taken (this profile).
use Rattle.std.specs.Prelude.{ℕ}

-- how many of its bytes are taken, how many behind them were given at the last look and aren't taken, and how many bytes it
-- had then
pub record GrownValue : Type 0 where
  pub taken : ℕ
  pub ahead : ℕ
  pub length : ℕ
