-- Bits one on.
use Rattle.std.proofs.Common.{◌≡◌, ℕ, suc, ◌/◌, refl}
use Rattle.log_values.specs.Labels.{bits_left}

pub bits_more : (n k left : ℕ) → n ≡ suc k → bits_left k (left / 2) ≡ bits_left n left
unfolding bits_left
bits_more n k left e = rw e refl

pub bits_none : (n left : ℕ) → n ≡ 0 → bits_left n left ≡ left
unfolding bits_left
bits_none n left e = rw e refl
