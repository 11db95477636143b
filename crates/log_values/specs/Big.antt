-- Numbers whose highest byte comes first.
use Rattle.std.specs.Prelude.{ℕ, zero, suc, ◌+◌, ◌*◌, List, slice_index}

-- the number of so many bytes from a place on
unfoldable pub big : ℕ → ℕ → List ℕ → ℕ
big place zero bytes = 0
big place (suc n) bytes = big place n bytes * 256 + slice_index bytes (place + n)
