-- The way from one start or end of a range to the next.
use Rattle.std.specs.Prelude.{ℕ, ◌==◌, ◌&&◌, Bool, List, [], ◌∷◌, ◌++◌, length, Option, None, Some, if◌then◌else◌}
use Rattle.std.specs.Cmp.Lexicographic.{slice_cmp}
use Rattle.std.specs.Ordering.{nat_cmp, is_lt}
use Rattle.vindex.specs.Bounds.{Bounds, is_below, in_range}
use Rattle.range_cover.specs.Cover.{ShareValue, MisfitValue}

-- one byte string is less than another
abbrev pub is_less : List ℕ → List ℕ → Bool
is_less one other = is_lt (slice_cmp nat_cmp one other)

-- a bound lies behind an id and before the best that is known
abbrev pub is_nearer : List ℕ → List ℕ → Option (List ℕ) → Bool
is_nearer id bound best = is_less id bound && is_below best bound

-- the nearer of the two
abbrev pub nearer : List ℕ → List ℕ → Option (List ℕ) → Option (List ℕ)
nearer id bound best = if is_nearer id bound best then Some bound else best

-- the same of an end
abbrev pub nearer_end : List ℕ → Option (List ℕ) → Option (List ℕ) → Option (List ℕ)
nearer_end id None best = best
nearer_end id (Some end) best = nearer id end best

-- the nearest start or end behind an id, or the best that is known
abbrev pub next_from : List ℕ → List ShareValue → Option (List ℕ) → Option (List ℕ)
next_from id [] best = best
next_from id (share ∷ shares) best = next_from id shares (nearer_end id share.range.end (nearer id share.range.start best))

-- a place that a range has
abbrev pub inside : Bounds → Option (List ℕ) → Option (List ℕ)
inside whole None = None
inside whole (Some place) = if in_range whole place then Some place else None

-- a range of ids behind others, unless one has them
abbrev pub with_wrong : List ℕ → Option (List ℕ) → List ℕ → List MisfitValue → List MisfitValue
with_wrong start end holders misfits = if length holders == 1 then misfits else misfits ++ record { range = record { start = start; end = end }; holders = holders } ∷ []
