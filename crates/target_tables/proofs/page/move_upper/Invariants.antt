use Rattle.std.proofs.Common.{◌≡◌, ◌+◌, ◌≤◌, ◌++◌, reverse, vec_len}
use Rattle.std.specs.Vec.{vec_capacity}
use Rattle.target_tables.proofs.page.move_upper.Given as goal

-- what was moved is the list's end, the other way round
abbrev pub invariant-loop-lower : goal.invariant-loop-lower
invariant-loop-lower g l =
    (l.lower.items ++ reverse l.upper.items ≡ l.fn.lower.items) × (vec_len l.lower + vec_len l.upper ≡ vec_len l.fn.lower) × (l.place ≤ vec_len l.lower)
    × (vec_capacity l.fn.lower ≤ vec_capacity l.lower) × (vec_capacity l.fn.upper ≤ vec_capacity l.upper)

abbrev pub decreases-loop-lower : goal.decreases-loop-lower
decreases-loop-lower g l = vec_len l.lower
