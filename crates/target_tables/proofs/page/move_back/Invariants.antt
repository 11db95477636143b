use Rattle.std.proofs.Common.{◌≡◌, ◌+◌, ◌≤◌, ◌++◌, reverse, vec_len}
use Rattle.std.specs.Vec.{vec_capacity}
use Rattle.target_tables.proofs.page.move_back.Given as goal

abbrev pub invariant-loop-upper : goal.invariant-loop-upper
invariant-loop-upper g l =
    (l.lower.items ++ reverse l.upper.items ≡ l.fn.lower.items ++ reverse l.fn.upper.items) × (vec_len l.lower + vec_len l.upper ≡ vec_len l.fn.lower + vec_len l.fn.upper)
    × (vec_capacity l.fn.lower ≤ vec_capacity l.lower) × (vec_capacity l.fn.upper ≤ vec_capacity l.upper)

abbrev pub decreases-loop-upper : goal.decreases-loop-upper
decreases-loop-upper g l = vec_len l.upper
