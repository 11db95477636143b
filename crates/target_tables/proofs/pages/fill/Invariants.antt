use Rattle.std.proofs.Common.{◌≡◌, ◌-◌, ◌≤◌, [], vec_len}
use Rattle.std.specs.List.{All}
use Rattle.std.specs.Vec.{vec_capacity}
use Rattle.target_tables.proofs.pages.fill.Given as goal

abbrev pub invariant-loop-alloc : goal.invariant-loop-alloc
invariant-loop-alloc g l =
    All (λ page. page ≡ []) l.spares.items × (vec_len l.fn.spares ≤ vec_len l.spares) × (vec_len l.spares ≤ l.count) × (vec_capacity l.fn.spares ≤ vec_capacity l.spares)

abbrev pub decreases-loop-alloc : goal.decreases-loop-alloc
decreases-loop-alloc g l = l.count - vec_len l.spares
