use Rattle.std.proofs.Common.{◌≡◌, length, None}
use Rattle.std.specs.List.{AllByRecursion}
use Rattle.worker_rounds.proofs.round.none_stopped.Given as goal

-- so many so far
abbrev pub invariant-loop-s : goal.invariant-loop-s
invariant-loop-s l = (length l.stopped.items ≡ l._s) × AllByRecursion (λ stop. stop ≡ None) l.stopped.items
