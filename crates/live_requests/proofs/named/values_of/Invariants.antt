use Rattle.std.proofs.Common.{◌≡◌, map}
use Rattle.live_requests.specs.Named.{values_in}
use Rattle.live_requests.proofs.ValueLaws.{behind, cells_left, size_left}
use Rattle.live_requests.proofs.named.values_of.Given as goal

-- the values so far, and those of the cells that are left, are those of all
abbrev pub invariant-loop-rest : goal.invariant-loop-rest
invariant-loop-rest l = behind (map (λ value. value.items) l.values.items) (values_in (cells_left l.rest)) ≡ values_in (cells_left l.initial.rest)

abbrev pub decreases-loop-rest : goal.decreases-loop-rest
decreases-loop-rest l = size_left l.rest
