use Rattle.std.proofs.Common.{◌≡◌}
use Rattle.crossbeam_channel.specs.Claims.{view, IsSeatAt}
use Rattle.crossbeam_channel.specs.Ends.{sends_on}
use Rattle.stream_worker.proofs.shared.Shared.seat.Given as goal

-- the opener's pass knows what it knew
abbrev pub invariant-loop : goal.invariant-loop
invariant-loop g l = IsSeatAt (sends_on l.self.lock.sender) l.opener × (view l.opener ≡ view l.initial.opener)
