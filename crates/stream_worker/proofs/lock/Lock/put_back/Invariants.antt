use Rattle.std.proofs.Common.{◌≡◌}
use Rattle.crossbeam_channel.specs.Claims.{view, IsSeatAt}
use Rattle.crossbeam_channel.specs.Ends.{sends_on}
use Rattle.stream_worker.proofs.lock.Lock.put_back.Given as goal

-- the pass holds the board still
abbrev pub invariant-loop : goal.invariant-loop
invariant-loop g l = IsSeatAt (sends_on l.self.sender) l.pass × (view l.pass ≡ view l.initial.pass) × (l.deal ≡ l.initial.deal)
