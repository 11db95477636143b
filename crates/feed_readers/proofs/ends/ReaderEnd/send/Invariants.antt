use Rattle.std.proofs.Common.{◌≡◌}
use Rattle.crossbeam_channel.specs.Claims.{view}
use Rattle.feed_readers.proofs.ends.ReaderEnd.send.Given as goal

-- the group isn't sent yet
abbrev pub invariant-loop : goal.invariant-loop
invariant-loop g l = (l.group ≡ l.initial.group) × (view l.self.pass ≡ view l.initial.self.pass)
