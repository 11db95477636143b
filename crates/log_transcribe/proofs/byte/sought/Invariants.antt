use Rattle.std.proofs.Common.{◌-◌, ◌≤◌}
use Rattle.log_transcribe.specs.Private.Cuts.{StandsNotBefore}
use Rattle.log_transcribe.proofs.byte.sought.Given as goal

-- it stands at none of those that were tried
abbrev pub invariant-loop-byte : goal.invariant-loop-byte
invariant-loop-byte l = StandsNotBefore l.bytes l.told l.fault l.byte × (l.byte ≤ l.last)

abbrev pub decreases-loop-byte : goal.decreases-loop-byte
decreases-loop-byte l = l.last - l.byte
