use Rattle.std.proofs.Common.{◌≡◌, length}
use Rattle.log_groups.specs.Step.{gtid_value, steps_of}
use Rattle.log_groups.specs.Transaction.{waits_behind, begun, goes_at}
use Rattle.log_groups.proofs.transaction.transaction_behind.Given as goal

-- the transaction so far, and the steps to come, are what the steps behind the position are
abbrev pub invariant-loop-open : goal.invariant-loop-open
invariant-loop-open l = goes_at l.open (steps_of l.events.reading) ≡ goes_at (begun (waits_behind (gtid_value l.gtid))) (steps_of l.fn.events.reading)

abbrev pub decreases-loop-open : goal.decreases-loop-open
decreases-loop-open l = length (steps_of l.events.reading)
