use Rattle.std.proofs.Common.{◌≡◌, take}
use Rattle.check_said.proofs.checked_rows.with_rows.Given as goal

-- the checks so far
abbrev pub invariant-loop-check : goal.invariant-loop-check
invariant-loop-check l = l.made.items ≡ take l.check-index l.checks
