use Rattle.std.proofs.Common.{◌≡◌, ◌+◌, ◌-◌, ◌≤◌}
use Rattle.log_values.specs.Civil.{month_from}
use Rattle.log_values.proofs.civil.month_of.Given as goal

abbrev pub invariant-loop : goal.invariant-loop
invariant-loop l = (month_from (11 - l.counter) l.fn.year l.month l.left ≡ month_from 11 l.fn.year 1 l.fn.days) × (l.left ≤ l.fn.days) × (l.month ≤ 1 + l.counter)
