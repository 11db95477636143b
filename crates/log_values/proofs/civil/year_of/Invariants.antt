use Rattle.std.proofs.Common.{◌≡◌, ◌+◌, ◌-◌, ◌≤◌}
use Rattle.log_values.specs.Civil.{year_from}
use Rattle.log_values.proofs.civil.year_of.Given as goal

abbrev pub invariant-loop : goal.invariant-loop
invariant-loop l = (year_from (140 - l.counter) l.year l.left ≡ year_from 140 1970 l.fn.days) × (l.left ≤ l.fn.days) × (l.year ≤ 1970 + l.counter)
