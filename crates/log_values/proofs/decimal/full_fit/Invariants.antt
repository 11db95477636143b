use Rattle.std.proofs.Common.{◌≡◌, ◌+◌, ◌-◌, ◌*◌}
use Rattle.std.specs.List.{list_all}
use Rattle.log_values.specs.Decimal.{full_groups, group_fits}
use Rattle.log_values.proofs.decimal.full_fit.Given as goal

abbrev pub invariant-loop : goal.invariant-loop
invariant-loop l =
    (l.at ≡ l.fn.place + 4 * l.counter)
    × (list_all (group_fits l.fn.bytes) (full_groups l.at (l.fn.groups - l.counter)) ≡ list_all (group_fits l.fn.bytes) (full_groups l.fn.place l.fn.groups))
