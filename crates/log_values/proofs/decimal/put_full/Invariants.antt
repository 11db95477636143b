use Rattle.std.proofs.Common.{◌≡◌, ◌+◌, ◌-◌, ◌*◌}
use Rattle.std.specs.List.{flat_map}
use Rattle.log_values.specs.Decimal.{full_groups, group_text}
use Rattle.log_values.proofs.DecimalLaws.{ShowsMore}
use Rattle.log_values.proofs.decimal.put_full.Given as goal

abbrev pub invariant-loop : goal.invariant-loop
invariant-loop l =
    (l.at ≡ l.fn.place + 4 * l.counter)
    × ShowsMore l.fn.out.items l.out.items l.fn.started l.begun (flat_map (group_text l.fn.bytes) (full_groups l.fn.place l.fn.groups)) (flat_map (group_text l.fn.bytes) (full_groups l.at (l.fn.groups - l.counter)))
