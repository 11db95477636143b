use Rattle.std.proofs.Common.{◌≡◌, ◌-◌}
use Rattle.log_places.specs.List.{times, span_at}
use Rattle.log_places.proofs.lists.spans_of.Given as goal

-- the spans still to come behind those so far are all of them
abbrev pub invariant-loop : goal.invariant-loop
invariant-loop l = times (span_at l.which) (l.count - l.counter) (l.reached, l.left) ≡ times (span_at l.which) l.count (l.fn.set, l.bytes)
