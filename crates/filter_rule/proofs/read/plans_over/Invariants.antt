use Rattle.std.proofs.Common.{◌≡◌, ◌++◌, map, length, string_bytes}
use Rattle.std.specs.Arc.{arc_value}
use Rattle.std.specs.Vec.Iter.{into_iter_items, into_iter_len}
use Rattle.filter_rule.specs.Reading.{plan_over}
use Rattle.filter_rule.proofs.read.plans_over.Given as goal

-- the plans of the streams so far; these and those to come are the streams
abbrev pub invariant-loop-stream : goal.invariant-loop-stream
invariant-loop-stream l = (map arc_value l.plans.items ≡ map (plan_over (string_bytes (arc_value l.schema).keyspace) (arc_value l.schema).tables.items) l.yielded)
    × (l.yielded ++ into_iter_items l.stream-iterator ≡ l.fn.streams.items)
