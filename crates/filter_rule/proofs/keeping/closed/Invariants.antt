use Rattle.std.proofs.Common.{◌≡◌, take, drop, length}
use Rattle.filter_rule.specs.Reading.{closed_from}
use Rattle.filter_rule.proofs.EachLaws.{with_front}
use Rattle.filter_rule.proofs.keeping.closed.Given as goal

-- the tables so far are closed, and the others as they were
abbrev pub invariant-loop-t : goal.invariant-loop-t
invariant-loop-t l = (with_front (take l.t l.closed.items) (closed_from l.streams l.t (drop l.t l.closed.items)) ≡ closed_from l.streams 0 l.fn.tables.items) × (length l.closed.items ≡ l.t-end)
