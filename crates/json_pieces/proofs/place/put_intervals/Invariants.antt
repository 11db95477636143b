use Rattle.std.proofs.Common.{drop}
use Rattle.gtid_set.specs.Printed.{printed_behind, printed_position}
use Rattle.json.specs.Print.{escape}
use Rattle.json_pieces.specs.Telling.{IsToldUpTo, at}
use Rattle.json_pieces.proofs.place.put_intervals.Given as goal

-- what is told and what is left are the whole
abbrev pub invariant-loop-interval : goal.invariant-loop-interval
invariant-loop-interval g l = IsToldUpTo (at (g.O.Out.written l.fn.out) l.fn.line) (at (g.O.Out.written l.out) l.line) (escape (printed_position l.fn.position)) (escape (printed_behind l.before (drop l.interval-index l.interval-items)))
