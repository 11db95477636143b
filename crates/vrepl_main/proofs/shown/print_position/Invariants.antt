use Rattle.std.proofs.Common.{drop}
use Rattle.gtid_set.specs.Printed.{printed_behind, printed_position}
use Rattle.vrepl_main.specs.Adding.{at, IsPutUpTo}
use Rattle.vrepl_main.proofs.shown.print_position.Given as goal

-- what is printed and what is left are the whole
abbrev pub invariant-loop-interval : goal.invariant-loop-interval
invariant-loop-interval g l = IsPutUpTo (at (g.W.Out.written l.fn.out) l.fn.text) (at (g.W.Out.written l.out) l.text) (printed_position l.fn.position) (printed_behind l.before (drop l.interval-index l.interval-items))
