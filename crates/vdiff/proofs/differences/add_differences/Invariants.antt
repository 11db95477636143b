use Rattle.vdiff.proofs.DifferenceLaws.{AreAddedTo}
use Rattle.vdiff.proofs.differences.add_differences.Given as goal

-- the differences so far are added, and those of what is left are the others
abbrev pub invariant-loop : goal.invariant-loop
invariant-loop g l = AreAddedTo l.fn.tables l.fn.count l.counter l.fn.source l.fn.target l.left l.right (g.O.Out.written l.fn.out) l.fn.text (g.O.Out.written l.out) l.text
