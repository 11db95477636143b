use Rattle.vrepl_c.proofs.DifferenceLaws.{AreAddedTo}
use Rattle.vrepl_c.proofs.differences.push_differences.Given as goal

-- the differences so far are added, and those of what is left are the others
abbrev pub invariant-loop : goal.invariant-loop
invariant-loop l = AreAddedTo l.fn.tables l.fn.most l.counter l.fn.source l.fn.target l.left l.right l.fn.into.items l.into.items
