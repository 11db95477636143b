use Rattle.std.proofs.Common.{drop}
use Rattle.json_pieces.specs.Telling.{IsToldUpTo, at}
use Rattle.compaction.specs.Private.Sized.{joined}
use Rattle.compaction.proofs.portion.put_portions.Given as goal

-- what is told and what is left are the whole
abbrev pub invariant-loop-portion : goal.invariant-loop-portion
invariant-loop-portion g l = IsToldUpTo (at (g.O.Out.written l.fn.out) l.fn.line) (at (g.O.Out.written l.out) l.line) (joined l.portions) (joined (drop l.portion-index l.portions))
