use Rattle.json_pieces.specs.Telling.{Tells, at}
use Rattle.refusal_json.specs.Explained.{lines_below}
use Rattle.refusal_json.proofs.explained.put_list.Given as goal

-- the lines of the numbers so far
abbrev pub invariant-loop-number : goal.invariant-loop-number
invariant-loop-number g l = Tells (at (g.O.Out.written l.fn.out) l.fn.line) (at (g.O.Out.written l.out) l.line) (lines_below l.number)
