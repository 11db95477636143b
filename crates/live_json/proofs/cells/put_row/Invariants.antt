use Rattle.std.proofs.Common.{◌∷◌, false, map}
use Rattle.serde_json.specs.View.{items_of}
use Rattle.serde_json.specs.Written.{items_text}
use Rattle.json_pieces.specs.Telling.{IsToldUpTo, at}
use Rattle.live_json.specs.Answers.{cell_data}
use Rattle.live_json.proofs.cells.put_row.Given as goal

-- what is told and what is left are the whole
abbrev pub invariant-loop-column : goal.invariant-loop-column
invariant-loop-column g l =
    IsToldUpTo (at (g.O.Out.written l.fn.out) l.fn.line) (at (g.O.Out.written l.out) l.line) (91 ∷ items_text false (items_of (map cell_data l.fn.row))) (items_text l.later (items_of (map cell_data l.column-iterator)))
