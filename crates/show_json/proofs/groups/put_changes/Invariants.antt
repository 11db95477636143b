use Rattle.std.proofs.Common.{◌∷◌, false, map}
use Rattle.serde_json.specs.View.{items_of}
use Rattle.serde_json.specs.Written.{items_text}
use Rattle.json_pieces.specs.Telling.{IsToldUpTo, at}
use Rattle.show_json.specs.Private.Kept.{columns_in}
use Rattle.show_json.specs.Text.{change_data}
use Rattle.show_json.proofs.groups.put_changes.Given as goal

-- what is told and what is left are the whole
abbrev pub invariant-loop-change : goal.invariant-loop-change
invariant-loop-change g l =
    IsToldUpTo (at (g.O.Out.written l.fn.out) l.fn.line) (at (g.O.Out.written l.out) l.line) (91 ∷ items_text false (items_of (map (change_data (columns_in l.tables)) l.fn.changes)))
    (items_text l.later (items_of (map (change_data (columns_in l.tables)) l.change-iterator)))
