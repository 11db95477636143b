use Rattle.std.proofs.Common.{◌∷◌, ◌++◌, drop, false, map}
use Rattle.serde_json.specs.View.{items_of}
use Rattle.serde_json.specs.Written.{items_text}
use Rattle.json_pieces.specs.Telling.{IsToldUpTo, at}
use Rattle.check_said.specs.Json.{item_data, note_item}
use Rattle.check_said.proofs.told_list.put_told.Given as goal

-- what is told and what is left are the whole
abbrev pub invariant-loop-item : goal.invariant-loop-item
invariant-loop-item g l = IsToldUpTo (at (g.O.Out.written l.fn.out) l.fn.line) (at (g.O.Out.written l.out) l.line) (91 ∷ items_text false (items_of (map item_data l.items ++ map note_item l.notes)))
    (items_text l.later (items_of (map item_data (drop l.item-index l.items) ++ map note_item l.notes)))

abbrev pub invariant-loop-note : goal.invariant-loop-note
invariant-loop-note g l = IsToldUpTo (at (g.O.Out.written l.fn.out) l.fn.line) (at (g.O.Out.written l.out) l.line) (91 ∷ items_text false (items_of (map item_data l.items ++ map note_item l.notes)))
    (items_text l.later (items_of (map note_item (drop l.note-index l.notes))))
