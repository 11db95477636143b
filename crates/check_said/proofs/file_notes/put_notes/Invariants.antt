use Rattle.std.proofs.Common.{◌∷◌, drop, false, map}
use Rattle.serde_json.specs.View.{items_of}
use Rattle.serde_json.specs.Written.{items_text}
use Rattle.json_pieces.specs.Telling.{IsToldUpTo, at}
use Rattle.check_said.specs.Json.{note_data}
use Rattle.check_said.proofs.file_notes.put_notes.Given as goal

-- what is told and what is left are the whole
abbrev pub invariant-loop-note : goal.invariant-loop-note
invariant-loop-note g l = IsToldUpTo (at (g.O.Out.written l.fn.out) l.fn.line) (at (g.O.Out.written l.out) l.line) (91 ∷ items_text false (items_of (map (note_data) l.notes))) (items_text l.later (items_of (map (note_data) (drop l.note-index l.notes))))
