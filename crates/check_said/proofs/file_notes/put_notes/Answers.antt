use Rattle.std.proofs.Common.{[], ◌∷◌, ap, drop, false, map, refl}
use Rattle.std.proofs.lemmas.List.{drop_all}
use Rattle.serde_json.specs.View.{items_of}
use Rattle.serde_json.specs.Written.{items_text}
use Rattle.check_said.specs.Json.{note_data}
use Rattle.json_pieces.proofs.TellLaws.{begins, moves, ends_by}
use Rattle.json_pieces.proofs.TextLaws.{item-of}
use Rattle.check_said.proofs.file_notes.put_notes.Goals as goal

pub loop-note-init : goal.loop-note-init
loop-note-init g c = begins _ _ (91 ∷ []) (items_text false (items_of (map (note_data) c.args.notes.now))) c.put.ensures

pub loop-note-preserved : goal.loop-note-preserved
loop-note-preserved g c =
    moves _ _ _ _ _ _ _ refl
    (moves _ _ _ _ _ _ _ (item-of (note_data) c.loop-note.later c.args.notes.now c.loop-note.note-index c.note-item.result c.loop-note-test.true c.note-item.is) c.loop-note.invariant c.put_comma_if.ensures)
    c.put_note.ensures

pub returns : goal.returns
returns g c =
    ends_by _ _ _ _ _ (93 ∷ []) (ap (λ l. items_text c.loop-note.later (items_of (map (note_data) l))) (drop_all c.loop-note.note-index c.args.notes.now c.loop-note-test.false)) c.loop-note.invariant c.put-2.ensures
