use Rattle.std.proofs.Common.{[], ◌∷◌, ◌++◌, ap, drop, false, map, refl, subst, List, ℕ}
use Rattle.std.proofs.lemmas.List.{drop_all}
use Rattle.serde_json.specs.View.{items_of}
use Rattle.serde_json.specs.Written.{items_text}
use Rattle.json_pieces.specs.Telling.{IsToldUpTo, at}
use Rattle.check_said.specs.Json.{item_data, note_item}
use Rattle.json_pieces.proofs.TellLaws.{begins, moves, ends_by}
use Rattle.json_pieces.proofs.TextLaws.{item-of}
use Rattle.check_said.proofs.JsonLaws.{item-before}
use Rattle.check_said.proofs.told_list.put_told.Goals as goal

pub loop-item-init : goal.loop-item-init
loop-item-init g c = begins _ _ (91 ∷ []) (items_text false (items_of (map item_data c.args.items.now ++ map note_item c.args.notes.now))) c.put.ensures

pub loop-item-preserved : goal.loop-item-preserved
loop-item-preserved g c =
    moves _ _ _ _ _ _ _ refl
    (moves _ _ _ _ _ _ _ (item-before item_data c.loop-item.later c.args.items.now (map note_item c.args.notes.now) c.loop-item.item-index c.item-item.result c.loop-item-test.true c.item-item.is) c.loop-item.invariant c.put_comma_if.ensures)
    c.put_item.ensures

pub loop-note-init : goal.loop-note-init
loop-note-init g c =
    subst (IsToldUpTo _ _ _) (ap (λ l. items_text c.loop-item.later (items_of (map item_data l ++ map note_item c.args.notes.now))) (drop_all c.loop-item.item-index c.args.items.now c.loop-item-test.false)) c.loop-item.invariant

pub loop-note-preserved : goal.loop-note-preserved
loop-note-preserved g c =
    moves _ _ _ _ _ _ _ refl
    (moves _ _ _ _ _ _ _ (item-of note_item c.loop-note.later c.args.notes.now c.loop-note.note-index c.note-item.result c.loop-note-test.true c.note-item.is) c.loop-note.invariant c.put_comma_if-in-loop-note.ensures)
    c.put_note.ensures

pub returns : goal.returns
returns g c =
    ends_by _ _ _ _ _ (93 ∷ []) (ap (λ l. items_text c.loop-note.later (items_of (map note_item l))) (drop_all c.loop-note.note-index c.args.notes.now c.loop-note-test.false)) c.loop-note.invariant c.put-2.ensures
