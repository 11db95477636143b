use Rattle.std.proofs.Common.{[], ◌∷◌, ◌++◌, map, take}
use Rattle.json.specs.Print.{escape}
use Rattle.shown_text.specs.Shown.{printable_byte, shown}
use Rattle.json_pieces.proofs.TellLaws.{then_tells}
use Rattle.json_pieces.proofs.escaped.put_shown.Goals as goal

pub returns : goal.returns
unfolding shown
returns g c =
    let text = escape (map printable_byte (take 200 c.args.bytes.now)) in
    then_tells _ _ _ (34 ∷ []) (text ++ 34 ∷ []) c.put.ensures (then_tells _ _ _ text (34 ∷ []) (rw c.front.ensures at c.put_printable.ensures) c.put-2.ensures)
