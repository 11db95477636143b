use Rattle.std.proofs.Common.{[], ◌∷◌, ◌++◌}
use Rattle.json.specs.Print.{escape}
use Rattle.json_pieces.proofs.TellLaws.{then_tells}
use Rattle.json_pieces.proofs.escaped.put_string.Goals as goal

pub returns : goal.returns
returns g c =
    let bytes = c.args.bytes.now in
    then_tells _ _ _ (34 ∷ []) (escape bytes ++ 34 ∷ []) c.put.ensures (then_tells _ _ _ (escape bytes) (34 ∷ []) c.put_escaped.ensures c.put-2.ensures)
