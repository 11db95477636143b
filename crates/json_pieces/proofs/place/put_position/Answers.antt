use Rattle.std.proofs.Common.{[], ◌∷◌, ◌++◌}
use Rattle.gtid_set.specs.Printed.{printed_position}
use Rattle.json.specs.Print.{escape}
use Rattle.json_pieces.proofs.TellLaws.{then_tells}
use Rattle.json_pieces.proofs.place.put_position.Goals as goal

pub returns : goal.returns
returns g c =
    let text = escape (printed_position c.args.position.now) in
    then_tells _ _ _ (34 ∷ []) (text ++ 34 ∷ []) c.put.ensures (then_tells _ _ _ text (34 ∷ []) c.put_intervals.ensures c.put-2.ensures)
