use Rattle.std.proofs.Common.{[], ◌∷◌}
use Rattle.proto_wire.specs.Varint.{shortest}
use Rattle.json_pieces.proofs.TellLaws.{then_tells}
use Rattle.compaction.proofs.sized_row.put_held_head.Goals as goal

pub returns : goal.returns
returns g c = then_tells _ _ _ (c.args.tag ∷ []) (shortest c.args.size) c.put.ensures c.put_number.ensures
