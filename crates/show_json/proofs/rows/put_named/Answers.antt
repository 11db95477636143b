use Rattle.std.proofs.Common.{[], ◌∷◌}
use Rattle.json_pieces.proofs.TellLaws.{then_tells}
use Rattle.show_json.proofs.rows.put_named.Goals as goal

pub returns : goal.returns
returns g c = then_tells _ _ _ _ _ c.put_comma_if.ensures (then_tells _ _ _ _ _ c.put_text.ensures (then_tells _ _ _ (58 ∷ []) _ c.put.ensures c.put_value.ensures))
