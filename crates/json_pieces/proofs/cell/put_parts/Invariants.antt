use Rattle.std.proofs.Common.{◌∷◌, drop, false, map}
use Rattle.pk_copy.specs.PartValue.{part_value}
use Rattle.serde_json.specs.View.{items_of}
use Rattle.serde_json.specs.Written.{items_text}
use Rattle.json_pieces.specs.Pieces.{part_data}
use Rattle.json_pieces.specs.Telling.{IsToldUpTo, at}
use Rattle.json_pieces.proofs.cell.put_parts.Given as goal

-- what is told and what is left are the whole
abbrev pub invariant-loop-part : goal.invariant-loop-part
invariant-loop-part g l = IsToldUpTo (at (g.O.Out.written l.fn.out) l.fn.line) (at (g.O.Out.written l.out) l.line) (91 ∷ items_text false (items_of (map (λ part. part_data (part_value part)) l.parts))) (items_text l.later (items_of (map (λ part. part_data (part_value part)) (drop l.part-index l.parts))))
