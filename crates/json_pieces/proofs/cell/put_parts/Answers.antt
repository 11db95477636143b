use Rattle.std.proofs.Common.{[], ◌∷◌, ap, map, refl, sym, false}
use Rattle.std.proofs.lemmas.List.{drop_all}
use Rattle.std.proofs.lemmas.Simd.{map-map}
use Rattle.pk_copy.specs.PartValue.{part_value}
use Rattle.pk_copy.specs.declared.part.KeyPart.{KeyPart}
use Rattle.pk_copy.specs.declared.part.KeyPart.TheVariants.{Number}
use Rattle.std.specs.Prelude.{pos}
use Rattle.serde_json.specs.View.{items_of}
use Rattle.serde_json.specs.Written.{items_text}
use Rattle.json_pieces.specs.Pieces.{part_data}
use Rattle.json_pieces.proofs.TellLaws.{begins, moves, ends_by, same_text}
use Rattle.json_pieces.proofs.TextLaws.{item-at}
use Rattle.json_pieces.proofs.cell.put_parts.Goals as goal

abbrev none : KeyPart
none = Number (pos 0)

pub loop-part-init : goal.loop-part-init
loop-part-init g c = begins _ _ (91 ∷ []) (items_text false (items_of (map (λ part. part_data (part_value part)) c.args.parts.now))) c.put.ensures

pub loop-part-preserved : goal.loop-part-preserved
loop-part-preserved g c =
    moves _ _ _ _ _ _ _ refl
    (moves _ _ _ _ _ _ _ (item-at (λ part. part_data (part_value part)) c.loop-part.later c.args.parts.now c.loop-part.part-index none c.loop-part-test.true) c.loop-part.invariant c.put_comma_if.ensures)
    c.put_part.ensures

pub returns : goal.returns
returns g c =
    same_text _ _ _ _ (ap (λ l. 91 ∷ items_text false (items_of l)) (sym (map-map part_data part_value c.args.parts.now)))
    (ends_by _ _ _ _ _ (93 ∷ []) (ap (λ l. items_text c.loop-part.later (items_of (map (λ part. part_data (part_value part)) l))) (drop_all c.loop-part.part-index c.args.parts.now c.loop-part-test.false)) c.loop-part.invariant c.put-2.ensures)
