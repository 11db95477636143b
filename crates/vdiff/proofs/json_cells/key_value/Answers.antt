use Rattle.std.proofs.Common.{◌≡◌, ◌∙◌, ap, sym, List, map, take, arith}
use Rattle.std.proofs.lemmas.List.{take_all}
use Rattle.std.proofs.lemmas.Simd.{map-map}
use Rattle.pk_copy.specs.KeyValue.{Part}
use Rattle.pk_copy.specs.PartValue.{part_value}
use Rattle.pk_copy.specs.declared.part.KeyPart.{KeyPart}
use Rattle.serde_json.specs.Data.{Data, array, string}
use Rattle.serde_json.specs.View.{items_of}
use Rattle.serde_json.proofs.Views.{view-Array}
use Rattle.dump.specs.KeyText.{part_cell}
use Rattle.vdiff.specs.Json.{key_data}
use Rattle.vdiff.proofs.json_cells.key_value.Goals as goal

pub returns : goal.returns
returns c =
    let parts : List KeyPart = c.parts-part-items.result.now in
    let all : take c.loop-part.part-index parts ≡ parts = take_all c.loop-part.part-index parts (omega arith) in
    view-Array c.loop-part.made
    ∙ ap (λ (l : List Data). array (items_of l))
    (c.loop-part.invariant ∙ ap (map (λ (part : KeyPart). string (part_cell (part_value part)))) all ∙ sym (map-map (λ (part : Part). string (part_cell part)) part_value parts))
    ∙ ap (λ (l : List Part). array (items_of (map (λ (part : Part). string (part_cell part)) l))) c.parts-part-items.ensures.parts
    ∙ ap key_data c.view-view.ensures
