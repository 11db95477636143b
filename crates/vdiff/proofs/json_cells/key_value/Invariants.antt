use Rattle.std.proofs.Common.{◌≡◌, map, take}
use Rattle.pk_copy.specs.PartValue.{part_value}
use Rattle.serde_json.specs.Data.{string}
use Rattle.serde_json.specs.View.{view}
use Rattle.dump.specs.KeyText.{part_cell}
use Rattle.vdiff.proofs.json_cells.key_value.Given as goal

-- the parts so far
abbrev pub invariant-loop-part : goal.invariant-loop-part
invariant-loop-part l = map view l.made.items ≡ map (λ part. string (part_cell (part_value part))) (take l.part-index l.part-items)
