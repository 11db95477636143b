use Rattle.std.proofs.Common.{◌≡◌, ◌++◌, map, drop}
use Rattle.pk_copy.specs.Lastpk.{part_text}
use Rattle.pk_copy.specs.PartTextValue.{text_value}
use Rattle.pk_copy.specs.PartValue.{part_value}
use Rattle.pk_copy.proofs.written_key.texts_of.Given as goal

-- the texts so far, and those of the parts that are still to come, are all
abbrev pub invariant-loop-part : goal.invariant-loop-part
invariant-loop-part l = map text_value l.texts.items ++ map part_text (map part_value (drop l.part-index l.parts)) ≡ map part_text (map part_value l.fn.parts)
