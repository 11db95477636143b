use Rattle.std.proofs.Common.{◌≡◌, map, take}
use Rattle.pk_copy.specs.PartValue.{part_value}
use Rattle.pk_copy.specs.SmallPartValue.{small_value}
use Rattle.pk_copy.proofs.lent_kept.small_of.Given as goal

-- the parts so far are those of the view
abbrev pub invariant-loop-part : goal.invariant-loop-part
invariant-loop-part l = map small_value l.kept.items ≡ map part_value (take l.part-index l.parts)
