use Rattle.std.proofs.Common.{◌≡◌, map, take}
use Rattle.pk_copy.specs.PartValue.{part_value, owned_value}
use Rattle.pk_copy.proofs.kept.owned_of.Given as goal

-- the parts so far are copies of the view's
abbrev pub invariant-loop-part : goal.invariant-loop-part
invariant-loop-part l = map owned_value l.owned.items ≡ map part_value (take l.part-index l.parts)
