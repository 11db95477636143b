use Rattle.std.proofs.Common.{◌≡◌, map, take}
use Rattle.pk_copy.specs.PartValue.{owned_value}
use Rattle.pk_copy.specs.SmallPartValue.{small_value}
use Rattle.pk_copy.proofs.kept.owned_of_small.Given as goal

-- the parts so far are copies of those that are given
abbrev pub invariant-loop-part : goal.invariant-loop-part
invariant-loop-part l = map owned_value l.owned.items ≡ map small_value (take l.part-index l.parts)
