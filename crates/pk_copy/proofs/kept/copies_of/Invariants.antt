use Rattle.std.proofs.Common.{◌≡◌, map, take}
use Rattle.pk_copy.specs.PartValue.{owned_value}
use Rattle.pk_copy.proofs.kept.copies_of.Given as goal

-- the parts so far are copies of those that are given
abbrev pub invariant-loop-part : goal.invariant-loop-part
invariant-loop-part l = map owned_value l.copies.items ≡ map owned_value (take l.part-index l.parts)
