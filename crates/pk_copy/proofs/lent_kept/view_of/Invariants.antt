use Rattle.std.proofs.Common.{◌≡◌, map, take, length}
use Rattle.pk_copy.specs.PartValue.{part_value}
use Rattle.pk_copy.specs.SmallPartValue.{small_value}
use Rattle.pk_copy.proofs.lent_kept.view_of.Given as goal

-- the parts so far are the key's
abbrev pub invariant-loop-part : goal.invariant-loop-part
invariant-loop-part l = record {
  count : length l.parts.items ≡ l.part-index;
  same : map part_value l.parts.items ≡ map small_value (take l.part-index l.kept);
}
