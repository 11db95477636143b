use Rattle.std.proofs.Common.{◌≡◌, ◌++◌, drop, map}
use Rattle.pk_copy.specs.PartValue.{part_value}
use Rattle.vrepl_c.specs.Encoded.{parts_bytes}
use Rattle.vrepl_c.proofs.keys.push_parts.Given as goal

-- the bytes so far and those of the parts that are left are the whole
abbrev pub invariant-loop-part : goal.invariant-loop-part
invariant-loop-part l = l.into.items ++ parts_bytes (map part_value (drop l.part-index l.parts)) ≡ l.fn.into.items ++ parts_bytes (map part_value l.parts)
