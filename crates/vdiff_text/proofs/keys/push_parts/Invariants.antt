use Rattle.std.proofs.Common.{◌≡◌, ◌++◌, drop, eqb, map}
use Rattle.std.specs.Prelude.{true}
use Rattle.pk_copy.specs.PartValue.{part_value}
use Rattle.vdiff_text.specs.ShownDifferences.{shown_parts}
use Rattle.vdiff_text.proofs.keys.push_parts.Given as goal

-- the parts so far and those that are left are the whole
abbrev pub invariant-loop-i : goal.invariant-loop-i
invariant-loop-i l = l.text.items ++ shown_parts (eqb l.i 0) (map part_value (drop l.i l.parts)) ≡ l.fn.text.items ++ shown_parts true (map part_value l.parts)
