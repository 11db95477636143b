use Rattle.std.proofs.Common.{drop, map}
use Rattle.pk_copy.specs.PartValue.{part_value}
use Rattle.printing.specs.Private.Progress.{IsAddedTo}
use Rattle.dump.specs.KeyText.{more_parts}
use Rattle.vdiff.proofs.keys.add_more_parts.Given as goal

-- what is added and what is left are the whole
abbrev pub invariant-loop-part : goal.invariant-loop-part
invariant-loop-part g l = IsAddedTo (g.O.Out.written l.fn.out) l.fn.text (g.O.Out.written l.out) l.text (more_parts (map part_value l.fn.parts)) (more_parts (map part_value (drop l.part-index l.parts)))
