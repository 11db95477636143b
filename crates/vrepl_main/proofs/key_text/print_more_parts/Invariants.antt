use Rattle.std.proofs.Common.{drop, map}
use Rattle.pk_copy.specs.PartValue.{part_value}
use Rattle.dump.specs.KeyText.{more_parts}
use Rattle.vrepl_main.specs.Adding.{at, IsPutUpTo}
use Rattle.vrepl_main.proofs.key_text.print_more_parts.Given as goal

-- what is printed and what is left are the whole
abbrev pub invariant-loop-part : goal.invariant-loop-part
invariant-loop-part g l = IsPutUpTo (at (g.W.Out.written l.fn.out) l.fn.text) (at (g.W.Out.written l.out) l.text) (more_parts (map part_value l.fn.parts)) (more_parts (map part_value (drop l.part-index l.parts)))
