use Rattle.std.proofs.Common.{◌≡◌, ◌++◌, drop, map}
use Rattle.std.specs.String.{string_bytes}
use Rattle.pk_copy.specs.PartValue.{part_value}
use Rattle.feed_check.specs.Report.{more_parts}
use Rattle.feed_check.proofs.key_text.push_more.Given as goal

-- the text so far, and that of the parts that are left, are the whole
abbrev pub invariant-loop-part : goal.invariant-loop-part
invariant-loop-part l = string_bytes l.text ++ more_parts (map part_value (drop l.part-index l.parts)) ≡ string_bytes l.fn.text ++ more_parts (map part_value l.parts)
