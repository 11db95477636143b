use Rattle.std.proofs.Common.{map}
use Rattle.std.specs.Arc.{arc_value}
use Rattle.apply_core.specs.Private.Adding.{AreAgain}
use Rattle.apply_core.proofs.added_streams.groups_again.Given as goal

-- the groups so far go on from the stream
abbrev pub invariant-loop-i : goal.invariant-loop-i
invariant-loop-i l = AreAgain l.feed l.stream l.i (map arc_value l.groups.items)
