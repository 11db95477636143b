use Rattle.std.proofs.Common.{length, map}
use Rattle.std.specs.Arc.{arc_value}
use Rattle.vrepl_main.specs.Given.{given_value}
use Rattle.vrepl_main.proofs.AtOnceLaws.{IsSoFar}
use Rattle.vrepl_main.proofs.at_once.feeds_of.Given as goal

-- the feeds so far stand in front of those still to come
abbrev pub invariant-loop-one : goal.invariant-loop-one
invariant-loop-one l = IsSoFar (map arc_value l.plans) (map given_value l.given) l.feeds.items (length l.yielded)
