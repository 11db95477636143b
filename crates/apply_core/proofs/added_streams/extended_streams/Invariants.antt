use Rattle.apply_core.specs.Private.Adding.{AreExtendedUpTo}
use Rattle.apply_core.proofs.added_streams.extended_streams.Given as goal

-- the streams so far have the tables of their feeds' plans
abbrev pub invariant-loop-s : goal.invariant-loop-s
invariant-loop-s l = AreExtendedUpTo l.feeds l.streams l.s l.extended.items
