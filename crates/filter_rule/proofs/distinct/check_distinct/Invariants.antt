use Rattle.std.proofs.Common.{drop, map}
use Rattle.filter_rule.specs.Document.{has_twice}
use Rattle.filter_rule.proofs.DistinctLaws.{IsSeen}
use Rattle.filter_rule.proofs.distinct.check_distinct.Given as goal

-- what is left repeats a name exactly where the whole does
abbrev pub invariant-loop-item : goal.invariant-loop-item
invariant-loop-item g l =
    IsSeen l.seen.keys (drop l.item-index (map g.T.HasName.name l.items)) (has_twice (map g.T.HasName.name l.items))
