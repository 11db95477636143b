use Rattle.feed_text.specs.Shown.{shown}
use Rattle.feed_text.specs.Private.SaidUpTo.{IsSaidUpTo}
use Rattle.feed_text.proofs.saying.behind_groups.Given as goal

-- the groups that were found and those that are left are the whole
abbrev pub invariant-loop-group : goal.invariant-loop-group
invariant-loop-group l = IsSaidUpTo l.fn.text l.rest (shown l.fn.groups.items) (shown l.group-iterator)
