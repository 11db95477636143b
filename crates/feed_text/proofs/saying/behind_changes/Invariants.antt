use Rattle.feed_text.specs.Shown.{changes_text}
use Rattle.feed_text.specs.Private.SaidUpTo.{IsSaidUpTo}
use Rattle.feed_text.proofs.saying.behind_changes.Given as goal

-- the changes that were found and those that are left are the whole
abbrev pub invariant-loop-change : goal.invariant-loop-change
invariant-loop-change l = IsSaidUpTo l.fn.text l.rest (changes_text l.fn.changes) (changes_text l.change-iterator)
