use Rattle.std.proofs.Common.{◌≡◌, ◌+◌, ◌++◌, length}
use Rattle.feed_check.specs.KeyedChanges.{keyed_from, keyed_in}
use Rattle.feed_check.proofs.keyed.keyed_group.Given as goal

-- the changes so far, and those of what is left, are the group's
abbrev pub invariant-loop-change : goal.invariant-loop-change
invariant-loop-change l =
    (l.place + length l.change-iterator ≡ l.count)
    × (l.keyed.items ++ keyed_from l.plan l.number (l.place + 1) l.change-iterator ≡ keyed_in l.plan l.group)
