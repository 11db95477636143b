use Rattle.std.proofs.Common.{◌≡◌, ◌++◌, List, reverse}
use Rattle.feed_check.specs.KeyedChanges.{KeyedChangeValue, keyed_changes}
use Rattle.feed_check.specs.Private.Replayed.{IsReplayed}
use Rattle.feed_check.proofs.before_images.findings_of.Given as goal

-- the changes so far are replayed, and those of the groups that are left are the others
abbrev pub invariant-loop-group : goal.invariant-loop-group
invariant-loop-group g l = (past : List KeyedChangeValue)
    × (past ++ keyed_changes l.plan l.group-iterator ≡ keyed_changes l.plan l.groups.items)
    × IsReplayed (reverse past) l.replay.rows l.replay.findings.items
