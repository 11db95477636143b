use Rattle.std.proofs.Common.{◌≡◌, ◌++◌}
use Rattle.feed_check.specs.KeyedChanges.{keyed_changes}
use Rattle.feed_check.specs.Findings.{moves_of}
use Rattle.feed_check.proofs.moves.moves_of.Given as goal

-- those so far, and those of the groups that are left, are the whole
abbrev pub invariant-loop-group : goal.invariant-loop-group
invariant-loop-group g l = l.moves.items ++ moves_of (keyed_changes l.plan l.group-iterator) ≡ moves_of (keyed_changes l.plan l.groups.items)
