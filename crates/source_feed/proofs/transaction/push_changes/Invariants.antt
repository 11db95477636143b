use Rattle.std.proofs.Common.{◌≡◌, ◌++◌}
use Rattle.source_feed.specs.Private.KeptGroups.{all_kept}
use Rattle.source_feed.proofs.transaction.push_changes.Given as goal

-- what was put and what is still to come are all
abbrev pub invariant-loop-change : goal.invariant-loop-change
invariant-loop-change l = l.changes.items ++ all_kept l.place l.change-iterator ≡ l.fn.changes.items ++ all_kept l.place l.fn.rows
