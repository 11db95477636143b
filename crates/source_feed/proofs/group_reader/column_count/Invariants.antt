use Rattle.std.proofs.Common.{◌≡◌, ◌+◌, ◌≤◌, length}
use Rattle.source_feed.specs.Private.FeedTables.{counted}
use Rattle.source_feed.proofs.group_reader.column_count.Given as goal

-- what is counted and what is still to come are all
abbrev pub invariant-loop-column : goal.invariant-loop-column
invariant-loop-column l = (l.count ≤ 65535) × (counted (l.count + length l._column-iterator) ≡ counted (length l.fn.fields))
