use Rattle.std.proofs.Common.{◌≡◌, length, map}
use Rattle.log_tables.specs.Column.{column_value}
use Rattle.log_rows.specs.Change.{changes_of}
use Rattle.log_feed.specs.Private.Bytes.{with_changes}
use Rattle.log_feed.proofs.changes.put_changes.Given as goal

-- with those that are still to come the bytes are what they are with all
abbrev pub invariant-loop-more : goal.invariant-loop-more
invariant-loop-more l =
    with_changes l.kind l.changes.items l.changes.fault l.out.items
    ≡ with_changes l.kind (changes_of l.kind (map column_value l.fn.columns) l.fn.rows).items (changes_of l.kind (map column_value l.fn.columns) l.fn.rows).fault l.fn.out.items

abbrev pub decreases-loop-more : goal.decreases-loop-more
decreases-loop-more l = length l.changes.items
