use Rattle.std.proofs.Common.{◌≡◌, ◌+◌, drop, map}
use Rattle.source_feed.specs.Image.{lent_row}
use Rattle.feed_check.specs.Checked.{rows_of_table}
use Rattle.feed_check.proofs.last_rows.rows_of_table.Given as goal

-- the count so far, and that of the rows that are left, are that of all
abbrev pub invariant-loop-row : goal.invariant-loop-row
invariant-loop-row l = l.count + rows_of_table l.t (map lent_row (drop l.row-index l.rows)) ≡ rows_of_table l.t (map lent_row l.rows)
