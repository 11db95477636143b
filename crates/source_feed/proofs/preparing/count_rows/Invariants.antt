use Rattle.std.proofs.Common.{◌≡◌, ◌+◌, ◌-◌, ◌^◌, ◌≤◌, drop, min}
use Rattle.source_feed.specs.Private.RowCounts.{rows_in}
use Rattle.source_feed.proofs.preparing.count_rows.Given as goal

-- the rows so far and those of the changes that follow are all
abbrev pub invariant-loop-change : goal.invariant-loop-change
invariant-loop-change l = (l.rows ≤ 2 ^ 64 - 1) × (min (l.rows + rows_in (drop l.change-index l.changes)) (2 ^ 64 - 1) ≡ min (rows_in l.changes) (2 ^ 64 - 1))
