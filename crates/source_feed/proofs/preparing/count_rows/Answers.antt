use Rattle.std.proofs.Common.{◌≡◌, ◌+◌, drop, arith}
use Rattle.source_feed.specs.Private.RowCounts.{rows_in_change, rows_in}
use Rattle.source_feed.proofs.JudgedLaws.{at_item}
use Rattle.source_feed.proofs.preparing.count_rows.Goals as goal

pub loop-change-preserved : goal.loop-change-preserved
loop-change-preserved c =
    let i = c.loop-change.change-index in
    let changes = c.args.changes.now in
    let change = c.change-item.result in
    let here : rows_in_change change + rows_in (drop (i + 1) changes) ≡ rows_in (drop i changes) = at_item rows_in changes i change c.loop-change-test.true c.change-item.is in
    (omega (arith, c.saturating_add-rows.ensures), omega (arith, c.saturating_add-rows.ensures, c.row_count.ensures, c.loop-change.invariant.0, c.loop-change.invariant.1, here))
