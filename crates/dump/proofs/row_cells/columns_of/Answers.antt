use Rattle.std.specs.Option.{option_map}
use Rattle.std.proofs.Common.{length}
use Rattle.row_view.specs.ColumnValue.{column_value}
use Rattle.dump.specs.Private.Spans.{bytes_at}
use Rattle.dump.proofs.ReadingLaws.{map_more}
use Rattle.dump.proofs.SpanLaws.{within_at}
use Rattle.dump.proofs.row_cells.columns_of.Goals as goal

pub column_of-requires : goal.column_of-requires
column_of-requires c = within_at (length c.args.values.now) c.loop-span.span-index c.args.spans.now _ c.loop-span-test.true c.requires

pub loop-span-preserved : goal.loop-span-preserved
loop-span-preserved c = rw c.in_ok-push.ensures.items (map_more column_value (option_map (bytes_at c.args.values.now)) c.loop-span.columns.items c.args.spans.now c.loop-span.span-index c.column_of.result _ c.loop-span.invariant c.column_of.ensures c.loop-span-test.true)
