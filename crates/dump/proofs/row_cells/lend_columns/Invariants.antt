use Rattle.std.proofs.Common.{◌≡◌, length, take}
use Rattle.std.specs.Prelude.{map}
use Rattle.row_view.specs.ColumnValue.{column_value}
use Rattle.dump.specs.Private.Spans.{columns_at}
use Rattle.dump.proofs.row_cells.lend_columns.Given as goal

abbrev pub invariant-loop-span : goal.invariant-loop-span
invariant-loop-span l = record {
  so_far : map column_value (take l.span-index l.room) ≡ columns_at l.values (take l.span-index l.spans);
  room : length l.room ≡ length l.fn.room;
  place : l.place ≡ l.span-index;
}
