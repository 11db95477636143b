use Rattle.std.proofs.Common.{◌≡◌, ◌+◌, ◌-◌, ◌%◌}
use Rattle.std.specs.Prelude.{slice_get}
use Rattle.row_view.proofs.row.RowView.column_counted.Given as goal

-- column `i` is as many columns away as are left to pass, and each passed one was a step
abbrev pub invariant-loop : goal.invariant-loop
invariant-loop g l = record {
  column : slice_get l.columns (l.i % 16 - l.counter) ≡ slice_get l.self l.i;
  steps : l.steps ≡ l.fn.steps + l.counter;
}
