use Rattle.std.proofs.Common.{◌≡◌, ◌-◌}
use Rattle.std.specs.Prelude.{slice_get}
use Rattle.row_view.proofs.row_bytes.RowBytes.column.Given as goal

-- column `i` is as many columns away as are left to pass
abbrev pub invariant-loop : goal.invariant-loop
invariant-loop l = slice_get l.columns (l.i - l.counter) ≡ slice_get l.self l.i
