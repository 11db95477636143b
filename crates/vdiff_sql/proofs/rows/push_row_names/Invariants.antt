use Rattle.std.proofs.Common.{◌≡◌, ◌++◌, drop, map, true}
use Rattle.std.specs.Prelude.{codes, slice_get}
use Rattle.vdiff_sql.specs.Columns.{listed, name_of, row_names}
use Rattle.vdiff_sql.proofs.rows.push_row_names.Given as goal

-- the names so far and those that are left are the whole
abbrev pub invariant-loop-place : goal.invariant-loop-place
invariant-loop-place l = l.text.items ++ listed (codes ", ") l.is_first (map (λ place. name_of (slice_get l.table.columns place)) (drop l.place-index l.place-items)) ≡ l.fn.text.items ++ listed (codes ", ") true (row_names l.table)
