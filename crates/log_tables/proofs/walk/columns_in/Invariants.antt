use Rattle.std.proofs.Common.{◌≡◌, ◌≤◌, map, drop}
use Rattle.log_tables.specs.Column.{wanted_value, column_value, told_value, columns_in}
use Rattle.log_tables.proofs.Fronts.{with_front}
use Rattle.log_tables.proofs.walk.columns_in.Given as goal

-- the columns so far, and those of the rest
abbrev pub invariant-loop-column : goal.invariant-loop-column
invariant-loop-column l =
    (with_front (map column_value l.columns.items) (columns_in (map wanted_value (drop l.column-index l.wanted)) l.others (told_value l.left)) ≡ columns_in (map wanted_value l.wanted) l.types (told_value l.fn.told))
    × (l.left.numbers ≤ l.column-index) × (l.left.collations.past ≤ l.column-index)
