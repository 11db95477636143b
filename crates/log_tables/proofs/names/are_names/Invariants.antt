use Rattle.std.proofs.Common.{◌≡◌, map, drop}
use Rattle.log_tables.specs.Column.{wanted_value}
use Rattle.log_tables.specs.Extra.{are_names}
use Rattle.log_tables.proofs.names.are_names.Given as goal

abbrev pub invariant-loop-column : goal.invariant-loop-column
invariant-loop-column l = are_names (map (λ w. (wanted_value w).name) (drop l.column-index l.wanted)) l.left ≡ are_names (map (λ w. (wanted_value w).name) l.wanted) l.fn.names
