use Rattle.std.proofs.Common.{◌≡◌, [], map}
use Rattle.show_json.specs.Columns.{are_apart}
use Rattle.show_json.proofs.columns.are_apart.Given as goal

-- all names are apart if those still to come are, behind those so far
abbrev pub invariant-loop-column : goal.invariant-loop-column
invariant-loop-column l = are_apart (map (λ one. one.now) l.names.items) l.column-iterator ≡ are_apart [] l.fn.columns
