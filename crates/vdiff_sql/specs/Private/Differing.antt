-- One place in two rows.
use Rattle.std.specs.Prelude.{ℕ, List, [], ◌∷◌, Option, if◌then◌else◌}
use Rattle.filter_rule.specs.PlanTable.{TableValue}
use Rattle.vdiff.specs.Report.{column_eq}
use Rattle.vdiff_sql.specs.Statements.{assignment}

-- the value for its column where another one stands there
abbrev pub assignments_at : TableValue → ℕ → Option (List ℕ) → Option (List ℕ) → List (List ℕ)
assignments_at table i value other = if column_eq value other then [] else assignment table (i, value) ∷ []
