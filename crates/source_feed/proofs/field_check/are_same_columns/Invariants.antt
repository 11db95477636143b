use Rattle.std.proofs.Common.{◌≡◌, drop}
use Rattle.source_feed.specs.Planned.{same_columns}
use Rattle.source_feed.proofs.field_check.are_same_columns.Given as goal

-- all columns are the same if those still to come are
abbrev pub invariant-loop-column : goal.invariant-loop-column
invariant-loop-column l = same_columns (drop l.column-index l.columns) l.fields ≡ same_columns l.columns l.fn.fields
