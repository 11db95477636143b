use Rattle.std.proofs.Common.{◌≡◌, ◌++◌, length}
use Rattle.std.specs.String.{string_bytes}
use Rattle.workflow_check.specs.Passing.{more_columns}
use Rattle.workflow_check.proofs.listed.push_more.Given as goal

-- the text so far, and the columns that are left, are the whole
abbrev pub invariant-loop-column : goal.invariant-loop-column
invariant-loop-column l = string_bytes l.text ++ more_columns l.left ≡ string_bytes l.fn.text ++ more_columns l.columns

abbrev pub decreases-loop-column : goal.decreases-loop-column
decreases-loop-column l = length l.left
