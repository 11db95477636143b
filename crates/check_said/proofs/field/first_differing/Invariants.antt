use Rattle.std.proofs.Common.{◌≡◌, drop}
use Rattle.check_said.specs.Differing.{first_differing}
use Rattle.check_said.proofs.field.first_differing.Given as goal

-- the first is that of the columns that are left
abbrev pub invariant-loop-place : goal.invariant-loop-place
invariant-loop-place l = first_differing l.place (drop l.place l.columns) l.fields ≡ first_differing 0 l.columns l.fn.fields
