use Rattle.std.proofs.Common.{◌≡◌, true}
use Rattle.log_rows.specs.Head.{are_all}
use Rattle.log_rows.proofs.head.are_all.Given as goal

abbrev pub invariant-loop-place : goal.invariant-loop-place
invariant-loop-place l = are_all l.place l.bits ≡ true
