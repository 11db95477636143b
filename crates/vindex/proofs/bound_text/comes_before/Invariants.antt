use Rattle.std.proofs.Common.{◌≡◌, drop}
use Rattle.std.specs.Cmp.Lexicographic.{slice_cmp}
use Rattle.std.specs.Ordering.{nat_cmp}
use Rattle.vindex.specs.BoundDigits.{bytes_of_pairs}
use Rattle.vindex.proofs.bound_text.comes_before.Given as goal

-- what is left of both is in the same order as the whole
abbrev pub invariant-loop-i : goal.invariant-loop-i
invariant-loop-i l =
    slice_cmp nat_cmp (drop l.i (bytes_of_pairs l.digits)) (drop l.i (bytes_of_pairs l.other)) ≡ slice_cmp nat_cmp (bytes_of_pairs l.digits) (bytes_of_pairs l.other)
