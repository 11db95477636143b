use Rattle.std.proofs.Common.{◌≡◌, ◌+◌, ◌≤◌, eqb, length, take}
use Rattle.std.specs.List.{suffix_len}
use Rattle.vindex.specs.BoundDigits.{bytes_of_pairs}
use Rattle.vindex.proofs.bound_text.len_without_zeros.Given as goal

-- the 00 bytes passed so far, and those at the end of what is left, are those at the end of all
abbrev pub invariant-loop-len : goal.invariant-loop-len
invariant-loop-len l =
    (l.len ≤ length (bytes_of_pairs l.digits))
    × (l.len + suffix_len (λ byte. eqb byte 0) (bytes_of_pairs l.digits)
    ≡ length (bytes_of_pairs l.digits) + suffix_len (λ byte. eqb byte 0) (take l.len (bytes_of_pairs l.digits)))

abbrev pub decreases-loop-len : goal.decreases-loop-len
decreases-loop-len l = l.len
