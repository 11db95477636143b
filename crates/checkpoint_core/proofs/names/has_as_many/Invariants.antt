use Rattle.std.proofs.Common.{◌≡◌, length}
use Rattle.checkpoint_core.proofs.names.has_as_many.Given as goal

-- there are as many in all exactly where there are as many still to come
abbrev pub invariant-loop : goal.invariant-loop
invariant-loop l =
    (length l.tables ≡ length l.others → length l.fn.one.tables ≡ length l.fn.other.tables)
    × (length l.fn.one.tables ≡ length l.fn.other.tables → length l.tables ≡ length l.others)

abbrev pub decreases-loop : goal.decreases-loop
decreases-loop l = length l.tables
